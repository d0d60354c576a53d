-- What holds of every state that a list of calls leaves, and of the table with it: sets are the least that the document's sentence allows, `is_below`
-- says what a chain of ties says, each bit of the table tells an effective pair, and an edit's count is that of the sets it changed.
-- Assumes nothing.
use Prim.Native.Nat.{ℕ, ◌<◌}
use mathlib.Core.Path.{◌≡◌, refl, sym, ap, subst, ◌∙◌}
use mathlib.Core.Logic.{◌↔◌}
use mathlib.Core.Bool.{Bool, true, false, ◌&&◌, ◌||◌, not, true≢false}
use mathlib.Core.List.Memᴰ.{head as here}
use mathlib.Core.List.Memᴰ.{tail as there}
use mathlib.Core.List.{List, [], ◌∷◌}
use native.Mathlib.Omega.{arith}
use lib.ListN.{length}
use lib.Dec.{eqb}
use borrow.Author.Tests.{eq-eqb}
use Rattle.model.specs.Notation.{if◌then◌otherwise◌, count_of, below}
use Rattle.model.specs.Limits.{Edition, holder_numbers, pair_limit, table_words}
use Rattle.model.specs.Bytes.{Bytes}
use Rattle.model.specs.Declarations.{holder_numbers_of}
use Rattle.model.specs.Ties.{Tie, Ties, edited_holder, added, removed, Below, is_below}
use Rattle.model.specs.Effective.{effective}
use Rattle.model.specs.Table.{effective_set, table}
use Rattle.model.specs.State.{State, empty}
use Rattle.model.specs.Refusals.{wrong_table, edit_refusal}
use Rattle.model.specs.Edits.{accepting, refusing, edit}
use Rattle.model.specs.Standing.{Standing, DifferAt}
use Rattle.model.specs.Ledger.{Call, Outcome, outcome, table_after, ledger_from, ledger}
use Rattle.model.proofs.WordTables.{same_refl}
use Rattle.model.proofs.Lists.{◌∈◌, count-below}
use Rattle.model.proofs.Ties.{other-tie}
use Rattle.model.proofs.Chains
use Rattle.model.proofs.Effective
use Rattle.model.proofs.Effective.{Closed}
use Rattle.model.proofs.TableLayout.{pair_in, set_in, standing-layout}
use Rattle.model.proofs.Changes.{set_changed, changes-exact}
use Rattle.model.proofs.Standing.{among}
use Rattle.model.proofs.Ledger.{edit-standing, ledger-standing}
use Rattle.model.proofs.Gate.{words-after}

-- S stands after a call of some list, on a table of any length and content
pub record Reached (S : State) : Type 0 where
  pub words : List ℕ
  pub file : Bytes
  pub calls : List Call
  pub last : Outcome
  pub in-ledger : last ∈ ledger words file calls
  pub state-is : last.state ≡ S

-- the table of a state
abbrev pub table_of : State → List ℕ
table_of S = table S.declared S.ties

unchanged : (t : List ℕ) (k : ℕ) → set_changed t t k ≡ false
unfolding set_changed
unchanged t k = ap not (same_refl (set_in t k))

-- ---- each state of a list stands, and each table is that of its state

pub reached-standing : {S : State} → Reached S → Standing S
reached-standing r = subst Standing r.state-is (ledger-standing r.words r.file r.calls r.last r.in-ledger)

pub right-table : (e : Edition) (words : List ℕ) → length words ≡ table_words e → wrong_table e (length words) ≡ false
unfolding wrong_table
right-table e words long = ap not (eq-eqb (length words) (table_words e) long)

pub table-after : (words : List ℕ) (S : State) → length words ≡ table_words S.declared.edition → table_after words S ≡ table_of S
unfolding table_after
table-after words S long = ap (λ (b : Bool). if b then words otherwise table_of S) (right-table S.declared.edition words long)

from-words : (S : State) (words : List ℕ) (calls : List Call) {o : Outcome} → o ∈ ledger_from S words calls
    → length words ≡ table_words o.state.declared.edition → o.words ≡ table_of o.state
from-words S words [] m long = elim m [ ]
from-words S words (c ∷ calls) {o} (here e) long =
    subst (λ (x : Outcome). length words ≡ table_words x.state.declared.edition → x.words ≡ table_of x.state) (sym e)
    (table-after words (outcome S words c).state) long
from-words S words (c ∷ calls) (there m) long =
    let o = outcome S words c in
    from-words o.state o.words calls m (words-after words o.state ∙ long)

-- ---- a state that is reached

module _ {S : State} (reached : Reached S) where
  standing : Standing S
  standing = reached-standing reached

  -- "effective(h): its own direct pairs together with those inherited": closed under the sentence, and the least such set
  pub effective-closed : Closed S.ties (λ h p. effective_set S.declared S.ties h p ≡ true)
  unfolding effective_set
  effective-closed = Effective.effective-closed (holder_numbers_of S.declared) S.ties (among standing) standing.acyclic

  pub effective-least : (F : ℕ → ℕ → Type 0) → Closed S.ties F → (h p : ℕ) → effective_set S.declared S.ties h p ≡ true → F h p
  unfolding effective_set
  effective-least = Effective.effective-least (holder_numbers_of S.declared) S.ties (among standing) standing.acyclic

  -- "a chain of ties leads from h up to g"
  pub is_below_lem : (h g : ℕ) → (is_below (holder_numbers_of S.declared) S.ties h g ≡ true) ↔ Below S.ties h g
  is_below_lem = Chains.is_below_lem (holder_numbers_of S.declared) S.ties (among standing) standing.acyclic

  -- a tie more or one less changes the set of no holder but the edited one and those below it
  pub same-elsewhere : (t : Tie) (k p : ℕ) → (k ≡ edited_holder t → ⊥) → is_below (holder_numbers_of S.declared) S.ties k (edited_holder t) ≡ false
      → (effective_set S.declared (added t S.ties) k p ≡ effective_set S.declared S.ties k p)
      × (effective_set S.declared (removed t S.ties) k p ≡ effective_set S.declared S.ties k p)
  unfolding effective_set
  same-elsewhere t k p other no-chain = (
    elsewhere (added t S.ties) (λ u n. ap (λ (b : Bool). b || S.ties u) (other-tie t u n)),
    elsewhere (removed t S.ties) (λ u n. ap (λ (b : Bool). not b && S.ties u) (other-tie t u n)),
  )
    where
      elsewhere : (U : Ties) → DifferAt (edited_holder t) S.ties U
          → effective (holder_numbers_of S.declared) U k p ≡ effective (holder_numbers_of S.declared) S.ties k p
      elsewhere U differ =
          Effective.same-elsewhere (holder_numbers_of S.declared) S.ties U (edited_holder t) differ k p other
          (λ c. true≢false (sym ((is_below_lem k (edited_holder t)).1 c) ∙ no-chain))

  -- "the number of holders whose stored set changed": those whose four words are others in the table behind the edit
  pub edit-count : (line : Bytes) → (edit S line).changed ≡ count_of (set_changed (table_of S) (table_of (edit S line).state)) (below (holder_numbers S.declared.edition))
  unfolding edit
  edit-count line = go (eqb (edit_refusal S line) 0) (edit-standing S line standing)
    where
      go : (b : Bool) → Standing (if b then accepting S line otherwise refusing S line).state
          → (if b then accepting S line otherwise refusing S line).changed
          ≡ count_of (set_changed (table_of S) (table_of (if b then accepting S line otherwise refusing S line).state)) (below (holder_numbers S.declared.edition))
      go true after = changes-exact S.declared S.ties (accepting S line).state.ties standing after
      go false after = sym (count-below (set_changed (table_of S) (table_of S)) 0 (holder_numbers S.declared.edition) (omega arith) (λ k h l. unchanged (table_of S) k))

-- ---- the table in the list

module _ (words : List ℕ) (file : Bytes) (calls : List Call) {o : Outcome} (m : o ∈ ledger words file calls)
    (long : length words ≡ table_words o.state.declared.edition) where
  -- "all 1,024 words with those that effective on T gives", on a table of the state's edition
  pub ledger-table : o.words ≡ table_of o.state
  unfolding ledger
  ledger-table = from-words (empty Edition.first) words (Call.load file ∷ calls) m long

  -- so after every call of every list bit p modulo 64 of word p/64 of the four words from word 4k tells whether p is effective for k
  pub ledger-layout : (k p : ℕ) → k < holder_numbers o.state.declared.edition → p < pair_limit → pair_in o.words k p ≡ effective_set o.state.declared o.state.ties k p
  ledger-layout k p h l =
      ap (λ (t : List ℕ). pair_in t k p) ledger-table
      ∙ standing-layout (reached-standing (record { words = words; file = file; calls = calls; last = o; in-ledger = m; state-is = refl })) k p h l
