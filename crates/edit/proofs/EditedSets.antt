-- What an edit that gives the ledger's outcome does to the sets of a table: it changes the words of no holder that is neither the edited one nor below it,
-- where it is refused those of none, its count is that of the holders whose words changed, and its joins are document 02's sum. Assumes nothing.
use Prim.Native.Nat.{ℕ, ◌≤◌, ◌<◌}
use mathlib.Core.Path.{◌≡◌, refl, sym, ap, subst, ◌∙◌}
use mathlib.Core.Bool.{Bool, true, false, not}
use mathlib.Core.List.{List}
use mathlib.Core.Option.{some}
use native.Mathlib.Omega.{arith}
use lib.ListN.{replicate}
use lib.Dec.{eqb}
use Rattle.model.specs.Notation.{if◌then◌otherwise◌, count_of, below}
use Rattle.model.specs.Limits.{Edition, holder_numbers, join_limit, set_words}
use Rattle.model.specs.Bytes.{Bytes}
use Rattle.model.specs.Declarations.{Declarations, is_holder}
use Rattle.model.specs.Ties.{Tie, Ties, edited_holder}
use Rattle.model.specs.Table.{effective_set, stored_set, table, set_in}
use Rattle.model.specs.State.{State}
use Rattle.model.specs.Refusals.{edit_refusal}
use Rattle.model.specs.Edits as model
use Rattle.model.specs.Ledger as ledger
use Rattle.model.specs.Ledger.{Call, Answer, outcome}
use Rattle.model.proofs.WordTables.{same_refl}
use Rattle.model.proofs.Lists.{count-below}
use Rattle.model.proofs.Ledger.{edit-standing, edit-elsewhere, refused-edit}
use Rattle.model.proofs.Joins.{edit-joins, edit-joins-most}
use Rattle.model.proofs.Accepted.{edit-declared}
use Rattle.model.proofs.Editions.{edit-edition}
use Rattle.model.proofs.Outcomes.{edit-by-table}
use Rattle.model.proofs.TableLayout.{words_same, set-in-table}
use Rattle.model.proofs.Changes.{set_changed, changes-exact}
use Rattle.model.specs.Standing.{Standing}
use Rattle.book.specs.Calls.{answer_number, Gives, Together}
use Rattle.edit.specs.EditSteps.{SetsElsewhere}

stored_same : (D E : Declarations) (T U : Ties) (k : ℕ) → E ≡ D → ((p : ℕ) → effective_set D U k p ≡ effective_set D T k p) → stored_set E U k ≡ stored_set D T k
unfolding stored_set
stored_same D E T U k e same =
    ap (λ (F : Declarations). stored_set F U k) e ∙ ap (λ (w : List ℕ). if is_holder D k then w otherwise replicate set_words 0) (words_same (effective_set D U k) (effective_set D T k) (λ p l. same p))

-- no set of a table differs from itself
none-changed : (n : ℕ) (w : List ℕ) → count_of (set_changed w w) (below n) ≡ 0
unfolding set_changed
none-changed n w = count-below (set_changed w w) 0 n (omega arith) (λ k h l. ap not (same_refl (set_in w k)))

-- the count of an edit, accepted or refused
count-exact : {S : State} → Standing S → (line : Bytes)
    → (model.edit S line).changed
    ≡ count_of (set_changed (table S.declared S.ties) (table (model.edit S line).state.declared (model.edit S line).state.ties)) (below (holder_numbers S.declared.edition))
unfolding model.edit
count-exact {S} standing line = go (eqb (edit_refusal S line) 0) (edit-standing S line standing)
  where
    go : (b : Bool) → Standing (if b then model.accepting S line otherwise model.refusing S line).state
        → (if b then model.accepting S line otherwise model.refusing S line).changed
        ≡ count_of (set_changed (table S.declared S.ties) (table (if b then model.accepting S line otherwise model.refusing S line).state.declared (if b then model.accepting S line otherwise model.refusing S line).state.ties)) (below (holder_numbers S.declared.edition))
    go true after = changes-exact S.declared S.ties (model.accepting S line).state.ties standing after
    go false after = sym (none-changed (holder_numbers S.declared.edition) (table S.declared S.ties))

module _ (line : Bytes) {S : State} {book words : List ℕ} {code : Bytes} {a : Answer} {words' book' : List ℕ} {code' : Bytes}
    (together : Together S book code words) (given : Gives (outcome S words (Call.edit line)) a words' book' code') where
  -- no holder that is neither the edited one nor below it
  pub sets-elsewhere : SetsElsewhere S line words words'
  unfolding effective_set
  sets-elsewhere k h far =
      ap (λ (w : List ℕ). set_in w k) (sym given.table)
      ∙ edit-by-table S words line together.kept (λ b w u T. set_in u k ≡ set_in w k) refl
      (set-in-table (model.edit S line).state.declared (model.edit S line).state.ties k (subst (λ (e : Edition). k < holder_numbers e) (sym (edit-edition S line)) h)
      ∙ stored_same S.declared (model.edit S line).state.declared S.ties (model.edit S line).state.ties k (edit-declared S line) (λ p. edit-elsewhere S line k p far)
      ∙ sym (set-in-table S.declared S.ties k h))

  -- "a refused edit changes nothing"
  pub refused-sets : (answer_number a ≡ 0 → ⊥) → words' ≡ words
  refused-sets refused =
      sym given.table
      ∙ edit-by-table S words line together.kept (λ b w u T. b ≡ a → u ≡ w) (λ e. refl)
      (λ e. ap (λ (T : State). table T.declared T.ties) (refused-edit S line (λ z. refused (sym (ap answer_number e) ∙ z))).0)
      given.answered

  -- the count is that of the holders whose four words differ
  pub sets-counted : {number changed joins : ℕ} → a ≡ ledger.edited number changed joins → changed ≡ count_of (set_changed words words') (below (holder_numbers S.declared.edition))
  sets-counted {number} {changed} {joins} is =
      edit-by-table S words line together.kept (λ b w u T. b ≡ ledger.edited number changed joins → changed ≡ count_of (set_changed w u) (below (holder_numbers S.declared.edition)))
      (λ e. let z : changed ≡ 0 = cc in z ∙ sym (none-changed (holder_numbers S.declared.edition) words))
      (λ e. let n : changed ≡ (model.edit S line).changed = cc in n ∙ count-exact together.standing line)
      (given.answered ∙ is)
      ∙ ap (λ (u : List ℕ). count_of (set_changed words u) (below (holder_numbers S.declared.edition))) given.table

  -- document 02, E3: the joins are the sum over the edited holder and each one below it, on the ties behind the edit
  pub sets-joined : {number changed joins : ℕ} → a ≡ ledger.edited number changed joins → number ≡ 0 → (t : Tie) → model.edited_tie S line ≡ some t
      → joins ≡ model.set_joins S.declared (outcome S words (Call.edit line)).state.ties (edited_holder t)
  sets-joined {number} {changed} {joins} is zero t tie =
      edit-by-table S words line together.kept (λ b w u T. b ≡ ledger.edited number changed joins → joins ≡ model.set_joins S.declared T.ties (edited_holder t))
      (λ e. let one : ◌≡◌ {A = ℕ} 1 number = cc in absurd (omega (arith, one, zero)))
      (λ e.
      let n : joins ≡ (model.edit S line).joins = cc in
      let z : (model.edit S line).number ≡ number = cc in
      n ∙ edit-joins S line (z ∙ zero) t tie)
      (given.answered ∙ is)

  -- "at most 16,640", over the edition's number of holders
  pub joins-within : {number changed joins : ℕ} → a ≡ ledger.edited number changed joins → joins ≤ join_limit S.declared.edition
  joins-within {number} {changed} {joins} is =
      edit-by-table S words line together.kept (λ b w u T. b ≡ ledger.edited number changed joins → joins ≤ join_limit S.declared.edition)
      (λ e. let z : joins ≡ 0 = cc in omega (arith, z))
      (λ e. let n : (model.edit S line).joins ≡ joins = cc in subst (λ (j : ℕ). j ≤ join_limit S.declared.edition) n (edit-joins-most S line together.standing))
      (given.answered ∙ is)

  -- "A refused edit reports 0"
  pub refused-joins : {number changed joins : ℕ} → a ≡ ledger.edited number changed joins → (number ≡ 0 → ⊥) → joins ≡ 0
  refused-joins {number} {changed} {joins} is refused =
      edit-by-table S words line together.kept (λ b w u T. b ≡ ledger.edited number changed joins → joins ≡ 0)
      (λ e. cc)
      (λ e.
      let n : joins ≡ (model.edit S line).joins = cc in
      let z : number ≡ (model.edit S line).number = cc in
      n ∙ (refused-edit S line (λ y. refused (z ∙ y))).2)
      (given.answered ∙ is)
