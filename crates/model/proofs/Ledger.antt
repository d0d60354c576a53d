-- The ledger: every state that calls leave is standing; a refused edit and a request change nothing; an edit changes the sets of the edited
-- holder and those below it alone. Assumes nothing.
use Prim.Native.Nat.{ℕ, suc}
use mathlib.Core.Path.{◌≡◌, refl, sym, ap, subst}
use mathlib.Core.Bool.{Bool, true, false, ◌&&◌, ◌||◌, not, true≢false}
use mathlib.Core.List.Memᴰ.{head as here}
use mathlib.Core.List.Memᴰ.{tail as there}
use mathlib.Core.List.{List, [], ◌∷◌}
use mathlib.Core.Option.{Option, none, some}
use lib.ListN.{length}
use lib.Dec.{eqb}
use borrow.Author.Tests.{eqb-true, eqb-false}
use Rattle.model.specs.Notation.{if◌then◌otherwise◌, ◌>>=◌, ◌or_else◌, ◌is◌, is_none}
use Rattle.model.specs.Limits.{Edition}
use Rattle.model.specs.Numbers as refusal
use Rattle.model.specs.Bytes.{Bytes, lines_of}
use Rattle.model.specs.Keys.{Key}
use Rattle.model.specs.Lines.{named_edition, Line, read_line}
use Rattle.model.specs.Declarations.{holder_numbers_of}
use Rattle.model.specs.Ties.{Tie, Ties, edited_holder, added, removed, Below}
use Rattle.model.specs.Effective.{effective}
use Rattle.model.specs.State.{State, empty, tie_of}
use Rattle.model.specs.Refusals.{◌if◌, too_long, wrong_first_line, wrong_table, line_tests, line_refusal, over_limits, undeclared, wrong_sort, repeated, full, tie_closes, circular, plus_line, minus_line, signed_line, edit_tests, edit_refusal}
use Rattle.model.specs.Load
use Rattle.model.specs.Load.{Loaded, read_on, stepped, key_of, refused_at, other_lines}
use Rattle.model.specs.Edits
use Rattle.model.specs.Edits.{Edited, edited_tie, adds, edited_ties, accepting, refusing}
use Rattle.model.specs.Ledger.{Call, edition_for, step, with_table, without_table, Outcome, outcome, ledger_from, ledger}
use Rattle.model.specs.Standing.{Standing, DifferAt}
use Rattle.model.proofs.Options.{bind-some, some-not}
use Rattle.model.proofs.Tests.{none-holds}
use Rattle.model.proofs.Ties.{other-tie}
use Rattle.model.proofs.Effective.{same-elsewhere}
use Rattle.model.proofs.Lists.{◌∈◌}
use Rattle.model.proofs.Lines.{line-formed}
use Rattle.model.proofs.Declared.{Acceptable}
use Rattle.model.proofs.Standing.{empty-standing, after-standing, added-standing, removed-standing, tie-fits}

-- a line that is not refused: no condition of a number holds
pub accepted-line : (S : State) (previous : Option Key) (line : Bytes) (l : Line) → line_refusal S previous line ≡ 0 → read_line line ≡ some l
    → Acceptable S l × (circular S l ≡ false)
unfolding line_refusal
accepted-line S previous line l e q =
    let r = none-holds (line_tests S previous line) refl e in
    let t7 : (read_line line is over_limits) ≡ false = r.1.1.1.0 in
    let t8 : (read_line line is undeclared S.declared) ≡ false = r.1.1.1.1.0 in
    let t9 : (read_line line is wrong_sort S.declared) ≡ false = r.1.1.1.1.1.0 in
    let t10 : (read_line line is repeated S) ≡ false = r.1.1.1.1.1.1.0 in
    let t11 : (read_line line is full S.declared) ≡ false = r.1.1.1.1.1.1.1.0 in
    let t12 : (read_line line is circular S) ≡ false = r.1.1.1.1.1.1.1.1.0 in (
      record { formed = line-formed line l q; within = rw q at t7; known = rw q at t8; sorted = rw q at t9; new = rw q at t10; room = rw q at t11 },
      rw q at t12,
    )

-- ---- a load

stepped-standing : (S : State) (previous : Option Key) (line : Bytes) → Standing S → line_refusal S previous line ≡ 0 → (o : Option Line) → read_line line ≡ o → Standing (stepped S o)
stepped-standing S previous line standing e none q = standing
stepped-standing S previous line standing e (some l) q = let (a, c) = accepted-line S previous line l e q in after-standing l standing a c

read-standing : (edition : Edition) (S : State) (previous : Option Key) (n : ℕ) (ls : List Bytes) → Standing S → Standing (read_on edition S previous n ls).state
unfolding read_on
read-standing edition S previous n [] standing = standing
read-standing edition S previous n (l ∷ ls) standing = go (eqb (line_refusal S previous l) 0) refl (λ T key s. read-standing edition T key (suc n) ls s)
  where
    go : (b : Bool) → eqb (line_refusal S previous l) 0 ≡ b → ((T : State) (key : Option Key) → Standing T → Standing (read_on edition T key (suc n) ls).state)
        → Standing (elim b as (λ _. Loaded) [ true ↦ read_on edition (stepped S (read_line l)) (key_of l) (suc n) ls | false ↦ refused_at edition (line_refusal S previous l) (suc n) ]).state
    go true e f = f (stepped S (read_line l)) (key_of l) (stepped-standing S previous l standing (eqb-true _ _ e) (read_line l) refl)
    go false e f = empty-standing edition

pub load-standing : (file : Bytes) → Standing (Load.load file).state
unfolding Load.load
load-standing file = go (too_long file) (wrong_first_line file)
  where
    go : (b c : Bool) → Standing (elim b as (λ _. Loaded) [ true ↦ refused_at (named_edition file) refusal.too_long 0 | false ↦ elim c as (λ _. Loaded) [ true ↦ refused_at (named_edition file) refusal.wrong_first_line 1 | false ↦ read_on (named_edition file) (empty (named_edition file)) none 1 (other_lines (lines_of file)) ] ]).state
    go true c = empty-standing (named_edition file)
    go false true = empty-standing (named_edition file)
    go false false = read-standing (named_edition file) (empty (named_edition file)) none 1 (other_lines (lines_of file)) (empty-standing (named_edition file))

-- ---- an edit

-- an edit that is not refused: its line, read, has no wrong sort, and closes no circle where it adds
accepted-edit : (S : State) (edit : Bytes) (l : Line) → edit_refusal S edit ≡ 0 → (signed_line edit >>= read_line) ≡ some l
    → (wrong_sort S.declared l ≡ false) × (((plus_line edit >>= read_line) is circular S) ≡ false)
unfolding edit_refusal
accepted-edit S edit l e q =
    let r = none-holds (edit_tests S edit) refl e in
    let t9 : ((signed_line edit >>= read_line) is wrong_sort S.declared) ≡ false = r.1.1.1.1.0 in
    (rw q at t9, r.1.1.1.1.1.1.0)

-- the line of an edit that adds
plus-line : (edit : Bytes) (l : Line) → is_none (plus_line edit) ≡ false → (signed_line edit >>= read_line) ≡ some l → (plus_line edit >>= read_line) ≡ some l
plus-line edit l a e = go (plus_line edit) (minus_line edit) a e
  where
    go : (p m : Option Bytes) → is_none p ≡ false → ((p or_else m) >>= read_line) ≡ some l → (p >>= read_line) ≡ some l
    go none m a f = absurd (true≢false a)
    go (some x) m a f = f

module _ (S : State) (line : Bytes) where
  -- the ties behind an accepted edit
  accepted-standing : Standing S → edit_refusal S line ≡ 0 → (b : Bool) → is_none (plus_line line) ≡ b → (o : Option Tie) → edited_tie S line ≡ o
      → Standing (record { declared = S.declared; ties = edited_ties (not b) o S.ties })
  unfolding edited_tie circular
  accepted-standing standing e b a none q = standing
  accepted-standing standing e true a (some t) q = removed-standing standing t
  accepted-standing standing e false a (some t) q =
      let r = bind-some (signed_line line >>= read_line) (tie_of S.declared) q in
      let l = r.0 in
      let c = accepted-edit S line l e r.1 in
      added-standing standing t (tie-fits S.declared l t r.2 c.0)
      (some-not (tie_of S.declared l) (tie_closes (holder_numbers_of S.declared) S.ties)
      (some-not (plus_line line >>= read_line) (circular S) c.1 l (plus-line line l a r.1)) t r.2)

  -- an edit, accepted or refused
  pub edit-cases : (P : Edited → Type 0)
      → (edit_refusal S line ≡ 0 → P (accepting S line))
      → ((edit_refusal S line ≡ 0 → ⊥) → P (refusing S line))
      → P (Edits.edit S line)
  unfolding Edits.edit
  edit-cases P yes' no' = go (eqb (edit_refusal S line) 0) refl
    where
      go : (b : Bool) → eqb (edit_refusal S line) 0 ≡ b → P (elim b as (λ _. Edited) [ true ↦ accepting S line | false ↦ refusing S line ])
      go true e = yes' (eqb-true _ _ e)
      go false e = no' (eqb-false _ _ e)

  pub edit-standing : Standing S → Standing (Edits.edit S line).state
  edit-standing standing =
      edit-cases (λ r. Standing r.state) (λ e. accepted-standing standing e (is_none (plus_line line)) refl (edited_tie S line) refl) (λ n. standing)

  -- the number of an edit's answer is its refusal
  pub edit-number : (Edits.edit S line).number ≡ edit_refusal S line
  edit-number = edit-cases (λ r. r.number ≡ edit_refusal S line) (λ e. sym e) (λ n. refl)

  -- "a refused edit … changes nothing", and its count and its joins are 0
  pub refused-edit : ((Edits.edit S line).number ≡ 0 → ⊥) → ((Edits.edit S line).state ≡ S) × ((Edits.edit S line).changed ≡ 0) × ((Edits.edit S line).joins ≡ 0)
  refused-edit = edit-cases (λ r. (r.number ≡ 0 → ⊥) → (r.state ≡ S) × (r.changed ≡ 0) × (r.joins ≡ 0)) (λ e n. absurd (n refl)) (λ n m. (refl, refl, refl))

-- ---- an edit changes ties of the edited holder alone

added-differs : (t : Tie) (T : Ties) → DifferAt (edited_holder t) T (added t T)
added-differs t T u n = ap (λ (b : Bool). b || T u) (other-tie t u n)

removed-differs : (t : Tie) (T : Ties) → DifferAt (edited_holder t) T (removed t T)
removed-differs t T u n = ap (λ (b : Bool). not b && T u) (other-tie t u n)

-- an edit changes the set of no holder that is neither the edited one nor below it
pub edit-elsewhere : (S : State) (line : Bytes) (k p : ℕ)
    → ((t : Tie) → edited_tie S line ≡ some t → (k ≡ edited_holder t → ⊥) × (Below S.ties k (edited_holder t) → ⊥))
    → effective (holder_numbers_of S.declared) (Edits.edit S line).state.ties k p ≡ effective (holder_numbers_of S.declared) S.ties k p
edit-elsewhere S line k p elsewhere =
    edit-cases S line (λ r. effective (holder_numbers_of S.declared) r.state.ties k p ≡ effective (holder_numbers_of S.declared) S.ties k p)
    (λ e. go (adds line) (edited_tie S line) elsewhere) (λ n. refl)
  where
    go : (plus : Bool) (o : Option Tie) → ((t : Tie) → o ≡ some t → (k ≡ edited_holder t → ⊥) × (Below S.ties k (edited_holder t) → ⊥))
        → effective (holder_numbers_of S.declared) (edited_ties plus o S.ties) k p ≡ effective (holder_numbers_of S.declared) S.ties k p
    go plus none f = refl
    go true (some t) f =
        same-elsewhere (holder_numbers_of S.declared) S.ties (added t S.ties) (edited_holder t) (added-differs t S.ties) k p (f t refl).0 (f t refl).1
    go false (some t) f =
        same-elsewhere (holder_numbers_of S.declared) S.ties (removed t S.ties) (edited_holder t) (removed-differs t S.ties) k p (f t refl).0 (f t refl).1

-- ---- calls

pub step-standing : (words : ℕ) {S : State} (c : Call) → Standing S → Standing (step words S c).state
unfolding step
step-standing words {S} c standing = go (wrong_table (edition_for S c) words) c
  where
    go : (b : Bool) (c : Call) → Standing (if b then without_table S c otherwise with_table S c).state
    go true (Call.load file) = empty-standing (named_edition file)
    go true (Call.edit line) = standing
    go true (Call.request block) = standing
    go false (Call.load file) = load-standing file
    go false (Call.edit line) = edit-standing S line standing
    go false (Call.request block) = standing

-- "State: declarations D of the file … and a set T of ties": every state in a ledger stands
pub from-standing : (S : State) (words : List ℕ) (calls : List Call) → Standing S → (o : Outcome) → o ∈ ledger_from S words calls → Standing o.state
from-standing S words [] standing o m = elim m [ ]
from-standing S words (c ∷ calls) standing o (here e) = subst (λ (x : Outcome). Standing x.state) (sym e) (step-standing (length words) c standing)
from-standing S words (c ∷ calls) standing o (there m) =
    from-standing (outcome S words c).state (outcome S words c).words calls (step-standing (length words) c standing) o m

pub ledger-standing : (words : List ℕ) (file : Bytes) (calls : List Call) (o : Outcome) → o ∈ ledger words file calls → Standing o.state
unfolding ledger
ledger-standing words file calls = from-standing (empty Edition.first) words (Call.load file ∷ calls) (empty-standing Edition.first)

-- a request changes nothing
pub request-keeps : (words : ℕ) (S : State) (block : Bytes) → (step words S (Call.request block)).state ≡ S
unfolding step
request-keeps words S block = go (wrong_table S.declared.edition words)
  where
    go : (b : Bool) → (if b then without_table S (Call.request block) otherwise with_table S (Call.request block)).state ≡ S
    go true = refl
    go false = refl
