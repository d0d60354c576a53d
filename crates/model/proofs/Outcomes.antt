-- A call's outcome, by whether the table has another length. Assumes nothing.
use Prim.Native.Nat.{ℕ}
use mathlib.Core.Path.{◌≡◌, refl, sym, ap, subst, ◌∙◌}
use mathlib.Core.Bool.{Bool, true, false}
use mathlib.Core.List.{List}
use lib.ListN.{length}
use Rattle.model.specs.Notation.{if◌then◌otherwise◌}
use Rattle.model.specs.Limits.{Edition}
use Rattle.model.specs.Numbers as refusal
use Rattle.model.specs.Bytes.{Bytes}
use Rattle.model.specs.Table.{table}
use Rattle.model.specs.State.{State}
use Rattle.model.specs.Refusals.{wrong_table}
use Rattle.model.specs.Edits.{edit}
use Rattle.model.specs.Ledger.{Call, Answer, edition_for, step, with_table, without_table, table_after, Outcome, outcome}
use Rattle.model.proofs.Editions.{step-edition}

abbrev pub outcome_by : Bool → State → List ℕ → Call → Outcome
outcome_by wrong S words c =
    let s = if wrong then without_table S c otherwise with_table S c in
    record { answer = s.answer; words = if wrong then words otherwise table s.state.declared s.state.ties; state = s.state }

-- the state behind a call has the edition whose table the call was tested for, so one test tells answer, words and state
pub outcome-by : (S : State) (words : List ℕ) (c : Call) {wrong : Bool} → wrong_table (edition_for S c) (length words) ≡ wrong
    → outcome S words c ≡ outcome_by wrong S words c
unfolding step table_after
outcome-by S words c e =
    let s = step (length words) S c in
    ap (λ (d : Edition). record { answer = s.answer; words = if wrong_table d (length words) then words otherwise table s.state.declared s.state.ties; state = s.state })
    (step-edition (length words) S c)
    ∙ ap (λ (b : Bool). outcome_by b S words c) e

-- the answer, the words before and after and the state of an edit, on a table of another length and on one of the state's edition
module _ (S : State) (words : List ℕ) (line : Bytes) (kept : table_after words S ≡ words) where
  abbrev edited : Bool → Outcome
  edited wrong = outcome_by wrong S words (Call.edit line)

  pub edit-by-table : (P : Answer → List ℕ → List ℕ → State → Type 0) → P (Answer.edited refusal.wrong_table 0 0) words words S
      → P (Answer.edited (edit S line).number (edit S line).changed (edit S line).joins) (table S.declared S.ties)
      (table (edit S line).state.declared (edit S line).state.ties) (edit S line).state
      → P (outcome S words (Call.edit line)).answer words (outcome S words (Call.edit line)).words (outcome S words (Call.edit line)).state
  unfolding table_after
  edit-by-table P wrong right = go (wrong_table S.declared.edition (length words)) refl kept
    where
      by : (b : Bool) → (if b then words otherwise table S.declared S.ties) ≡ words → P (edited b).answer words (edited b).words (edited b).state
      by true k = wrong
      by false k = subst (λ (w : List ℕ). P (edited false).answer w (edited false).words (edited false).state) k right

      go : (b : Bool) → wrong_table S.declared.edition (length words) ≡ b → (if b then words otherwise table S.declared S.ties) ≡ words
          → P (outcome S words (Call.edit line)).answer words (outcome S words (Call.edit line)).words (outcome S words (Call.edit line)).state
      go b e k = subst (λ (o : Outcome). P o.answer words o.words o.state) (sym (outcome-by S words (Call.edit line) e)) (by b k)
