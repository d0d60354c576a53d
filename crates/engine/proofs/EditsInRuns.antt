-- What an edit does in a run: it changes the words of no holder that is neither the edited one nor below it, where it is refused those of none, its count is
-- that of the holders whose words changed, and its joins are document 02's sum. Assumes nothing.
use Prim.Native.Nat.{ℕ, ◌≤◌}
use mathlib.Core.Path.{◌≡◌, refl}
use mathlib.Core.List.{List}
use mathlib.Core.Option.{some}
use Rattle.model.specs.Notation.{count_of, below}
use Rattle.model.specs.Limits.{holder_numbers, join_limit}
use Rattle.model.specs.Bytes.{Bytes}
use Rattle.model.specs.Ties.{Tie, edited_holder}
use Rattle.model.specs.State.{State}
use Rattle.model.specs.Edits.{edited_tie, set_joins}
use Rattle.model.specs.Ledger as ledger
use Rattle.model.specs.Ledger.{Call, outcome}
use Rattle.model.proofs.Changes.{set_changed}
use Rattle.book.specs.Calls.{Gives, Together}
use Rattle.edit.specs.EditSteps.{SetsElsewhere}
use Rattle.engine.specs.Runs.{Memory, Does, Leads}
use Rattle.engine.proofs.Runs.{does-gives, leads-together}
use Rattle.edit.proofs.EditedSets.{sets-elsewhere, refused-sets, sets-counted, sets-joined, refused-joins, joins-within}

-- an edit, after a list of calls that begins with a load and leads to the ledger's state S
module _ {first : Memory} {calls : List Call} {S : State} {before after : Memory} {line : Bytes} {number changed joins : ℕ}
    (run : Leads first calls S before) (does : Does (Call.edit line) before (ledger.edited number changed joins) after) where
  together : Together S before.book before.code before.words
  together = leads-together run

  given : Gives (outcome S before.words (Call.edit line)) (ledger.edited number changed joins) after.words after.book after.code
  given = does-gives together does

  -- no holder that is neither the edited one nor below it
  pub elsewhere-stays : SetsElsewhere S line before.words after.words
  elsewhere-stays = sets-elsewhere line together given

  -- "a refused edit changes nothing"
  pub refused-stays : (number ≡ 0 → ⊥) → after.words ≡ before.words
  refused-stays refused = refused-sets line together given refused

  -- the count is that of the holders whose four words differ
  pub count-in-run : changed ≡ count_of (set_changed before.words after.words) (below (holder_numbers S.declared.edition))
  count-in-run = sets-counted line together given refl

  -- the joins are the sum over the edited holder and each one below it, on the ties of the state behind the edit
  pub joins-in-run : number ≡ 0 → (t : Tie) → edited_tie S line ≡ some t
      → joins ≡ set_joins S.declared (outcome S before.words (Call.edit line)).state.ties (edited_holder t)
  joins-in-run zero t tie = sets-joined line together given refl zero t tie

  -- where it is refused there are none
  pub refused-joins-in-run : (number ≡ 0 → ⊥) → joins ≡ 0
  refused-joins-in-run refused = refused-joins line together given refl refused

  -- and they never pass the bound
  pub joins-most-in-run : joins ≤ join_limit S.declared.edition
  joins-most-in-run = joins-within line together given refl
