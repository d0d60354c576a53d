-- The headline theorems, restated; behind each `=` stands the name of its proof. Assumes nothing.
use Prim.Native.Nat.{ℕ, ◌≤◌}
use mathlib.Core.Path.{◌≡◌}
use mathlib.Core.Logic.{◌↔◌}
use mathlib.Core.Bool.{true}
use mathlib.Core.List.{List, ◌∷◌}
use mathlib.Core.Option.{some}
use Rattle.model.specs.Notation.{map, count_of, below}
use Rattle.model.specs.Limits.{Edition, holder_numbers, join_limit}
use Rattle.model.specs.Bytes.{Bytes}
use Rattle.model.specs.Truth.{TRUE, UNDEF}
use Rattle.model.specs.Ties.{Tie, edited_holder}
use Rattle.model.specs.Table.{effective_set}
use Rattle.model.specs.State.{State}
use Rattle.model.specs.Block.{Block}
use Rattle.model.specs.Refusals.{edit_tests, request_tests}
use Rattle.model.specs.Load.{load}
use Rattle.model.specs.Edits.{edit, edited_tie, set_joins}
use Rattle.model.specs.Session.{read_by}
use Rattle.model.specs.Causes.{Cause, absent, absent_of}
use Rattle.model.specs.Decision.{permit, deny, undefined, refused, cause, decide}
use Rattle.model.specs.Ledger as ledger
use Rattle.model.specs.Ledger.{Call, outcome, ledger}
use Rattle.model.proofs.Effective.{Closed}
use Rattle.model.proofs.Changes.{set_changed}
use Rattle.model.proofs.Joins
use Rattle.model.proofs.Tests.{NoneHolds}
use Rattle.model.proofs.Decision.{Accepted, Verdict}
use Rattle.model.proofs.Decision
use Rattle.model.proofs.PlainDecisions.{without_cause, plain}
use Rattle.model.proofs.PlainDecisions
use Rattle.model.proofs.Refusals.{Wins}
use Rattle.model.proofs.Refusals
use Rattle.model.proofs.Loads.{AcceptedFile, RefusedFile}
use Rattle.model.proofs.Loads
use Rattle.model.proofs.Reached.{Reached}
use Rattle.model.proofs.Reached
use Rattle.edit.specs.EditSteps.{SetsElsewhere}
use Rattle.engine.specs.Runs.{Memory, Does, CallSeen, seen, posted, Run, Leads}
use Rattle.engine.proofs.Runs
use Rattle.engine.proofs.EditsInRuns

-- ---- Demand 1: what is well formed is accepted, and all other input is refused by its number

-- a load answers 0 exactly for accepted files, with the state and the number of lines that these have
pub accepted-files : (file : Bytes) → (load file).number ≡ 0 → AcceptedFile file (load file).line (load file).state
accepted-files file = Loads.load-accepted file

-- any other file is refused by 2, by 3, or by the number that wins at its first offending line, with that line
pub refused-files : (file : Bytes) → ((load file).number ≡ 0 → ⊥) → RefusedFile file (load file).number (load file).line
refused-files file = Loads.load-refused file

-- an edit is refused by n exactly when n wins among its tests, and accepted exactly when none of their conditions holds
pub refused-edits : (S : State) (line : Bytes) (n : ℕ) → (((edit S line).number ≡ n) × (n ≡ 0 → ⊥)) ↔ Wins (edit_tests S line) n
refused-edits = Refusals.edit-refused

pub accepted-edits : (S : State) (line : Bytes) → ((edit S line).number ≡ 0) ↔ NoneHolds (edit_tests S line)
accepted-edits = Refusals.edit-accepted

-- and so is a request
pub refused-requests : (S : State) (block : Bytes) (n : ℕ) → (decide S block ≡ refused n) ↔ Wins (request_tests S block) n
refused-requests = Refusals.request-refused

-- ---- Demand 2: sets and decisions are those of HGABAC

-- on every state that a list of calls reaches, the effective sets are closed under the document's sentence, and the least such sets
pub sets-closed : {S : State} → Reached S → Closed S.ties (λ h p. effective_set S.declared S.ties h p ≡ true)
sets-closed = Reached.effective-closed

pub sets-least : {S : State} → Reached S → (F : ℕ → ℕ → Type 0) → Closed S.ties F → (h p : ℕ) → effective_set S.declared S.ties h p ≡ true → F h p
sets-least = Reached.effective-least

-- permit with the lowest TRUE rule number; else undefined if some is UNDEF, absent if one of these is; else deny
pub permits : (S : State) (block : Bytes) (k : ℕ)
    → (decide S block ≡ permit k) ↔ ((b : Block) × Accepted S block b × Verdict S b k TRUE × ((j : ℕ) → Verdict S b j TRUE → k ≤ j))
permits = Decision.permit-exact

pub undefineds : (S : State) (block : Bytes) (c : Cause)
    → (decide S block ≡ undefined c) ↔ ((b : Block) × Accepted S block b × ((j : ℕ) → Verdict S b j TRUE → ⊥) × ((j : ℕ) × Verdict S b j UNDEF) × (cause S b ≡ c))
undefineds = Decision.undefined-exact

pub undefined-absents : (S : State) (block : Bytes)
    → (decide S block ≡ undefined absent)
    ↔ ((b : Block) × Accepted S block b × ((j : ℕ) → Verdict S b j TRUE → ⊥) × ((j : ℕ) × (v : Verdict S b j UNDEF) × (absent_of (read_by S b) v.rule.tokens ≡ true)))
undefined-absents = Decision.absent-exact

pub denials : (S : State) (block : Bytes)
    → (decide S block ≡ deny) ↔ ((b : Block) × Accepted S block b × ((j : ℕ) → Verdict S b j TRUE → ⊥) × ((j : ℕ) → Verdict S b j UNDEF → ⊥))
denials = Decision.deny-exact

-- without the cause, which document 02 adds, each decision is that of document 01 alone
pub decisions-as-before : (S : State) (block : Bytes) → without_cause (decide S block) ≡ plain S block
decisions-as-before = PlainDecisions.forget-cause

-- ---- Demand 3: lists of calls

-- for every list of calls that begins with a load, whatever was lent at first, each answer and all words of the table after it are the ledger's
pub lists-of-calls : (lent : Memory) (file : Bytes) (calls : List Call) (results : List CallSeen) → Run lent (Call.load file ∷ calls) results
    → map seen results ≡ map posted (ledger lent.words file calls)
lists-of-calls = Runs.runs-are-the-ledger

module _ {first : Memory} {calls : List Call} {S : State} {before after : Memory} {line : Bytes} {number changed joins : ℕ}
    (run : Leads first calls S before) (does : Does (Call.edit line) before (ledger.edited number changed joins) after) where
  -- an edit in such a list changes the words of no holder that is neither the edited one nor below it
  pub edits-elsewhere : SetsElsewhere S line before.words after.words
  edits-elsewhere = EditsInRuns.elsewhere-stays run does

  -- where it is refused it changes none
  pub edits-refused : (number ≡ 0 → ⊥) → after.words ≡ before.words
  edits-refused = EditsInRuns.refused-stays run does

  -- and its count is exact
  pub edits-counted : changed ≡ count_of (set_changed before.words after.words) (below (holder_numbers S.declared.edition))
  edits-counted = EditsInRuns.count-in-run run does

  -- document 02, E3: its joins are the sum over the edited holder and each one below it, by the ties after the edit, whether a set changed or not
  pub edits-joined : number ≡ 0 → (t : Tie) → edited_tie S line ≡ some t
      → joins ≡ set_joins S.declared (outcome S before.words (Call.edit line)).state.ties (edited_holder t)
  edits-joined = EditsInRuns.joins-in-run run does

  -- refused, it reports none
  pub edits-refused-joins : (number ≡ 0 → ⊥) → joins ≡ 0
  edits-refused-joins = EditsInRuns.refused-joins-in-run run does

  -- and they are at most 65 for each holder of the edition
  pub edits-joins-most : joins ≤ join_limit S.declared.edition
  edits-joins-most = EditsInRuns.joins-most-in-run run does

-- of document 01's edition that is 16,640
pub joins-most-first : join_limit Edition.first ≡ 16640
joins-most-first = Joins.first-edition-joins
