-- The decisions of the code, and what the call `decide` promises. Assumes nothing: these are definitions.
use Rattle.std.specs.Prelude.{ℕ, ◌≡◌, List, length}
use Rattle.model.specs.Notation.{if◌then◌otherwise◌}
use Rattle.model.specs.Limits.{Edition, table_words}
use Rattle.model.specs.Numbers as refusal
use Rattle.model.specs.Bytes.{Bytes}
use Rattle.model.specs.State.{State}
use Rattle.model.specs.Block.{Block}
use Rattle.model.specs.Table.{table}
use Rattle.model.specs.Refusals.{not_held}
use Rattle.model.specs.Standing.{Standing}
use Rattle.model.specs.Causes as causes
use Rattle.model.specs.Decision as model
use Rattle.codes.specs.declared.Refusal.{Refusal}
use Rattle.codes.specs.Enums.{refusal_number}
use Rattle.book.specs.Held.{Holds}
use Rattle.request.specs.declared.Decision.{Decision}
use Rattle.request.specs.declared.Decision.TheVariants.{Permit, Deny, Undefined, Refused}
use Rattle.request.specs.declared.Cause.{Cause}
use Rattle.request.specs.declared.Cause.TheVariants.{Absent, Unlike}
use Rattle.request.specs.Requests.{RulesOf, RequestOf}

abbrev pub cause_of : Cause → causes.Cause
cause_of Absent = causes.absent
cause_of Unlike = causes.unlike

-- "decision enum: Permit with rule number, Deny, Undefined, Refused with number"; undefined with its cause
abbrev pub decision_of : Decision → model.Decision
decision_of (Permit rule) = model.permit rule
decision_of Deny = model.deny
decision_of (Undefined c) = model.undefined (cause_of c)
decision_of (Refused n) = model.refused n

-- this paper's number for each case, and the values that it carries
abbrev pub number_and_values_of : Decision → ℕ × List ℕ
number_and_values_of r = model.number_and_values (decision_of r)

-- "Numbers a caller may meet": a refusal has one of them, also on a book that stands for no state
abbrev pub Listed : Decision → Type 0
Listed (Permit rule) = Unit
Listed Deny = Unit
Listed (Undefined c) = Unit
Listed (Refused n) = (r : Refusal) × (n ≡ refusal_number r)

-- r is what the rules come to, whatever state and block they are those of
abbrev pub Decided : List ℕ → Bytes → List ℕ → List ℕ → Bytes → ℕ → ℕ → Decision → Type 0
Decided targets code pairs session entries operation count r =
    (S : State) (b : Block) (attributes : List ℕ) → RulesOf S b targets code attributes pairs session entries operation → length S.declared.rules ≡ count
    → decision_of r ≡ model.decision_by (model.cause S b) (model.verdicts S b)

-- r is what a request with no wrong number is answered
abbrev pub Answered : List ℕ → List ℕ → Bytes → List ℕ → List ℕ → List ℕ → Bytes → Bytes → Decision → Type 0
Answered counts targets code attributes pairs table block entries r =
    (S : State) (b : Block) → RequestOf S b counts targets code attributes pairs table block entries
    → decision_of r ≡ (if not_held S b then model.refused refusal.not_held otherwise model.decision_by (model.cause S b) (model.verdicts S b))

-- r is what a request is answered: 1 on a table of another length, and as the document says on a book and a table that stand for a state, by its case
-- and by this paper's number and values. Nothing is written
pub record Decides (block : Bytes) (book : List ℕ) (code : Bytes) (words : List ℕ) (r : Decision) : Type 0 where
  pub other-table : (length words ≡ table_words Edition.first → ⊥) → decision_of r ≡ model.refused refusal.wrong_table
  pub decision : (S : State) → Standing S → Holds book code S → words ≡ table S.declared S.ties → decision_of r ≡ model.decide S block
  pub numbers : (S : State) → Standing S → Holds book code S → words ≡ table S.declared S.ties → number_and_values_of r ≡ model.number_and_values (model.decide S block)
