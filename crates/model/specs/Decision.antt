-- What a request is answered.
use Rattle.std.specs.Prelude.{ℕ, List, [], ◌∷◌, eqb}
use Rattle.std.proofs.Math.Option.{Option, none, some}
use Rattle.model.specs.Notation.{if◌then◌otherwise◌, ◌is◌, any_of, map, filter, numbered, nth}
use Rattle.model.specs.Bytes.{Bytes, same}
use Rattle.model.specs.Truth.{Truth, is_true, is_undef}
use Rattle.model.specs.Declarations.{Rule}
use Rattle.model.specs.State.{State}
use Rattle.model.specs.Meaning.{meaning_of}
use Rattle.model.specs.Causes.{Cause, cause_by, cause_number, absent_of}
use Rattle.model.specs.Block.{Block, read_block}
use Rattle.model.specs.Session.{read_by}
use Rattle.model.specs.Refusals.{request_refusal}

-- "decision enum: Permit with rule number, Deny, Undefined, Refused with number"; undefined, document 02, E2, with its cause
pub data Decision : Type 0 where
  permit : ℕ → Decision
  deny : Decision
  undefined : Cause → Decision
  refused : ℕ → Decision

-- "a definition provides this paper's number and values for each of the enum's cases": "0 permit, 64 deny, 65 undefined, else the refusal". Document 02,
-- E2: "keeps 65 for both" causes
abbrev pub number_and_values : Decision → ℕ × List ℕ
number_and_values (permit rule) = (0, rule ∷ [])
number_and_values deny = (64, [])
number_and_values (undefined c) = (65, cause_number c ∷ [])
number_and_values (refused n) = (n, [])

-- "The rules of the operation", with their numbers
unfoldable pub rules_for : State → Block → List (ℕ × Rule)
rules_for S b = filter (λ (k, r). nth S.declared.operations b.operation is same r.operation) (numbered S.declared.rules)

-- "are evaluated": their numbers and values
unfoldable pub verdicts : State → Block → List (ℕ × Truth)
verdicts S b = map (λ (k, r). (k, meaning_of (read_by S b) r.tokens)) (rules_for S b)

-- document 02, E2: "A decision is undefined-absent if one of its UNDEF rules is absent"
unfoldable pub cause : State → Block → Cause
cause S b = cause_by (any_of (λ (k, r). absent_of (read_by S b) r.tokens) (rules_for S b))

-- "else undefined if some is UNDEF; else deny"
abbrev pub without_permit : Cause → List (ℕ × Truth) → Decision
without_permit c vs = if any_of (λ (k, t). is_undef t) vs then undefined c otherwise deny

-- "with the lowest TRUE rule number", by the verdicts that are TRUE, which stand in the order of their numbers; else another decision
abbrev pub permit_by : List (ℕ × Truth) → Decision → Decision
permit_by [] other = other
permit_by ((k, t) ∷ rest) other = permit k

-- "Permit, with the lowest TRUE rule number; else undefined if some is UNDEF; else deny"
unfoldable pub decision_by : Cause → List (ℕ × Truth) → Decision
decision_by c vs = permit_by (filter (λ (k, t). is_true t) vs) (without_permit c vs)

-- by the number of the refusal, 0 where there is none, and the block that was read: what is no block has the number 15
abbrev pub judged : State → ℕ → Option Block → Decision
judged S n none = refused n
judged S n (some b) = if eqb n 0 then decision_by (cause S b) (verdicts S b) otherwise refused n

-- a request
unfoldable pub decide : State → Bytes → Decision
decide S block = judged S (request_refusal S block) (read_block block)
