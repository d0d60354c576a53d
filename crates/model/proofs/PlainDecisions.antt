-- Without its cause, every decision is that of document 01 as it stood before request E2. Assumes nothing.
use Prim.Native.Nat.{ℕ}
use mathlib.Core.Path.{◌≡◌, refl}
use mathlib.Core.Bool.{Bool, true, false}
use mathlib.Core.List.{List, [], ◌∷◌}
use mathlib.Core.Option.{Option, none, some}
use lib.Dec.{eqb}
use Rattle.model.specs.Notation.{if◌then◌otherwise◌, any_of, filter}
use Rattle.model.specs.Bytes.{Bytes}
use Rattle.model.specs.Truth.{Truth, is_true, is_undef}
use Rattle.model.specs.State.{State}
use Rattle.model.specs.Block.{Block, read_block}
use Rattle.model.specs.Refusals.{request_refusal}
use Rattle.model.specs.Causes.{Cause}
use Rattle.model.specs.Decision as now
use Rattle.model.specs.Decision.{verdicts, cause, without_permit, permit_by, decision_by, judged, decide}

-- "decision enum: Permit with rule number, Deny, Undefined, Refused with number"
pub data Plain : Type 0 where
  permit : ℕ → Plain
  deny undefined : Plain
  refused : ℕ → Plain

-- "Permit, with the lowest TRUE rule number; else undefined if some is UNDEF; else deny"
abbrev pub plain_permit : List (ℕ × Truth) → Plain → Plain
plain_permit [] other = other
plain_permit ((k, t) ∷ rest) other = permit k

abbrev pub plain_by : List (ℕ × Truth) → Plain
plain_by vs = plain_permit (filter (λ (k, t). is_true t) vs) (if any_of (λ (k, t). is_undef t) vs then undefined otherwise deny)

abbrev pub plain_judged : State → ℕ → Option Block → Plain
plain_judged S n none = refused n
plain_judged S n (some b) = if eqb n 0 then plain_by (verdicts S b) otherwise refused n

abbrev pub plain : State → Bytes → Plain
plain S block = plain_judged S (request_refusal S block) (read_block block)

-- a decision without its cause
abbrev pub without_cause : now.Decision → Plain
without_cause (now.permit k) = permit k
without_cause now.deny = deny
without_cause (now.undefined c) = undefined
without_cause (now.refused n) = refused n

by-verdicts : (c : Cause) (vs : List (ℕ × Truth)) → without_cause (decision_by c vs) ≡ plain_by vs
unfolding decision_by
by-verdicts c vs = go (filter (λ (k, t). is_true t) vs) (any_of (λ (k, t). is_undef t) vs)
  where
    go : (trues : List (ℕ × Truth)) (undef : Bool)
        → without_cause (permit_by trues (if undef then now.undefined c otherwise now.deny)) ≡ plain_permit trues (if undef then undefined otherwise deny)
    go [] true = refl
    go [] false = refl
    go (v ∷ rest) undef = refl

-- "every answer stays", but for the cause
pub forget-cause : (S : State) (block : Bytes) → without_cause (decide S block) ≡ plain S block
unfolding decide
forget-cause S block = go (read_block block)
  where
    by_number : (b : Block) (zero : Bool) (n : ℕ)
        → without_cause (if zero then decision_by (cause S b) (verdicts S b) otherwise now.refused n) ≡ (if zero then plain_by (verdicts S b) otherwise refused n)
    by_number b true n = by-verdicts (cause S b) (verdicts S b)
    by_number b false n = refl

    go : (o : Option Block) → without_cause (judged S (request_refusal S block) o) ≡ plain_judged S (request_refusal S block) o
    go none = refl
    go (some b) = by_number b (eqb (request_refusal S block) 0) (request_refusal S block)
