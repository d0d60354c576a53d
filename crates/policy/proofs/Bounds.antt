-- The bound of the grammar's readers does not matter where it is large enough, so that each level is made of the one below by one equation.
use Prim.Native.Nat.{ℕ, zero, suc, ◌+◌, ◌*◌, ◌≤◌, ◌<◌}
use mathlib.Core.Path.{◌≡◌, refl, sym, ap, ◌∙◌}
use mathlib.Core.List.{List}
use mathlib.Core.Option.{Option, none, some}
use native.Mathlib.Omega.{arith}
use lib.ListN.{length}
use Rattle.model.specs.Notation.{◌>>=◌}
use Rattle.model.specs.Tokens.{Token, Mark}
use Rattle.model.specs.Grammar.{Policy, and, or, behind_mark, Reading, joined_by, policy_within, conjunction_within, term_within}
use Rattle.model.proofs.Results.{Whenever}
use Rattle.policy.specs.Starts.{Start, whole, opened, neither, term_start}
use Rattle.policy.specs.Scans.{policy_at}
use Rattle.policy.proofs.Shorter.{mark-fewer, conjunction-within, term-within}
use Rattle.policy.proofs.Heads.{finished, term-finished, FewerIn, start-fewer}

-- readers that agree on all shorter tokens
abbrev Agree : ℕ → (List Token → Reading) → (List Token → Reading) → Type 0
Agree k f g = (us : List Token) → length us < k → f us ≡ g us

-- parts joined by a mark, where the readers of more agree
joined_same : (m : Mark) (join : Policy → Policy → Policy) (f g : List Token → Reading) (k : ℕ) → Agree k f g → (o : Reading) → Whenever (λ y. length y.1 < k) o
    → (o >>= joined_by m join f) ≡ (o >>= joined_by m join g)
joined_same m join f g k h none l = refl
joined_same m join f g k h (some (p, ts)) l = go (behind_mark m ts) (mark-fewer m ts)
  where
    onward : (List Token → Reading) → Option (List Token) → Reading
    onward more w = elim w [ some rest ↦ more rest >>= λ (q, left). some (join p q, left) | none ↦ some (p, ts) ]

    go : (w : Option (List Token)) → Whenever (λ rest. length rest < length ts) w → onward f w ≡ onward g w
    go none a = refl
    go (some rest) a = ap (λ (o : Reading). o >>= λ (q, left). some (join p q, left)) (h rest (omega arith))

finished-same : (f g : List Token → Reading) (ts : List Token) → Agree (length ts) f g → (x : Start) → FewerIn ts x → finished f x ≡ finished g x
finished-same f g ts h (whole p rest) a = refl
finished-same f g ts h (opened b rest) a = rw (h rest a)
finished-same f g ts h neither a = refl

mutual
  unfolding policy_within

  pub policy-same : (n m : ℕ) (ts : List Token) → 3 * length ts + 3 ≤ n → 3 * length ts + 3 ≤ m → policy_within n ts ≡ policy_within m ts
  policy-same zero m ts a b = absurd (omega arith)
  policy-same (suc n) zero ts a b = absurd (omega arith)
  policy-same (suc n) (suc m) ts a b =
      ap (λ (o : Reading). o >>= joined_by Mark.OR or (λ rest. policy_within n rest)) (conjunction-same n m ts (omega arith) (omega arith))
      ∙ joined_same Mark.OR or (λ rest. policy_within n rest) (λ rest. policy_within m rest) (length ts) (λ us l. policy-same n m us (omega arith) (omega arith))
      (conjunction_within m ts) (conjunction-within m ts)

  pub conjunction-same : (n m : ℕ) (ts : List Token) → 3 * length ts + 2 ≤ n → 3 * length ts + 2 ≤ m → conjunction_within n ts ≡ conjunction_within m ts
  conjunction-same zero m ts a b = absurd (omega arith)
  conjunction-same (suc n) zero ts a b = absurd (omega arith)
  conjunction-same (suc n) (suc m) ts a b =
      ap (λ (o : Reading). o >>= joined_by Mark.AND and (λ rest. conjunction_within n rest)) (term-same n m ts (omega arith) (omega arith))
      ∙ joined_same Mark.AND and (λ rest. conjunction_within n rest) (λ rest. conjunction_within m rest) (length ts) (λ us l. conjunction-same n m us (omega arith) (omega arith))
      (term_within m ts) (term-within m ts)

  pub term-same : (n m : ℕ) (ts : List Token) → 3 * length ts + 1 ≤ n → 3 * length ts + 1 ≤ m → term_within n ts ≡ term_within m ts
  term-same zero m ts a b = absurd (omega arith)
  term-same (suc n) zero ts a b = absurd (omega arith)
  term-same (suc n) (suc m) ts a b =
      term-finished (λ rest. policy_within n rest) ts
      ∙ finished-same (λ rest. policy_within n rest) (λ rest. policy_within m rest) ts (λ us l. policy-same n m us (omega arith) (omega arith)) (term_start ts) (start-fewer ts)
      ∙ sym (term-finished (λ rest. policy_within m rest) ts)

-- ---- the readers without their bounds

pub conjunction_at : List Token → Reading
conjunction_at ts = conjunction_within (3 * length ts + 2) ts

pub policy-is : (ts : List Token) → policy_at ts ≡ (conjunction_at ts >>= joined_by Mark.OR or policy_at)
unfolding policy_at policy_within conjunction_at
policy-is ts =
    let n = 3 * length ts + 2 in
    policy-same (3 * length ts + 3) (suc n) ts (omega arith) (omega arith)
    ∙ joined_same Mark.OR or (λ rest. policy_within n rest) policy_at (length ts) (λ us l. policy-same n (3 * length us + 3) us (omega arith) (omega arith))
    (conjunction_within n ts) (conjunction-within n ts)

pub conjunction-is : (ts : List Token) → conjunction_at ts ≡ (finished policy_at (term_start ts) >>= joined_by Mark.AND and conjunction_at)
unfolding policy_at policy_within conjunction_at
conjunction-is ts =
    let k = 3 * length ts in
    conjunction-same (3 * length ts + 2) (suc (suc k)) ts (omega arith) (omega arith)
    ∙ joined_same Mark.AND and (λ rest. conjunction_within (suc k) rest) conjunction_at (length ts) (λ us l. conjunction-same (suc k) (3 * length us + 2) us (omega arith) (omega arith))
    (term_within (suc k) ts) (term-within (suc k) ts)
    ∙ ap (λ (o : Reading). o >>= joined_by Mark.AND and conjunction_at)
    (term-finished (λ rest. policy_within k rest) ts
    ∙ finished-same (λ rest. policy_within k rest) policy_at ts (λ us l. policy-same k (3 * length us + 3) us (omega arith) (omega arith)) (term_start ts) (start-fewer ts))
