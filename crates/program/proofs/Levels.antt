-- Levels in a number, seven bits each.
use Prim.Native.Nat.{ℕ, zero, suc, ◌+◌, ◌*◌, ◌/◌, ◌%◌, ◌^◌, ◌≤◌, ◌<◌}
use mathlib.Core.Path.{◌≡◌, refl, ap, ap₂, ◌∙◌}
use mathlib.Core.Bool.{Bool, true, false}
use mathlib.Core.List.{List, [], ◌∷◌}
use native.Mathlib.Omega.{arith}
use native.Mathlib.Nat.{pow-suc}
use borrow.Author.Tests.{ne_eqb}
use lib.Dec.{eqb}
use lib.ListN.{length}
use Rattle.model.specs.Limits.{depth_limit}
use Rattle.truth.specs.declared.Truth.TheVariants.{True}
use Rattle.truth.specs.declared.verdict.Verdict as truth
use Rattle.truth.specs.Verdicts.{verdict_of, both, either, signed, flag_number, verdict_number, OfNumber}
use Rattle.truth.proofs.Verdicts.{flag-few, verdict-few, flag-test}
use Rattle.program.specs.declared.Walk as code
use Rattle.program.specs.Walks.{Level, no_conjunction, Walk, around, termed, comes_to, passed, levels, either_of, both_of, WalkIs, Termed, Around, Fresh}

-- n levels are below 128 to the power of n
levels-below : (n : ℕ) (ls : List Level) → length ls ≤ n → levels ls < 128 ^ n
levels-below zero [] h = omega arith
levels-below zero (l ∷ ls) h = absurd (omega arith)
levels-below (suc n) [] h = let p = pow-suc 128 n in let q = levels-below n [] (omega arith) in omega arith
levels-below (suc n) (l ∷ ls) h =
    let p = pow-suc 128 n in
    let q = levels-below n ls (omega arith) in
    omega (arith, verdict-few l.either, verdict-few l.both, flag-few l.negated)

-- as many as there can be have room
pub levels-room : (ls : List Level) → length ls ≤ depth_limit → levels ls < 144115188075855872
levels-room ls h = omega (arith, levels-below 8 ls h)

-- the first level, and the others
pub uncovered : (n : ℕ) (a b : truth.Verdict) → OfNumber (n % 128 % 8) a → OfNumber (n % 128 / 8 % 8) b
    → Around n (record { either = a.value; absent = a.absent; both = b.value; lacking = b.absent; negated = eqb (n % 128 / 64) 1; outer = n / 128 })
uncovered n a b f g [] e = record {
  either_is = f no_conjunction (omega arith);
  both_is = g no_conjunction (omega arith);
  negated-is = flag-test (n % 128 / 64) false (omega arith);
  outer-is = omega arith;
}
uncovered n a b f g (l ∷ ls) e =
    let x = verdict-few l.either in
    let y = verdict-few l.both in
    let z = flag-few l.negated in
    record {
      either_is = f l.either (omega arith);
      both_is = g l.both (omega arith);
      negated-is = flag-test (n % 128 / 64) l.negated (omega arith);
      outer-is = omega arith;
    }

-- ---- the walk of the code

module _ (c : code.Walk) (w : Walk) (is : WalkIs c w) where
  -- what it comes to
  pub verdict-is : (v : truth.Verdict) → verdict_of v ≡ either (either_of c) (both_of c) → verdict_of v ≡ comes_to w.inner
  verdict-is v e = e ∙ ap₂ either is.either_is is.both_is

  pub termed-is : (t s b v : truth.Verdict) → verdict_of b ≡ both_of c
      → verdict_of s ≡ signed c.negated (verdict_of t) → verdict_of v ≡ both (verdict_of b) (verdict_of s)
      → WalkIs (record { either = c.either; absent = c.absent; both = v.value; lacking = v.absent; negated = false; outer = c.outer })
      (termed (verdict_of t) w)
  termed-is t s b v d e f = record {
    either_is = is.either_is;
    both_is = f ∙ ap₂ both (d ∙ is.both_is) (e ∙ ap (λ (b : Bool). signed b (verdict_of t)) is.negated-is);
    negated-is = refl;
    outer-is = is.outer-is;
  }

  pub negated-is :
      WalkIs (record { either = c.either; absent = c.absent; both = c.both; lacking = c.lacking; negated = true; outer = c.outer }) (passed 12 w)
  unfolding passed
  negated-is = record { either_is = is.either_is; both_is = is.both_is; negated-is = refl; outer-is = is.outer-is }

  pub joined_is : (v : truth.Verdict) → verdict_of v ≡ either (either_of c) (both_of c)
      → WalkIs (record { either = v.value; absent = v.absent; both = True; lacking = false; negated = c.negated; outer = c.outer }) (passed 11 w)
  unfolding passed
  joined_is v e = record { either_is = verdict-is v e; both_is = refl; negated-is = is.negated-is; outer-is = is.outer-is }

  pub opened-is : (x y z : ℕ) → x ≡ verdict_number (either_of c) → y ≡ verdict_number (both_of c) → z ≡ flag_number c.negated
      → length (passed 5 w).outer ≤ depth_limit → (r : code.Walk) → Fresh (128 * (c.outer % 144115188075855872) + (x + 8 * y + 64 * z)) r → WalkIs r (passed 5 w)
  unfolding passed
  opened-is x y z e f g few r begins =
      let a : x ≡ verdict_number w.inner.either = e ∙ ap verdict_number is.either_is in
      let b : y ≡ verdict_number w.inner.both = f ∙ ap verdict_number is.both_is in
      let d : z ≡ flag_number w.inner.negated = g ∙ ap flag_number is.negated-is in
      let room = levels-room w.outer (omega arith) in
      let o = is.outer-is in
      begins (w.inner ∷ w.outer) (omega arith)

  pub closed_is : (v : truth.Verdict) (a r : code.Walk) → verdict_of v ≡ either (either_of c) (both_of c) → Around c.outer a → Termed a (verdict_of v) r
      → WalkIs r (passed 6 w)
  unfolding passed
  closed_is v a r e f g = rw (verdict-is v e) at (g (around w.outer) (f w.outer is.outer-is))

-- AND changes nothing
pub passed-other : (kind : ℕ) (w : Walk) → (kind ≡ 12 → ⊥) → (kind ≡ 5 → ⊥) → (kind ≡ 6 → ⊥) → (kind ≡ 11 → ⊥) → passed kind w ≡ w
unfolding passed
passed-other kind w a b c d = rw (ne_eqb kind 12 a, ne_eqb kind 5 b, ne_eqb kind 6 c, ne_eqb kind 11 d) refl
