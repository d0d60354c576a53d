-- `ties::widened_down` meets its contract: the slots from q on are passed. Assumes nothing.
use mathlib.Core.Path.{◌≡◌, sym, ◌∙◌}
use mathlib.Core.Bool.{not, ◌&&◌}
use Prim.Native.Nat.{ℕ, ◌-◌, ◌<◌}
use native.Mathlib.Decide.{ℕ_discrete, dec_lt}
use lib.Dec.{eqb, ltb}
use borrow.Author.Tests.{eq-eqb, ne_eqb, lt-ltb, le-ltb, ltb-false}
use Rattle.ties.proofs.Masks.{in-use-lt, numbered-lt}
use Rattle.ties.proofs.Widening.{pass-start, pass_on, pass-off}
use native.Mathlib.Omega.{arith}
use Rattle.ties.proofs.widened_down.Goals as goal

-- below q, without the highest
lower : (q : ℕ) → 0 < q → (j : ℕ) → ltb j (q - 1) ≡ (ltb j q && not (eqb j (q - 1)))
lower q some j = go (ℕ_discrete j (q - 1)) (dec_lt j (q - 1))
  where
    go : Dec (j ≡ q - 1) → Dec (j < q - 1) → ltb j (q - 1) ≡ (ltb j q && not (eqb j (q - 1)))
    go (yes e) l = simp (le-ltb j (q - 1) (omega arith), lt-ltb j q (omega arith), eq-eqb j (q - 1) e)
    go (no n) (yes l) = simp (lt-ltb j (q - 1) l, lt-ltb j q (omega arith), ne_eqb j (q - 1) n)
    go (no n) (no l) = simp (le-ltb j (q - 1) (omega arith), le-ltb j q (omega arith))

pub loop-q-init : goal.loop-q-init
loop-q-init c =
    pass-start c.args.ups.now c.args.slots.now c.args.e c.args.m _
    (λ q l off u. absurd (omega (arith, ltb-false q _ off, numbered-lt c.args.slots.now q (in-use-lt _ c.args.slots.now q u).0)))

pub loop-q-preserved-then-slot_is_under : goal.loop-q-preserved-then-slot_is_under
loop-q-preserved-then-slot_is_under c =
    pass_on c.args.ups.now c.args.slots.now c.args.e c.loop-q.invariant (λ j. ltb j (c.loop-q.q - 1)) (c.loop-q.q - 1) (lower c.loop-q.q c.loop-q-test.true)
    c.with-next.result c.with-next.ensures (sym c.slot_is_under.ensures ∙ c.if-slot_is_under.true)

pub loop-q-preserved : goal.loop-q-preserved
loop-q-preserved c =
    pass-off c.args.ups.now c.args.slots.now c.args.e c.loop-q.invariant (λ j. ltb j (c.loop-q.q - 1)) (c.loop-q.q - 1) (lower c.loop-q.q c.loop-q-test.true)
    (sym c.slot_is_under.ensures ∙ c.if-slot_is_under.false)
