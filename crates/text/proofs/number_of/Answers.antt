-- `text::number_of` meets its contract: the number of all is the number read so far with what is left, and it only grows.
use Prim.Native.Nat.{ℕ, ◌+◌, ◌-◌, ◌*◌}
use mathlib.Core.Path.{◌≡◌, sym, ap, ◌∙◌}
use native.Mathlib.Omega.{arith}
use lib.ListN.{get_or, drop}
use Rattle.model.specs.Atoms.{number_from}
use Rattle.text.proofs.DecimalDigits.{decimal-at, number-on, number-end, number-grows, limited-large, limited-small}
use Rattle.text.proofs.number_of.Goals as goal

pub overflow_sub-b : goal.overflow_sub-b
overflow_sub-b c = omega (arith, decimal-at c.args.s.now c.requires c.loop-b.b-index (omega arith))

pub returns-in_err-checked_mul : goal.returns-in_err-checked_mul
returns-in_err-checked_mul c =
    let s = c.args.s.now in
    let i = c.loop-b.b-index in
    let v = c.loop-b.n * 10 + (get_or s i 0 - 48) in
    let e = c.loop-b.invariant.1 ∙ number-on s i c.loop-b.n (omega arith) in
    c.from_residual.ensures ∙ sym (limited-large s (omega (arith, e, number-grows v (drop (i + 1) s), c.in_err-checked_mul.ensures)))

pub returns-in_err-n : goal.returns-in_err-n
returns-in_err-n c =
    let s = c.args.s.now in
    let i = c.loop-b.b-index in
    let v = c.loop-b.n * 10 + (get_or s i 0 - 48) in
    let e = c.loop-b.invariant.1 ∙ number-on s i c.loop-b.n (omega arith) in
    c.from_residual-in_err-n.ensures
    ∙ sym (limited-large s (omega (arith, e, number-grows v (drop (i + 1) s), c.in_ok-checked_mul.ensures, c.in_err-n.ensures)))

pub loop-b-preserved : goal.loop-b-preserved
loop-b-preserved c =
    let s = c.args.s.now in
    let i = c.loop-b.b-index in
    let e : c.loop-b.n * 10 + (get_or s i 0 - 48) ≡ c.in_ok-n.n = omega (arith, c.in_ok-checked_mul.ensures, c.in_ok-n.ensures) in
    (omega (arith, c.in_ok-n.ensures), c.loop-b.invariant.1 ∙ number-on s i c.loop-b.n (omega arith) ∙ ap (λ (v : ℕ). number_from v (drop (i + 1) s)) e)

pub returns : goal.returns
returns c =
    sym (limited-small c.args.s.now c.loop-b.n (c.loop-b.invariant.1 ∙ number-end c.args.s.now c.loop-b.b-index c.loop-b.n (omega arith)) (omega arith))
