-- `put_lines` meets its contract: the lines of the numbers before k are put.
use Prim.Native.Nat.{ℕ, suc, ◌*◌, ◌≤◌}
use mathlib.Core.Path.{◌≡◌, ap}
use native.Mathlib.Nat.{mul-suc, mul-le-mul_left}
use native.Mathlib.Omega.{arith}
use Rattle.model.specs.Notation.{each, below}
use Rattle.output.proofs.Laying.{laid_none, laid_as}
use Rattle.spelling.proofs.LaidTexts.{laid_next}
use Rattle.spelling.proofs.line.put_lines.Goals as goal

pub loop-k-init : goal.loop-k-init
loop-k-init g c = (omega arith, λ text puts. laid_none c.args.out.now c.args.at)

pub put-n-requires : goal.put-n-requires
put-n-requires g c =
    let fits : suc c.loop-k.k ≤ c.args.count = omega arith in
    c.requires.puts.may _ c.loop-k.n c.loop-k.k
    (omega (arith, c.loop-k.invariant.0, c.requires.room, mul-suc g.row.SIZE c.loop-k.k, mul-le-mul_left g.row.SIZE fits)) c.loop-k-test.true

pub loop-k-preserved : goal.loop-k-preserved
loop-k-preserved g c = (
  omega (arith, c.loop-k.invariant.0, c.requires.puts.within _ _ c.loop-k.n c.loop-k.k c.put-n.result c.loop-k-test.true c.put-n.ensures, mul-suc g.row.SIZE c.loop-k.k),
  λ text puts. laid_next text (c.loop-k.invariant.1 text puts) (puts.lays _ _ c.loop-k.n c.loop-k.k c.put-n.result c.loop-k-test.true c.put-n.ensures),
)

pub returns-clause-laid : goal.returns-clause-laid
returns-clause-laid g c text puts =
    let e : c.loop-k.k ≡ c.args.count = omega arith in
    laid_as (ap (λ (k : ℕ). each text (below k)) e) (c.loop-k.invariant.1 text puts)

pub returns-clause-within : goal.returns-clause-within
returns-clause-within g c =
    let e : c.loop-k.k ≡ c.args.count = omega arith in
    omega (arith, c.loop-k.invariant.0, ap (λ (k : ℕ). g.row.SIZE * k) e)
