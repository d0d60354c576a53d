-- `put_members` meets its contract: the lines of the members before k are put.
use Prim.Native.Nat.{suc, ◌≤◌, min}
use native.Mathlib.Nat.{mul-suc, mul-le-mul_left}
use native.Mathlib.Omega.{arith}
use Rattle.writer.proofs.TieTexts.{walk-less, walk_start, walk-next, walk_end}
use Rattle.writer.proofs.tie.put_members.Goals as goal

pub first_from-k-requires : goal.first_from-k-requires
first_from-k-requires g c = omega (arith, c.requires.few.0)

pub loop-k-init : goal.loop-k-init
loop-k-init g c = (omega arith, λ text puts. walk_start c.requires.few.0 c.requires.few.1 c.args.out.now c.args.at c.first_from-k.ensures)

pub put-m-requires : goal.put-m-requires
put-m-requires g c =
    let fits : suc (min c.loop-k.k c.args.n) ≤ c.args.n = omega arith in
    c.requires.puts.may _ c.loop-k.m c.loop-k.k
    (omega (arith, c.loop-k.invariant.0, c.requires.room, mul-suc g.row.SIZE (min c.loop-k.k c.args.n), mul-le-mul_left g.row.SIZE fits)) c.loop-k-test.true

pub first_from-k-requires-in-loop-k : goal.first_from-k-requires-in-loop-k
first_from-k-requires-in-loop-k g c = omega (arith, c.requires.few.0)

pub loop-k-smaller : goal.loop-k-smaller
loop-k-smaller g c = omega (arith, walk-less c.requires.few.0 c.requires.few.1 (omega arith) c.first_from-k-in-loop-k.ensures)

pub loop-k-preserved : goal.loop-k-preserved
loop-k-preserved g c =
    let less = walk-less c.requires.few.0 c.requires.few.1 (omega arith) c.first_from-k-in-loop-k.ensures in
    let fits : suc (min c.loop-k.k c.args.n) ≤ min c.first_from-k-in-loop-k.result c.args.n = omega (arith, less) in
    let room = c.requires.puts.within _ _ c.loop-k.m c.loop-k.k c.put-m.result c.loop-k-test.true c.put-m.ensures in (
      omega (arith, c.loop-k.invariant.0, room, mul-suc g.row.SIZE (min c.loop-k.k c.args.n), mul-le-mul_left g.row.SIZE fits),
      λ text puts. walk-next c.requires.few.0 c.requires.few.1 (c.loop-k.invariant.1 text puts) c.loop-k-test.true
          (puts.lays _ _ c.loop-k.m c.loop-k.k c.put-m.result c.loop-k-test.true c.put-m.ensures, room) c.first_from-k-in-loop-k.ensures,
    )

pub returns-clause-laid : goal.returns-clause-laid
returns-clause-laid g c text puts = (walk_end c.requires.few.0 c.requires.few.1 (c.loop-k.invariant.1 text puts) (omega arith)).0

pub returns-clause-within : goal.returns-clause-within
returns-clause-within g c =
    let fits : min c.loop-k.k c.args.n ≤ c.args.n = omega arith in omega (arith, c.loop-k.invariant.0, mul-le-mul_left g.row.SIZE fits)
