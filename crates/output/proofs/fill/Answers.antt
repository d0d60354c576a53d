-- `fill` meets its contract: the last digits stand at the end of the array.
use Prim.Native.Nat.{◌+◌, ◌%◌}
use mathlib.Core.Path.{refl}
use native.Mathlib.Omega.{arith}
use Rattle.output.proofs.Digits.{filling-room, filling-more, filled}
use Rattle.output.proofs.fill.Goals as goal

pub overflow_sub-i-in-loop-m : goal.overflow_sub-i-in-loop-m
overflow_sub-i-in-loop-m c = filling-room c.args.n c.loop-m.digits c.loop-m.m c.loop-m.i c.loop-m.invariant (omega (arith, c.ranges.n.fits)) (omega arith)

pub loop-m-preserved : goal.loop-m-preserved
loop-m-preserved c =
    let room = filling-room c.args.n c.loop-m.digits c.loop-m.m c.loop-m.i c.loop-m.invariant (omega (arith, c.ranges.n.fits)) (omega arith) in
    filling-more c.args.n c.loop-m.digits c.loop-m.m c.loop-m.i c.loop-m.invariant (48 + c.loop-m.m % 10) refl (omega arith) room

pub returns : goal.returns
returns c =
    filled c.args.n c.loop-m.digits c.loop-m.m c.loop-m.i c.loop-m.invariant (48 + c.loop-m.m) refl (omega arith)
