-- `text::word_of` meets its contract: what the next turn makes of w is the number of at most eight bytes.
use mathlib.Core.Path.{ap}
use native.Mathlib.Omega.{arith}
use lib.ListN.{length}
use Rattle.model.specs.Block.{number}
use Rattle.text.proofs.Packing.{last-byte, before-last, number_fits}
use Rattle.text.proofs.word_of.Goals as goal

pub overflow_mul-w : goal.overflow_mul-w
overflow_mul-w c =
    let s = c.args.s.now in
    let f = c.next.new.self.iter.rest.now in
    let e = ap number (last-byte s c.loop-b.b-iterator.iter.rest.now f c.in-Some.b.now c.loop-b.invariant.0 c.in-Some.ensures.steps) in
    omega (arith, e, number_fits s (length f) c.requires (λ j. (c.type_inv.s j).fits))

pub overflow_add-w : goal.overflow_add-w
overflow_add-w c =
    let s = c.args.s.now in
    let f = c.next.new.self.iter.rest.now in
    let e = ap number (last-byte s c.loop-b.b-iterator.iter.rest.now f c.in-Some.b.now c.loop-b.invariant.0 c.in-Some.ensures.steps) in
    omega (arith, e, number_fits s (length f) c.requires (λ j. (c.type_inv.s j).fits))

pub loop-b-preserved : goal.loop-b-preserved
loop-b-preserved c =
    let s = c.args.s.now in
    let r = c.loop-b.b-iterator.iter.rest.now in
    let f = c.next.new.self.iter.rest.now in
    let e = ap number (last-byte s r f c.in-Some.b.now c.loop-b.invariant.0 c.in-Some.ensures.steps) in
    (before-last s r f c.in-Some.b.now c.loop-b.invariant.0 c.in-Some.ensures.steps, omega (arith, e))
