-- `width` meets its contract.
use Prim.Native.Nat.{◌-◌, ◌/◌, ◌^◌, ◌<◌}
use mathlib.Core.Path.{◌≡◌, ◌∙◌}
use native.Mathlib.Omega.{arith}
use lib.ListN.{length}
use lib.Count.{count_leading_zeros, leading_le}
use Rattle.output.specs.Laid.{word_text}
use Rattle.output.proofs.WordWidth.{word_width}
use Rattle.output.proofs.width.Goals as goal

pub returns : goal.returns
returns c =
    let small : c.args.word < 256 ^ 8 = omega arith in
    let e : (71 - count_leading_zeros 64 c.args.word) / 8 ≡ length (word_text 8 c.args.word) = word_width 8 c.args.word small in
    let most = leading_le 64 c.args.word in
    let z : 8 - count_leading_zeros 64 c.args.word / 8 ≡ (71 - count_leading_zeros 64 c.args.word) / 8 = omega (arith, most) in
    (z ∙ e, omega arith)
