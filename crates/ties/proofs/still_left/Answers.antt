-- `ties::still_left` meets its contract. Assumes nothing.
use mathlib.Core.Path.{◌∙◌, ap₂}
use mathlib.Core.Bool.{Bool, ◌&&◌}
use Prim.Native.Nat.{◌-◌, ◌^◌}
use lib.Bits.{bit_or}
use Rattle.bits.proofs.Bits.{bit-or, bit-and, bit_not}
use Rattle.ties.proofs.still_left.Goals as goal

pub returns : goal.returns
returns c q l =
    bit-and (bit_or c.args.left c.args.up) (2 ^ 64 - 1 - c.args.done) q
    ∙ ap₂ (λ (a b : Bool). a && b) (bit-or c.args.left c.args.up q) (bit_not 64 c.args.done q c.ranges.done.fits l)
