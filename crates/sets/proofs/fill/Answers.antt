-- `sets::fill` meets its contract: own pairs are copied, every group is settled, and then the holders that have a tie are stored. Assumes nothing.
use mathlib.Core.Path.{◌∙◌, ap}
use mathlib.Core.Bool.{not}
use mathlib.Core.List.{List}
use Prim.Native.Nat.{ℕ}
use lib.ListN.{get_or}
use Rattle.bits.proofs.Bits.{bit_not}
use Rattle.ties.proofs.Masks.{in-use-lt}
use Rattle.sets.proofs.Solving.{filled}
use Rattle.sets.proofs.fill.Goals as goal

pub returns : goal.returns
returns c =
    filled c.args.ups.now c.args.own.now c.args.slots.now c.copy_from_slice.new.self c.settle_groups.new.table c.store_tied.new.table _ _ _ c.settle_groups.result
    (λ g l u. bit_not 64 c.numbered-free.result g c.numbered-free.type_inv l ∙ ap not (c.numbered-free.ensures g l (in-use-lt _ c.args.slots.now g u).0)) c.requires.1
    (c.store_tied.auto.table ∙ c.settle_groups.auto.table ∙ c.copy_from_slice.ensures.len ∙ c.requires.0.table-long) (λ j. (c.type_inv.table j).fits) (λ j. ap (λ (s : List ℕ). get_or s j 0) c.copy_from_slice.ensures.after) c.settle_groups.ensures c.store_tied.ensures
