-- `put_string` meets its contract.
use lib.ListN.{length, get_or, take, drop, length-take}
use Prim.Native.Nat.{ℕ, ◌+◌}
use Rattle.spelling.proofs.RuleTexts.{part-within}
use Rattle.output.proofs.Laying.{laid_on, laid_as}
use mathlib.Core.Path.{ap, ◌∙◌}
use native.Mathlib.Omega.{arith}
use Rattle.spelling.proofs.rule.put_string.Goals as goal

pub returns : goal.returns
returns c =
    let inside =
    part-within c.args.code.now (c.args.place + 2) c.from.result c.min-start.ensures c.min-end.ensures
    ∙ ap (λ (k : ℕ). take k (drop (c.args.place + 2) c.args.code.now)) (c.from.ensures ∙ c.byte.ensures) in
    (laid_on c.put_byte-a.ensures (laid_on (laid_as (inside) (c.put-b.ensures)) c.put_byte.ensures), omega (arith, c.put_byte-a.ensures.behind, c.put-b.ensures.behind, c.put_byte.ensures.behind, ap length inside, length-take (get_or c.args.code.now (c.args.place + 1) 0) (drop (c.args.place + 2) c.args.code.now)))
