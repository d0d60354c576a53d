-- `four` meets its contract.
use native.Mathlib.Omega.{arith}
use Rattle.spelling.proofs.RuleTexts.{four_bytes}
use Rattle.spelling.proofs.rule.four.Goals as goal

pub returns : goal.returns
returns c =
    let bytes = four_bytes c.args.code.now c.args.place c.byte.ensures c.byte-2.ensures c.byte-3.ensures c.byte-4.ensures in
    omega (arith, c.from_le_bytes.ensures, bytes)
