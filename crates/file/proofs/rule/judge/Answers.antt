-- `file::rule::judge` meets its contract: the bytes of rule k are lent to the judge. Assumes nothing.
use native.Mathlib.Omega.{arith}
use Rattle.file.proofs.RuleLines.{judged-into, judged-beyond}
use Rattle.file.proofs.rule.judge.Goals as goal

pub returns-then-k-ge-RULES : goal.returns-then-k-ge-RULES
returns-then-k-ge-RULES c = judged-beyond _ _ _ _ _ _ _ (omega arith) c.judge.ensures

pub returns : goal.returns
returns c =
    judged-into _ _ _ _ _ _ c.requires.2 (omega arith) c.judge-2.ensures (omega (arith, c.judge-2.auto))
