-- `values::str_at` meets its contract. Assumes nothing.
use native.Mathlib.Omega.{arith}
use Rattle.values.proofs.Constants.{str-beyond, str-short, str-long, str-cut, str-whole}
use Rattle.values.proofs.str_at.Goals.{then-code-end-via-then-code-end, then-code-end-via-else-code-end+then-end-lt2, then-code-end-via-else-code-end+else-end-lt2+then-end-i}
use Rattle.values.proofs.str_at.Goals.{then-n-gt24-via-then-n-gt24, then-n-gt24-via-else-n-gt24+then-end-start}
use Rattle.values.proofs.str_at.Goals as goal

pub returns-then-code-end : goal.returns-then-code-end
returns-then-code-end c = elim c.then-code-end.branch [
  | then-code-end-via-then-code-end w ↦ str-beyond c.args.code.now c.args.end c.args.i w.if-code-end.true
  | then-code-end-via-else-code-end+then-end-lt2 w ↦ str-short c.args.code.now c.args.end c.args.i (omega arith) (omega arith)
  | then-code-end-via-else-code-end+else-end-lt2+then-end-i w ↦ str-short c.args.code.now c.args.end c.args.i (omega arith) (omega arith)
]

pub returns-then-n-gt24 : goal.returns-then-n-gt24
returns-then-n-gt24 c = elim c.then-n-gt24.branch [
  | then-n-gt24-via-then-n-gt24 w ↦ str-long c.args.code.now c.args.end c.args.i (omega arith) (omega arith) (omega arith)
  | then-n-gt24-via-else-n-gt24+then-end-start w ↦ str-cut c.args.code.now c.args.end c.args.i (omega arith) (omega arith) (omega arith) (omega arith)
]

pub returns : goal.returns
returns c =
    str-whole c.args.code.now c.args.end c.args.i c.from-n.result c.from-n.ensures c.words_of.result (omega arith) (omega arith) c.if-n-gt24.false c.if-end-start.false c.words_of.ensures
