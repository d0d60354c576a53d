-- `values::int_at` meets its contract. Assumes nothing.
use native.Mathlib.Omega.{arith}
use mathlib.Core.Path.{ap, ◌∙◌}
use Prim.Native.Nat.{ℕ, ◌+◌}
use Rattle.text.specs.declared.Words.{Words}
use Rattle.text.specs.Values.{words}
use Rattle.values.specs.Operands.{found}
use Rattle.values.proofs.Constants.{int-beyond, int-short, int-whole}
use Rattle.values.proofs.int_at.Goals.{then-code-end-via-then-code-end, then-code-end-via-else-code-end+then-end-lt5, then-code-end-via-else-code-end+else-end-lt5+then-end-i}
use Rattle.values.proofs.int_at.Goals as goal

pub returns-then-code-end : goal.returns-then-code-end
returns-then-code-end c = elim c.then-code-end.branch [
  | then-code-end-via-then-code-end w ↦ int-beyond c.args.code.now c.args.end c.args.i w.if-code-end.true
  | then-code-end-via-else-code-end+then-end-lt5 w ↦ int-short c.args.code.now c.args.end c.args.i (omega arith) (omega arith)
  | then-code-end-via-else-code-end+else-end-lt5+then-end-i w ↦ int-short c.args.code.now c.args.end c.args.i (omega arith) (omega arith)
]

pub returns : goal.returns
returns c =
    ap (λ (w : Words). found w (c.args.i + 6)) (c.one_word.ensures ∙ ap (λ (v : ℕ). words v 0 0) c.four.ensures) ∙ int-whole c.args.code.now c.args.end c.args.i (omega arith) (omega arith)
