-- `put_word` meets its contract.
use Prim.Native.Nat.{ℕ, ◌+◌}
use mathlib.Core.Path.{ap, ◌∙◌}
use lib.ListN.{length, take}
use native.Mathlib.Omega.{arith}
use Rattle.output.specs.Laid.{word_text}
use Rattle.output.proofs.Laying.{laid-past, laid_as}
use Rattle.output.proofs.PackedWords.{low_bytes, front-bytes, eight-bytes}
use Rattle.output.proofs.put_word.Goals as goal

pub returns-then-out-at : goal.returns-then-out-at
returns-then-out-at c =
    (laid-past c.args.out.now c.args.at (word_text 8 c.args.word) _ c.if-out-at.true (ap (λ (k : ℕ). c.args.at + k) c.width.ensures.0), omega (arith, c.width.ensures.1))

pub returns : goal.returns
returns c =
    let n = c.width-2 in
    let e = ap (take n.result) (c.to_le_bytes.ensures ∙ eight-bytes c.args.word) ∙ ap (λ (k : ℕ). take k (low_bytes 8 c.args.word)) n.ensures.0 ∙ front-bytes 8 c.args.word in
    (laid_as e c.put.ensures, omega (arith, c.put.ensures.behind, ap length e, n.ensures.0, n.ensures.1))
