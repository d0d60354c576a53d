-- `write` meets its contract.
use Rattle.writer.specs.Texts.{book_text}
use lib.ListN.{length}
use Prim.Native.Nat.{ℕ, ◌≤◌, ◌<◌}
use Rattle.writer.proofs.Writing.{call, over-buffer, over-limit, laid-whole}
use mathlib.Core.Path.{subst}
use native.Mathlib.Omega.{arith}
use Rattle.writer.proofs.write.Goals as goal
use Rattle.writer.proofs.write.Goals.{then-buffer-length-via-then-buffer-length, then-buffer-length-via-else-buffer-length+then-length-gt-FILE_BYTES}

pub returns-then-buffer-length : goal.returns-then-buffer-length
returns-then-buffer-length c =
    let text = book_text c.args.book.now c.args.rules.now in (
      call (elim c.then-buffer-length.branch [
        | then-buffer-length-via-then-buffer-length w ↦
            over-buffer text c.args.buffer.now (subst (λ (k : ℕ). length c.args.buffer.now < k) c.length-length.ensures.0.any w.if-buffer-length.true)
        | then-buffer-length-via-else-buffer-length+then-length-gt-FILE_BYTES w ↦
            over-limit text c.args.buffer.now (subst (λ (k : ℕ). k ≤ length c.args.buffer.now) c.length-length.ensures.0.any w.if-buffer-length.false) (subst (λ (k : ℕ). 32768 < k) c.length-length.ensures.0.any w.if-length-gt-FILE_BYTES.true)
      ]),
      omega arith,
    )

pub returns : goal.returns
returns c =
    let text = book_text c.args.book.now c.args.rules.now in
    (call (laid-whole text c.args.buffer.now c.put_text.ensures.0 c.length-length.ensures.0.any c.if-buffer-length.false c.if-length-gt-FILE_BYTES.false), omega arith)
