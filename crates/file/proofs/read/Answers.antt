-- `file::read` meets its contract. Assumes nothing.
use Rattle.std.proofs.Common.{sym, ◌∙◌, arith}
use borrow.Author.Tests.{not-true, not-false}
use Rattle.file.proofs.Files.{first-long, file-long, file-begun-wrong, file-read}
use Rattle.file.proofs.read.Goals as goal

pub returns-then-file-gt-FILE_BYTES : goal.returns-then-file-gt-FILE_BYTES
returns-then-file-gt-FILE_BYTES c = file-long c.args.file.now (omega (arith, c.if-file-gt-FILE_BYTES.true))

pub returns-then-not-begins : goal.returns-then-not-begins
returns-then-not-begins c =
    file-begun-wrong c.args.file.now (omega (arith, c.if-file-gt-FILE_BYTES.false)) (not-false _ (sym c.begins.ensures ∙ c.if-not-begins.true))

pub slice_bounds-others-count : goal.slice_bounds-others-count
slice_bounds-others-count c = first-long c.args.file.now (not-true _ (sym c.begins.ensures ∙ c.if-not-begins.false))

pub slice_bounds-others-start : goal.slice_bounds-others-start
slice_bounds-others-start c = first-long c.args.file.now (not-true _ (sym c.begins.ensures ∙ c.if-not-begins.false))

pub returns : goal.returns
returns c =
    file-read c.args.file.now (omega (arith, c.if-file-gt-FILE_BYTES.false)) (not-true _ (sym c.begins.ensures ∙ c.if-not-begins.false))
    (c.clear.ensures.1 c.args.code.now c.requires.1) c.others.ensures
