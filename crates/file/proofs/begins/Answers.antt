-- `file::begins` meets its contract. Assumes nothing.
use Rattle.std.proofs.Common.{◌∙◌}
use Rattle.file.proofs.Files.{begun-so}
use Rattle.file.proofs.begins.Goals as goal

pub returns : goal.returns
returns c = c.starts_with.ensures.value ∙ begun-so c.args.file.now
