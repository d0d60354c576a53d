-- `length` meets its contract.
use Rattle.writer.proofs.Writing.{length-call}
use Rattle.writer.proofs.length.Goals as goal

pub returns : goal.returns
returns c = (length-call c.put_text.ensures.0, c.put_text.ensures.1)
