-- `zhul_edit` meets its contract. Assumes nothing.
use Rattle.host.proofs.NumberParts.{edit-unpacked}
use Rattle.host.proofs.zhul_edit.Goals as goal

pub returns-in-Ok : goal.returns-in-Ok
returns-in-Ok c = edit-unpacked c.pack.ensures c.in-Ok.ensures
