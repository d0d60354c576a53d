-- `zhul_load` meets its contract. Assumes nothing.
use Rattle.host.proofs.NumberParts.{load-unpacked}
use Rattle.host.proofs.zhul_load.Goals as goal

pub returns-in-Ok : goal.returns-in-Ok
returns-in-Ok c = load-unpacked c.pack.ensures c.in-Ok.ensures

pub returns-in-Err : goal.returns-in-Err
returns-in-Err c = load-unpacked c.pack-in-Err.ensures (rw c.from.ensures c.in-Err.ensures)
