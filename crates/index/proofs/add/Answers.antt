-- `index::add` meets its contract. Assumes nothing.
use Rattle.index.proofs.Relinking.{row-added}
use Rattle.index.proofs.add.Goals as goal

pub returns : goal.returns
returns c = row-added _ _ _ _ _ _ c.requires.1 c.rows_in-n.ensures c.hash.ensures.0 c.link_place-place.ensures c.put_row.ensures
