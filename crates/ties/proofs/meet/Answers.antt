-- `ties::meet` meets its contract. Assumes nothing.
use Rattle.ties.proofs.Masks.{meets-by}
use Rattle.ties.proofs.meet.Goals as goal

pub returns : goal.returns
returns c = meets-by c.args.a c.args.b c.ranges.a.fits
