-- The valley cases A to L hold, and the valley session prints what the document says, by computation. Assumes nothing.
use mathlib.Core.Path.{◌≡◌, refl}
use Rattle.model.specs.Gate.{gate}
use Rattle.model.specs.Valley.{valley_input, valley_printed, cases, EachHolds, end, ◌also◌}
use Rattle.model.proofs.Computing.{computing}

pub session : gate valley_input ≡ valley_printed
unfolding computing
session = refl

pub valley-cases : EachHolds cases
unfolding computing
valley-cases =
    refl also refl also refl also refl also refl also refl also refl also refl also refl also refl also refl also refl also refl also refl also end
