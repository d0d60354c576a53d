-- The truth values of the code, and those of the specification that they stand for.
use Rattle.model.specs.Truth as model
use Rattle.truth.specs.declared.Truth.{Truth}
use Rattle.truth.specs.declared.Truth.TheVariants.{False, Undef, True}

abbrev pub truth_of : Truth → model.Truth
truth_of False = model.FALSE
truth_of Undef = model.UNDEF
truth_of True = model.TRUE
