-- What a reader reads, as the code has it: one form for every reader.
use Rattle.std.specs.Prelude.{Option, ◌≡◌}
use Rattle.std.proofs.Math.Option as math
use Rattle.model.specs.Notation.{◌>>=◌}
use Rattle.codes.specs.Enums.{told_by}

-- r is the numbers of parts, and the reader's result is what `line` makes of the same parts; no parts, no result
pub record Told {A L R : Type 0} (numbers : A → R) (line : A → math.Option L) (result : math.Option L) (r : Option R) : Type 0 where
  pub parts : math.Option A
  pub read : result ≡ (parts >>= line)
  pub told : r ≡ told_by numbers parts
