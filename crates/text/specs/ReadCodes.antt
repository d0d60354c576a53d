-- Decimal digits, and the number that they write.
use Rattle.std.specs.Prelude.{ℕ, Bool, ◌&&◌, length, leb}
use Rattle.std.proofs.Math.Option.{Option}
use Rattle.model.specs.Notation.{only_if, all_of}
use Rattle.model.specs.Limits.{largest_int}
use Rattle.model.specs.Bytes.{Bytes, in_range}
use Rattle.model.specs.Atoms.{number_from, no_leading_zero}

-- decimal digits without leading zeros, and the number that digits write, if it is at most the largest
unfoldable pub is_decimal : Bytes → Bool
is_decimal s = leb 1 (length s) && all_of (in_range "0" "9") s && no_leading_zero s

unfoldable pub limited : Bytes → Option ℕ
limited s = only_if (leb (number_from 0 s) largest_int) (number_from 0 s)
