-- NAME.
use Rattle.std.specs.Prelude.{ℕ, Bool, ◌&&◌, ◌||◌, length, leb}
use Rattle.std.proofs.Math.Option.{Option}
use Rattle.model.specs.Notation.{all_of, only_if}
use Rattle.model.specs.Limits.{name_bytes}
use Rattle.model.specs.Bytes.{Bytes, is_byte, in_range}

-- "bytes of a-z, 0-9, `_`"
abbrev pub name_byte : ℕ → Bool
name_byte b = in_range "a" "z" b || in_range "0" "9" b || is_byte "_" b

-- "NAME: 1 to 12 bytes of a-z, 0-9, `_`"
unfoldable pub is_name : Bytes → Bool
is_name s = leb 1 (length s) && leb (length s) name_bytes && all_of name_byte s

abbrev pub read_name : Bytes → Option Bytes
read_name s = only_if (is_name s) s
