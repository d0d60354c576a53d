-- The pass block.
use Rattle.std.specs.Prelude.{ℕ, zero, suc, ◌+◌, ◌*◌, ◌/◌, ◌%◌, ◌^◌, Bool, ◌&&◌, List, [], ◌∷◌, length, get_or, take, drop, eqb, leb}
use Rattle.std.proofs.Math.Option.{Option}
use Rattle.model.specs.Notation.{only_if}
use Rattle.model.specs.Limits.{entry_limit, entry_bytes, head_bytes}
use Rattle.model.specs.Bytes.{Bytes}

-- "entries of five bytes: attribute number and a 32-bit value"
pub record Entry : Type 0 where
  pub attribute : ℕ
  pub value : ℕ

-- "Byte 1: user's holder number. 2: object's. 3: operation. 4-7: activation mask", and the entries
pub record Block : Type 0 where
  pub user : ℕ
  pub object : ℕ
  pub operation : ℕ
  pub mask : ℕ
  pub entries : List Entry

-- "low byte first"
abbrev pub number : Bytes → ℕ
number [] = 0
number (x ∷ xs) = x + 256 * number xs

-- the byte of a number, and the 32-bit value from it on
abbrev pub byte_at : Bytes → ℕ → ℕ
byte_at s k = get_or s k 0

abbrev pub value_at : Bytes → ℕ → ℕ
value_at s k = number (take 4 (drop k s))

-- "Then n entries of five bytes"
abbrev pub entries_of : ℕ → Bytes → List Entry
entries_of zero s = []
entries_of (suc n) s = record { attribute = byte_at s 0; value = value_at s 1 } ∷ entries_of n (drop entry_bytes s)

-- "Byte 0: 1. … 8: n, 0 to 8. 9: 0. … Length exactly 10 + 5n"
unfoldable pub is_block : Bytes → Bool
is_block s =
    eqb (byte_at s 0) 1 && leb (byte_at s 8) entry_limit && eqb (byte_at s 9) 0 && eqb (length s) (head_bytes + entry_bytes * byte_at s 8)

-- "Byte 1: user's holder number. 2: object's. 3: operation. 4-7: activation mask"
unfoldable pub read_block : Bytes → Option Block
read_block s =
    only_if (is_block s)
    (record {
      user = byte_at s 1;
      object = byte_at s 2;
      operation = byte_at s 3;
      mask = value_at s 4;
      entries = entries_of (byte_at s 8) (drop head_bytes s);
    })

-- "activation mask, low byte first, bit k for attribute k"
unfoldable pub activated : Block → ℕ → Bool
activated b k = eqb (b.mask / 2 ^ k % 2) 1
