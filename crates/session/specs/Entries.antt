-- The entries of a pass block, a part of its bytes.
use Rattle.std.specs.Prelude.{ℕ, ◌*◌, ◌<◌, ◌≡◌, length, get_or}
use Rattle.model.specs.Limits.{entry_bytes}
use Rattle.model.specs.Bytes.{Bytes}
use Rattle.model.specs.Block.{Block, entries_of}

-- "Then n entries of five bytes"
pub record EntriesOf (b : Block) (entries : Bytes) : Type 0 where
  pub count : ℕ
  pub long : length entries ≡ entry_bytes * count
  pub are : b.entries ≡ entries_of count entries
  pub bytes : (i : ℕ) → get_or entries i 0 < 256
