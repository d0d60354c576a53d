-- The eleven keys of lines.
use Rattle.std.specs.Prelude.{ℕ, Bool, List, [], ◌∷◌, length}
use Rattle.std.proofs.Math.Option.{Option}
use Rattle.model.specs.Notation.{before, any_of}
use Rattle.model.specs.Bytes.{Bytes, bytes, same, one_of}

-- "lines `key=fields`"
pub data Key : Type 0 where
  attr op atom ugroup ogroup user object parent member value rule : Key

-- "keys in this order"
abbrev pub keys : List Key
keys = attr ∷ op ∷ atom ∷ ugroup ∷ ogroup ∷ user ∷ object ∷ parent ∷ member ∷ value ∷ rule ∷ []

abbrev pub key_word : Key → Bytes
key_word attr = bytes "attr"
key_word op = bytes "op"
key_word atom = bytes "atom"
key_word ugroup = bytes "ugroup"
key_word ogroup = bytes "ogroup"
key_word user = bytes "user"
key_word object = bytes "object"
key_word parent = bytes "parent"
key_word member = bytes "member"
key_word value = bytes "value"
key_word rule = bytes "rule"

-- the key that bytes are, if they are one
abbrev pub read_key : Bytes → Option Key
read_key s = one_of key_word keys s

abbrev pub same_key : Key → Key → Bool
same_key a b = same (key_word a) (key_word b)

-- the place of a key in the order: how many keys stand before it
abbrev pub rank : Key → ℕ
rank k = length (before (same_key k) keys)

-- "parent, member and value lines are ties"
abbrev pub tie_keys : List Key
tie_keys = parent ∷ member ∷ value ∷ []

abbrev pub is_tie_key : Key → Bool
is_tie_key k = any_of (same_key k) tie_keys
