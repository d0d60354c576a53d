-- SRC and TYPE of an attribute.
use Rattle.std.specs.Prelude.{Bool, List, [], ◌∷◌}
use Rattle.std.proofs.Math.Option.{Option}
use Rattle.model.specs.Notation.{any_of}
use Rattle.model.specs.Bytes.{Bytes, bytes, same, one_of}

-- "SRC is user, object, admin, env or connect"
pub data Source : Type 0 where
  user object admin env connect : Source

abbrev pub sources : List Source
sources = user ∷ object ∷ admin ∷ env ∷ connect ∷ []

abbrev pub source_word : Source → Bytes
source_word user = bytes "user"
source_word object = bytes "object"
source_word admin = bytes "admin"
source_word env = bytes "env"
source_word connect = bytes "connect"

abbrev pub read_source : Bytes → Option Source
read_source s = one_of source_word sources s

abbrev pub same_source : Source → Source → Bool
same_source a b = same (source_word a) (source_word b)

-- the sources that holders do not have: their values come with the pass block
abbrev pub block_sources : List Source
block_sources = env ∷ connect ∷ []

-- "env or connect"
abbrev pub from_block : Source → Bool
from_block s = any_of (same_source s) block_sources

-- "TYPE is int, str or bool"
pub data AtomType : Type 0 where
  int str bool : AtomType

abbrev pub types : List AtomType
types = int ∷ str ∷ bool ∷ []

abbrev pub type_word : AtomType → Bytes
type_word int = bytes "int"
type_word str = bytes "str"
type_word bool = bytes "bool"

abbrev pub read_type : Bytes → Option AtomType
read_type s = one_of type_word types s

abbrev pub same_type : AtomType → AtomType → Bool
same_type a b = same (type_word a) (type_word b)
