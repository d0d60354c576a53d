-- The variant that stands for a constructor has the constructor's number.
use Rattle.std.proofs.Common.{◌≡◌, refl}
use Rattle.model.specs.Attributes.{Source, AtomType}
use Rattle.model.specs.Keys.{Key}
use Rattle.codes.specs.Codes.{source_code, type_code, key_code}
use Rattle.codes.specs.Enums.{source_number, source_for, type_number, type_for, key_number, key_for}

pub source-numbered : (s : Source) → source_number (source_for s) ≡ source_code s
source-numbered Source.user = refl
source-numbered Source.object = refl
source-numbered Source.admin = refl
source-numbered Source.env = refl
source-numbered Source.connect = refl

pub type-numbered : (t : AtomType) → type_number (type_for t) ≡ type_code t
type-numbered AtomType.int = refl
type-numbered AtomType.str = refl
type-numbered AtomType.bool = refl

pub key-numbered : (k : Key) → key_number (key_for k) ≡ key_code k
key-numbered Key.attr = refl
key-numbered Key.op = refl
key-numbered Key.atom = refl
key-numbered Key.ugroup = refl
key-numbered Key.ogroup = refl
key-numbered Key.user = refl
key-numbered Key.object = refl
key-numbered Key.parent = refl
key-numbered Key.member = refl
key-numbered Key.value = refl
key-numbered Key.rule = refl
