-- Names and words are made of a name's bytes, so that a line is never cut inside of them.
use Prim.Native.Nat.{ℕ}
use mathlib.Core.Path.{◌≡◌, refl}
use mathlib.Core.Logic.{◌↔◌}
use mathlib.Core.Bool.{true, false, ◌&&◌}
use mathlib.Core.Option.{some}
use lib.ListN.{length}
use lib.Dec.{leb}
use Rattle.model.specs.Notation.{all_of}
use Rattle.model.specs.Limits.{name_bytes}
use Rattle.model.specs.Bytes.{Bytes}
use Rattle.model.specs.Names.{name_byte, is_name, read_name}
use Rattle.model.specs.Attributes.{Source, source_word, AtomType, type_word}
use Rattle.model.specs.Keys.{Key, key_word}
use Rattle.model.specs.Declarations.{Sort, sort_word}
use Rattle.model.proofs.Options.{parts, condition}
use Rattle.model.proofs.Cuts.{lacks, passing-lacks}

pub name-exact : (s n : Bytes) → (read_name s ≡ some n) ↔ ((is_name n ≡ true) × (s ≡ n))
name-exact s n = (λ e. let (h, z) = condition {t = is_name s} {a = s} e in (rw z at h, z), λ h. rw (h.1, h.0))

pub name-all : (n : Bytes) → is_name n ≡ true → all_of name_byte n ≡ true
unfolding is_name
name-all n e = (parts (leb 1 (length n) && leb (length n) name_bytes) (all_of name_byte n) e).1

pub source-all : (s : Source) → all_of name_byte (source_word s) ≡ true
source-all Source.user = refl
source-all Source.object = refl
source-all Source.admin = refl
source-all Source.env = refl
source-all Source.connect = refl

pub type-all : (t : AtomType) → all_of name_byte (type_word t) ≡ true
type-all AtomType.int = refl
type-all AtomType.str = refl
type-all AtomType.bool = refl

pub sort-all : (s : Sort) → all_of name_byte (sort_word s) ≡ true
sort-all Sort.admin = refl
sort-all Sort.ugroup = refl
sort-all Sort.ogroup = refl
sort-all Sort.user = refl
sort-all Sort.object = refl

pub key-all : (k : Key) → all_of name_byte (key_word k) ≡ true
key-all Key.attr = refl
key-all Key.op = refl
key-all Key.atom = refl
key-all Key.ugroup = refl
key-all Key.ogroup = refl
key-all Key.user = refl
key-all Key.object = refl
key-all Key.parent = refl
key-all Key.member = refl
key-all Key.value = refl
key-all Key.rule = refl

-- the comma, the dot, the equals sign and byte 10 are no bytes of a name
module _ (b : ℕ) (off : name_byte b ≡ false) where
  pub name-lacks : (n : Bytes) → is_name n ≡ true → lacks b n ≡ true
  name-lacks n e = passing-lacks name_byte b off n (name-all n e)

  pub source-lacks : (s : Source) → lacks b (source_word s) ≡ true
  source-lacks s = passing-lacks name_byte b off (source_word s) (source-all s)

  pub type-lacks : (t : AtomType) → lacks b (type_word t) ≡ true
  type-lacks t = passing-lacks name_byte b off (type_word t) (type-all t)

  pub sort-lacks : (s : Sort) → lacks b (sort_word s) ≡ true
  sort-lacks s = passing-lacks name_byte b off (sort_word s) (sort-all s)

  pub key-lacks : (k : Key) → lacks b (key_word k) ≡ true
  key-lacks k = passing-lacks name_byte b off (key_word k) (key-all k)
