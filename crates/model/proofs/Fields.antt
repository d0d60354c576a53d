-- Fields parted by a byte: each is read exactly from the bytes that write it, and so are two or three of them.
use mathlib.Core.Path.{◌≡◌, refl, sym, ap, ◌∙◌}
use mathlib.Core.Logic.{◌↔◌}
use mathlib.Core.Bool.{Bool, true}
use mathlib.Core.List.{List, ◌∷◌, ◌++◌}
use mathlib.Core.Option.{Option, some, some-injective}
use Rattle.model.specs.Notation.{◌>>=◌}
use Rattle.model.specs.Bytes.{Bytes, cut_at, one_of}
use Rattle.model.specs.Names.{is_name, read_name}
use Rattle.model.specs.Attributes.{Source, source_word, sources, AtomType, type_word, types}
use Rattle.model.specs.Atoms.{Atom, is_atom, write_atom, read_atom}
use Rattle.model.proofs.WordTables.{one-of-word, reads-source, reads_type}
use Rattle.model.proofs.Options.{bound}
use Rattle.model.proofs.Cuts.{lacks, cut-joined, cut-bound}
use Rattle.model.proofs.Names.{name-exact}
use Rattle.model.proofs.Atoms.{atom-exact}

pub record Field (A : Type 0) : Type 0 where
  pub read : Bytes → Option A
  pub fits : A → Bool
  pub write : A → Bytes
  pub exact : (s : Bytes) (a : A) → (read s ≡ some a) ↔ ((fits a ≡ true) × (s ≡ write a))

abbrev pub name_field : Field Bytes
name_field = record { read = read_name; fits = is_name; write = λ n. n; exact = name-exact }

abbrev pub atom_field : Field Atom
atom_field = record { read = read_atom; fits = is_atom; write = write_atom; exact = atom-exact }

-- the words of a table that reads each of them back
abbrev pub word_field : {A : Type 0} (word : A → Bytes) (table : List A) → ((a : A) → one_of word table (word a) ≡ some a) → Field A
word_field word table reads = record {
  read = one_of word table;
  fits = λ a. true;
  write = word;
  exact = λ s a. (λ e. (refl, sym (one-of-word word table s a e)), λ h. ap (one_of word table) h.1 ∙ reads a);
}

abbrev pub source_field : Field Source
source_field = word_field source_word sources reads-source

abbrev pub type_field : Field AtomType
type_field = word_field type_word types reads_type

-- what a field's writing reads as
pub reads : {A : Type 0} (x : Field A) (a : A) → x.fits a ≡ true → x.read (x.write a) ≡ some a
reads x a h = (x.exact (x.write a) a).1 (h, refl)

-- two fields, parted by a comma
module _ {X Y L : Type 0} (x : Field X) (y : Field Y) (line : X → Y → L) where
  abbrev pub read_both : Bytes → Option L
  read_both f = do
    (s, t) ← cut_at "," f
    a ← x.read s
    b ← y.read t
    some (line a b)

  pub both-fields : {C : Type 0} (f : Bytes) (l : L) → read_both f ≡ some l
      → ((a : X) (b : Y) → x.fits a ≡ true → y.fits b ≡ true → f ≡ x.write a ++ 44 ∷ y.write b → line a b ≡ l → C) → C
  both-fields f l e k =
      cut-bound 44 f e λ c p j e₁.
      bound {o = x.read c.0} e₁ λ a q e₂.
      bound {o = y.read c.1} e₂ λ b r e₃.
      let (m, u) = (x.exact c.0 a).0 q in
      let (n, v) = (y.exact c.1 b).0 r in
      k a b m n (rw (← u, ← v) j) (some-injective _ _ e₃)

  pub reads_both : (a : X) (b : Y) → x.fits a ≡ true → y.fits b ≡ true → lacks 44 (x.write a) ≡ true
      → read_both (x.write a ++ 44 ∷ y.write b) ≡ some (line a b)
  reads_both a b m n h = rw (cut-joined 44 (x.write a) (y.write b) h, reads x a m, reads y b n)

-- three fields, parted by commas
module _ {X Y Z L : Type 0} (x : Field X) (y : Field Y) (z : Field Z) (line : X → Y → Z → L) where
  abbrev pub read_three : Bytes → Option L
  read_three f = do
    (s, rest) ← cut_at "," f
    (t, u) ← cut_at "," rest
    a ← x.read s
    b ← y.read t
    c ← z.read u
    some (line a b c)

  pub three-fields : {C : Type 0} (f : Bytes) (l : L) → read_three f ≡ some l
      → ((a : X) (b : Y) (c : Z) → x.fits a ≡ true → y.fits b ≡ true → z.fits c ≡ true
      → f ≡ x.write a ++ 44 ∷ (y.write b ++ 44 ∷ z.write c) → line a b c ≡ l → C) → C
  three-fields f l e k =
      cut-bound 44 f e λ s p i e₁.
      cut-bound 44 s.1 e₁ λ t q j e₂.
      bound {o = x.read s.0} e₂ λ a g e₃.
      bound {o = y.read t.0} e₃ λ b h e₄.
      bound {o = z.read t.1} e₄ λ c r e₅.
      let (m, u) = (x.exact s.0 a).0 g in
      let (n, v) = (y.exact t.0 b).0 h in
      let (o, w) = (z.exact t.1 c).0 r in
      k a b c m n o (rw (← u, ← v, ← w, ← j) i) (some-injective _ _ e₅)

  pub reads_three : (a : X) (b : Y) (c : Z) → x.fits a ≡ true → y.fits b ≡ true → z.fits c ≡ true
      → lacks 44 (x.write a) ≡ true → lacks 44 (y.write b) ≡ true
      → read_three (x.write a ++ 44 ∷ (y.write b ++ 44 ∷ z.write c)) ≡ some (line a b c)
  reads_three a b c m n o g h =
      rw (cut-joined 44 (x.write a) (y.write b ++ 44 ∷ z.write c) g, cut-joined 44 (y.write b) (z.write c) h, reads x a m, reads y b n, reads z c o)
