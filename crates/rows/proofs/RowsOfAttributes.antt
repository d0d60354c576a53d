-- What the rows of attributes say of the declarations. Assumes nothing.
use Prim.Native.Nat.{ℕ, ◌+◌, ◌*◌, ◌≤◌, ◌<◌}
use native.Mathlib.Omega.{arith}
use mathlib.Core.Path.{◌≡◌, sym, ap, ap₂, ◌∙◌}
use mathlib.Core.Bool.{Bool, true, false, ◌&&◌}
use mathlib.Core.List.{List}
use mathlib.Core.Option.{some, some-injective}
use Rattle.std.specs.Prelude.{Option}
use lib.Dec.{eqb}
use lib.ListN.{length, get_or}
use borrow.Author.Tests.{eq-eqb, ne_eqb, eqb-true}
use Rattle.model.specs.Notation.{nth}
use Rattle.model.specs.Limits.{attribute_limit}
use Rattle.model.specs.Bytes.{Bytes}
use Rattle.model.specs.Names.{is_name}
use Rattle.model.specs.Attributes.{Source, source_word, sources, same_source}
use Rattle.model.specs.Declarations.{Declarations, Attribute, same_source_and_name, attribute_number}
use Rattle.model.proofs.WordTables.{same_refl, same_word, reads-source}
use Rattle.model.proofs.Lists.{same_truth, nth-lt, place-nth}
use Rattle.model.proofs.Declared.{named-eq}
use Rattle.codes.specs.Codes.{source_code}
use Rattle.codes.proofs.Codes.{source-injective, source-some}
use Rattle.codes.specs.Enums.{told}
use Rattle.text.specs.declared.Packed.{Packed}
use Rattle.text.specs.Packing.{packed_of, packed_at}
use Rattle.text.proofs.Packing.{named-at}
use Rattle.model.specs.Standing.{WellDeclared}
use Rattle.rows.specs.Rows.{row_named, AttributeRows, Numbered}
use Rattle.rows.proofs.FirstPlaces.{First, first-told, first-low}

source-same : (s t : Source) → eqb (source_code s) (source_code t) ≡ same_source s t
source-same s t =
    same_truth (eqb (source_code s) (source_code t)) (same_source s t)
    (λ e. rw (source-injective s t (eqb-true (source_code s) (source_code t) e)) (same_refl (source_word t)))
    (λ e. eq-eqb (source_code s) (source_code t) (ap source_code (same_word source_word sources reads-source s t e)))

module _ (rows : List ℕ) (D : Declarations) (well : WellDeclared D) (ar : AttributeRows rows D)
    (s : Source) (n : Bytes) (named : is_name n ≡ true) (source : ℕ) (name : Packed) (from : source ≡ source_code s) (words : packed_of n ≡ name) where
  abbrev at_row : ℕ → Bool
  at_row = row_named rows source name.low name.high

  -- a row has that source and name where its attribute has
  row_named_lem : (i : ℕ) (a : Attribute) → nth D.attributes i ≡ some a → at_row i ≡ same_source_and_name a.source a.name s n
  unfolding row_named
  row_named_lem i a e =
      let r = ar.row i a e in
      ap₂ (λ (x y : Bool). x && y)
      (ap₂ eqb r.source from ∙ source-same a.source s)
      (named-at rows (8 * i + 2) a.name n (well.attributes.named i a e) named words r.low (ap (λ (k : ℕ). get_or rows k 0) next ∙ r.high))
    where
      next : 8 * i + 2 + 1 ≡ 8 * i + 3
      next = omega arith

  -- a row behind the attributes has no source
  row_other : (i : ℕ) → length D.attributes ≤ i → i < 32 → at_row i ≡ false
  unfolding row_named
  row_other i h l =
      ap (λ (t : Bool). t && packed_at rows (8 * i + 2) name.low name.high)
      (ne_eqb (get_or rows (8 * i) 0) source (λ e. source-some s (sym (sym (ar.other i h l) ∙ e ∙ from))))

  pub attribute-told : (r : Option ℕ) → First at_row attribute_limit r → r ≡ told (attribute_number D s n)
  unfolding attribute_number
  attribute-told = first-told (λ a. same_source_and_name a.source a.name s n) D.attributes at_row attribute_limit ar.within row_named_lem row_other

-- the first row with that source and name has the attribute's number
pub first-numbered : (rows : List ℕ) (source : ℕ) (name : Packed) (r : Option ℕ)
    → First (row_named rows source name.low name.high) attribute_limit r → Numbered rows source name r
first-numbered rows source name r first = record {
  within = first-low (row_named rows source name.low name.high) attribute_limit r first;
  number = λ D well ar s n named from words.
      attribute-told rows D well ar s n named source name from words r first;
}

-- numbers of attributes are below the limit
pub number_small : (D : Declarations) (rows : List ℕ) → AttributeRows rows D → (s : Source) (n : Bytes) (k : ℕ) → attribute_number D s n ≡ some k → k < attribute_limit
unfolding attribute_number
number_small D rows ar s n k e =
    let (a, f, t) = place-nth (λ a. same_source_and_name a.source a.name s n) D.attributes k e in
    let l = nth-lt D.attributes k f in
    let w = ar.within in
    omega arith

-- one number is that of one source and name
pub number-injective : (D : Declarations) (s t : Source) (n m : Bytes) (k : ℕ) → attribute_number D s n ≡ some k → attribute_number D t m ≡ some k → (s ≡ t) × (n ≡ m)
unfolding attribute_number
number-injective D s t n m k e f =
    let (a, g, p) = place-nth (λ a. same_source_and_name a.source a.name s n) D.attributes k e in
    let (b, h, q) = place-nth (λ a. same_source_and_name a.source a.name t m) D.attributes k f in
    let z : a ≡ b = some-injective a b (sym g ∙ h) in
    let (x, y) = named-eq a.source a.name s n p in
    let (u, v) = named-eq b.source b.name t m q in
    (sym x ∙ ap (λ (c : Attribute). c.source) z ∙ u, sym y ∙ ap (λ (c : Attribute). c.name) z ∙ v)
