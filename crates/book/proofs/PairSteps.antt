-- The step of a line that declares a pair: its refusals, and the book with the pair. Assumes nothing.
use Prim.Native.Nat.{ℕ, ◌+◌, ◌*◌, ◌≤◌, ◌<◌}
use mathlib.Core.Path.{◌≡◌, refl, sym, ap, ap₂, subst, ◌∙◌}
use mathlib.Core.Bool.{Bool, true, false, not, ◌||◌}
use mathlib.Core.List.{List}
use mathlib.Core.Option as math
use mathlib.Core.Option.{some}
use Rattle.std.specs.Prelude.{Option, Some, None, is_some}
use native.Mathlib.Omega.{arith}
use lib.Dec.{eqb, leb}
use lib.ListN.{length, get_or}
use borrow.Author.Tests.{le-leb, lt-leb, eq-eqb, ne_eqb, eqb-true}
use Rattle.model.specs.Notation.{◌>>=◌, ◌is◌, is_none, nth}
use Rattle.model.specs.Limits.{pair_limit}
use Rattle.model.specs.Numbers as refusal
use Rattle.model.specs.Bytes.{Bytes}
use Rattle.model.specs.Names.{is_name}
use Rattle.model.specs.Attributes.{Source, AtomType, type_word, types, from_block, same_type}
use Rattle.model.specs.Atoms.{Atom, type_of, is_atom}
use Rattle.model.specs.Declarations.{Attribute, same_source_and_name, attribute_number, attribute_of, pair_number}
use Rattle.model.specs.Lines.{atom}
use Rattle.model.specs.State.{State, after}
use Rattle.model.specs.Standing.{Standing}
use Rattle.model.proofs.WordTables.{same_refl, same_word, reads_type}
use Rattle.model.proofs.Lists.{same_truth, or_left, place-nth}
use Rattle.codes.specs.Codes.{source_code, type_code}
use Rattle.codes.specs.Enums.{told}
use Rattle.codes.proofs.Codes.{type-injective}
use Rattle.text.specs.declared.Words.{Words}
use Rattle.text.specs.declared.Packed.{Packed}
use Rattle.text.specs.declared.Value.{Value}
use Rattle.text.specs.Packing.{packed_of}
use Rattle.text.specs.Values.{atom_value}
use Rattle.rows.specs.Rows.{Numbered}
use Rattle.book.specs.Sections as section
use Rattle.book.specs.Sections.{section_words}
use Rattle.book.specs.Held.{Holds}
use Rattle.book.specs.Finding.{PairFound}
use Rattle.book.specs.Declaring.{PairPut, PairStep}
use Rattle.book.proofs.Writes.{section-word}
use Rattle.book.proofs.AttributeLines.{block-source}
use Rattle.book.proofs.PairLines.{pair_held}
use Rattle.book.proofs.DeclarationTests.{test-undeclared, test-sort, test-repeated, test-full, accepted, number-there, number-nowhere, number_is}

same-type-code : (t u : AtomType) → same_type t u ≡ eqb (type_code t) (type_code u)
same-type-code t u =
    same_truth (same_type t u) (eqb (type_code t) (type_code u))
    (λ e. eq-eqb (type_code t) (type_code u) (ap type_code (same_word type_word types reads_type t u e)))
    (λ e. rw (type-injective t u (eqb-true (type_code t) (type_code u) e)) (same_refl (type_word u)))

-- r is what was found of the attribute
module _ (book : List ℕ) (source : ℕ) (packed : Packed) (value : Value) where
  pub pair-undeclared : Numbered (section_words section.attributes book) source packed None → PairStep book source packed value book refusal.undeclared
  pair-undeclared found code s n a name written from words atom-is S standing held =
      let e = found.number S.declared standing.declarations held.attributes s n name from words in (
        test-undeclared S (atom s n a) refl refl (ap is_none (number-nowhere (attribute_number S.declared s n) None e refl)),
        λ z. absurd (omega arith),
      )

  module _ (k : ℕ) (found : Numbered (section_words section.attributes book) source packed (Some k)) where
    -- the attribute, and its row
    record Declared (code : Bytes) (S : State) (s : Source) (n : Bytes) : Type 0 where
      attribute : Attribute
      number_is : attribute_number S.declared s n ≡ some k
      attribute-is : nth S.declared.attributes k ≡ some attribute
      of-name : attribute_of S.declared s n ≡ some attribute
      ty-is : get_or (section_words section.attributes book) (8 * k + 1) 0 ≡ type_code attribute.type

    declared : (code : Bytes) (S : State) → Standing S → Holds book code S → (s : Source) (n : Bytes) → is_name n ≡ true → source ≡ source_code s
        → packed_of n ≡ packed → Declared code S s n
    unfolding attribute_of attribute_number
    declared code S standing held s n name from words =
        let e = found.number S.declared standing.declarations held.attributes s n name from words in
        let f = number_is (attribute_number S.declared s n) k e in
        let (b, g, t) = place-nth (λ (b : Attribute). same_source_and_name b.source b.name s n) S.declared.attributes k f in
        record {
          attribute = b;
          number_is = f;
          attribute-is = g;
          of-name = ap (λ (o : math.Option ℕ). o >>= nth S.declared.attributes) f ∙ g;
          ty-is = (held.attributes.row k b g).type;
        }

    of_block : (s : Source) → source ≡ source_code s → from_block s ≡ leb (source_code Source.env) source
    of_block s from = block-source s ∙ ap (leb (source_code Source.env)) (sym from)

    pub pair-of-block : leb (source_code Source.env) source ≡ true → PairStep book source packed value book refusal.wrong_sort
    pair-of-block block code s n a name written from words atom-is S standing held =
        let d = declared code S standing held s n name from words in
        (test-sort S (atom s n a) refl refl (ap is_none d.number_is) (or_left (from_block s) _ (of_block s from ∙ block)), λ z. absurd (omega arith))

    module _ (of-holders : leb (source_code Source.env) source ≡ false) where
      -- behind the source's test that of the type is left
      sorted : (S : State) (s : Source) (n : Bytes) (a : Atom) (b : Attribute) → source ≡ source_code s → attribute_of S.declared s n ≡ some b → (t : Bool)
          → not (eqb (type_code b.type) (type_code (type_of a))) ≡ t → (from_block s || (attribute_of S.declared s n is λ c. not (same_type c.type (type_of a)))) ≡ t
      sorted S s n a b from of t e =
          ap₂ (λ (x y : Bool). x || y) (of_block s from ∙ of-holders)
          (ap (λ (o : math.Option Attribute). o is λ c. not (same_type c.type (type_of a))) of ∙ ap not (same-type-code b.type (type_of a)) ∙ e)

      pub pair-of-type : (get_or (section_words section.attributes book) (8 * k + 1) 0 ≡ value.ty → ⊥) → PairStep book source packed value book refusal.wrong_sort
      pair-of-type other code s n a name written from words atom-is S standing held =
          let d = declared code S standing held s n name from words in (
            test-sort S (atom s n a) refl refl (ap is_none d.number_is)
                (sorted S s n a d.attribute from d.of-name true (ap not (ne_eqb _ _ (λ z. other (d.ty-is ∙ z ∙ ap (λ (v : Value). v.ty) atom-is))))),
            λ z. absurd (omega arith),
          )

      module _ (typed : get_or (section_words section.attributes book) (8 * k + 1) 0 ≡ value.ty) (r : Option ℕ)
          (found-pair : PairFound (section_words section.pairs book) k value.words r) where
        right-type : (a : Atom) (b : Attribute) → atom_value a ≡ value → get_or (section_words section.attributes book) (8 * k + 1) 0 ≡ type_code b.type
            → type_code b.type ≡ type_code (type_of a)
        right-type a b atom-is ty = sym ty ∙ typed ∙ sym (ap (λ (v : Value). v.ty) atom-is)

        sorted-right : (S : State) (s : Source) (n : Bytes) (a : Atom) (code : Bytes) (d : Declared code S s n) → source ≡ source_code s → atom_value a ≡ value
            → (from_block s || (attribute_of S.declared s n is λ c. not (same_type c.type (type_of a)))) ≡ false
        sorted-right S s n a code d from atom-is =
            sorted S s n a d.attribute from d.of-name false (ap not (eq-eqb _ _ (right-type a d.attribute atom-is d.ty-is)))

        numbered : (S : State) (s : Source) (n : Bytes) (a : Atom) (code : Bytes) → Standing S → Holds book code S → Declared code S s n → is_atom a ≡ true → atom_value a ≡ value
            → r ≡ told (pair_number S.declared s n a)
        numbered S s n a code standing held d written atom-is =
            found-pair S.declared standing.declarations held.pairs s n d.attribute a d.number_is d.attribute-is
            (type-injective _ _ (right-type a d.attribute atom-is d.ty-is)) written (ap (λ (v : Value). v.words) atom-is)

        pub pair-repeated : is_some r ≡ true → PairStep book source packed value book refusal.repeated
        pair-repeated there code s n a name written from words atom-is S standing held =
            let d = declared code S standing held s n name from words in (
              test-repeated S (atom s n a) refl refl (ap is_none d.number_is) (sorted-right S s n a code d from atom-is)
                  (number-there (pair_number S.declared s n a) r (numbered S s n a code standing held d written atom-is) there),
              λ z. absurd (omega arith),
            )

        module _ (free : is_some r ≡ false) (m : ℕ) (count : m ≡ get_or book 2 0) where
          new : (S : State) (s : Source) (n : Bytes) (a : Atom) (code : Bytes) → Standing S → Holds book code S → Declared code S s n → is_atom a ≡ true → atom_value a ≡ value
              → not (is_none (pair_number S.declared s n a)) ≡ false
          new S s n a code standing held d written atom-is =
              ap (λ (o : math.Option ℕ). not (is_none o))
              (number-nowhere (pair_number S.declared s n a) r (numbered S s n a code standing held d written atom-is) free)

          counted : (code : Bytes) (S : State) → Holds book code S → m ≡ length S.declared.pairs
          counted code S held = count ∙ sym (section-word section.counts book 2 (omega arith)) ∙ held.counts.pairs

          pub pair-full : pair_limit ≤ m → PairStep book source packed value book refusal.full
          pair-full over code s n a name written from words atom-is S standing held =
              let d = declared code S standing held s n name from words in
              let at = counted code S held in (
                test-full S (atom s n a) refl refl (ap is_none d.number_is) (sorted-right S s n a code d from atom-is) (new S s n a code standing held d written atom-is)
                    (le-leb pair_limit (length S.declared.pairs) (omega arith)),
                λ z. absurd (omega arith),
              )

          pub pair_step : m < pair_limit → (next : List ℕ) → PairPut book m k value.words next → PairStep book source packed value next 0
          unfolding after
          pair_step few next put code s n a name written from words atom-is S standing held =
              let d = declared code S standing held s n name from words in
              let at = counted code S held in (
                accepted S (atom s n a) refl refl (ap is_none d.number_is) (sorted-right S s n a code d from atom-is) (new S s n a code standing held d written atom-is)
                    (lt-leb pair_limit (length S.declared.pairs) (omega arith)),
                λ _.
                    pair_held book next code S.declared S.ties (record { source = s; name = n; atom = a }) m k held
                    (λ i r f. (standing.declarations.rules.each i r f).names-declared) d.number_is at few found.within
                    (subst (λ (w : Words). PairPut book m k w next) (sym (ap (λ (v : Value). v.words) atom-is)) put),
              )
