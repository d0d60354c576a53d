-- The step of a line that declares a holder: its refusals, and the book with the holder. Assumes nothing.
use Prim.Native.Nat.{ℕ, ◌≤◌, ◌<◌}
use mathlib.Core.Path.{◌≡◌, refl, sym, ap, ap₂, subst, ◌∙◌}
use mathlib.Core.Bool.{Bool, true, false, not, ◌&&◌, ◌||◌, true≢false}
use mathlib.Core.List.{List}
use mathlib.Core.Option as math
use Rattle.std.specs.Prelude.{Option, is_some}
use native.Mathlib.Omega.{arith}
use lib.Dec.{leb, ltb}
use lib.ListN.{length, get_or}
use borrow.Author.Tests.{ltb-true, le-leb, lt-leb}
use Rattle.model.specs.Notation.{is_none}
use Rattle.model.specs.Limits.{holder_numbers, group_limit}
use Rattle.model.specs.Numbers as refusal
use Rattle.model.specs.Bytes.{Bytes}
use Rattle.model.specs.Names.{is_name}
use Rattle.model.specs.Declarations.{Sort, is_sort, is_group, groups, holder_number, holder_numbers_of}
use Rattle.model.specs.Lines.{holder}
use Rattle.model.specs.State.{State, after}
use Rattle.model.specs.Standing.{Standing}
use Rattle.model.proofs.Declared.{next-free}
use Rattle.model.proofs.Standing.{numbers-length}
use Rattle.text.specs.declared.Packed.{Packed}
use Rattle.text.specs.Packing.{packed_of}
use Rattle.book.specs.Sections as section
use Rattle.book.specs.Sections.{section_words, book_holders}
use Rattle.book.specs.Held.{Holds, sort_code}
use Rattle.book.specs.Finding.{HolderFound}
use Rattle.book.specs.Declaring.{HolderPut, group_put, HolderStep}
use Rattle.book.proofs.Writes.{section-word}
use Rattle.book.proofs.Holders.{holder-held, group-held}
use Rattle.book.proofs.DeclarationTests.{test-repeated, test-full, accepted, number-there, number-nowhere}

-- groups are told by the numbers of their sorts
group-code : (s : Sort) → is_sort s Sort.admin ≡ false → is_group s ≡ ltb (sort_code s) (sort_code Sort.user)
group-code Sort.admin e = absurd (true≢false e)
group-code Sort.ugroup e = refl
group-code Sort.ogroup e = refl
group-code Sort.user e = refl
group-code Sort.object e = refl

module _ (book : List ℕ) (key : ℕ) (packed : Packed) (r : Option ℕ) (found : HolderFound (section_words section.holders book) packed r) where
  pub holder-repeated : is_some r ≡ true → HolderStep book key packed book refusal.repeated
  holder-repeated there code s n sort name from words S standing held =
      let e = found S.declared standing.declarations held.holders n name words in
      (test-repeated S (holder s n) refl refl refl refl (number-there (holder_number S.declared n) r e there), λ z. absurd (omega arith))

  module _ (free : is_some r ≡ false) (m : ℕ) (count : m ≡ get_or book 3 0) where
    new : (n : Bytes) → is_name n ≡ true → packed_of n ≡ packed → (code : Bytes) (S : State) → Standing S → Holds book code S
        → not (is_none (holder_number S.declared n)) ≡ false
    new n name words code S standing held =
        ap (λ (o : math.Option ℕ). not (is_none o))
        (number-nowhere (holder_number S.declared n) r (found S.declared standing.declarations held.holders n name words) free)

    counted : (code : Bytes) (S : State) → Holds book code S → m ≡ length (holder_numbers_of S.declared)
    counted code S held = count ∙ sym (section-word section.counts book 3 (omega arith)) ∙ held.counts.holders

    numbered : (code : Bytes) (S : State) → Holds book code S → m ≡ length S.declared.holders
    numbered code S held = counted code S held ∙ numbers-length S.declared

    pub holder-full : book_holders ≤ m → HolderStep book key packed book refusal.full
    holder-full over code s n sort name from words S standing held =
        let at = counted code S held in (
          test-full S (holder s n) refl refl refl refl (new n name words code S standing held)
              (ap (λ (t : Bool). t || (is_group s && leb group_limit (groups S.declared))) (le-leb (holder_numbers S.declared.edition) (length (holder_numbers_of S.declared)) (omega (arith, ap holder_numbers held.edition)))),
          λ z. absurd (omega arith),
        )

    module _ (few : m < book_holders) where
      -- room for holders leaves the groups to be looked at
      room : (code : Bytes) (s : Sort) (S : State) → Holds book code S → (t : Bool) → (is_group s && leb group_limit (groups S.declared)) ≡ t
          → (leb (holder_numbers S.declared.edition) (length (holder_numbers_of S.declared)) || (is_group s && leb group_limit (groups S.declared))) ≡ t
      room code s S held t e =
          let at = counted code S held in
          ap₂ (λ (x y : Bool). x || y) (lt-leb (holder_numbers S.declared.edition) (length (holder_numbers_of S.declared)) (omega (arith, ap holder_numbers held.edition))) e

      -- what was put, in the terms of the line
      as-told : (s : Sort) (n : Bytes) → key ≡ sort_code s → packed_of n ≡ packed → {next : List ℕ} → HolderPut book m key packed next
          → HolderPut book m (sort_code s) (packed_of n) next
      as-told s n from words {next} put =
          subst (λ (x : ℕ). HolderPut book m x (packed_of n) next) from (subst (λ (p : Packed). HolderPut book m key p next) (sym words) put)

      -- a user or an object
      pub holder-step : ltb key (sort_code Sort.user) ≡ false → (next : List ℕ) → HolderPut book m key packed next → HolderStep book key packed next 0
      unfolding after
      holder-step plain next e code s n sort name from words S standing held =
          let no-group : is_group s ≡ false = group-code s sort ∙ ap (λ (x : ℕ). ltb x (sort_code Sort.user)) (sym from) ∙ plain in (
            accepted S (holder s n) refl refl refl refl (new n name words code S standing held)
                (room code s S held false (ap (λ (t : Bool). t && leb group_limit (groups S.declared)) no-group)),
            λ _.
                holder-held book code S.declared S.ties (record { number = length S.declared.holders; sort = s; name = n }) m held (λ i r f. (standing.declarations.rules.each i r f).names-declared)
                (next-free standing.declarations) (numbered code S held) (numbered code S held) few next (as-told s n from words e) no-group,
          )

      -- a group; g is their count
      module _ (group : ltb key (sort_code Sort.user) ≡ true) (g : ℕ) (groups-are : g ≡ get_or book 4 0) where
        is-group : (s : Sort) → is_sort s Sort.admin ≡ false → key ≡ sort_code s → is_group s ≡ true
        is-group s sort from = group-code s sort ∙ ap (λ (x : ℕ). ltb x (sort_code Sort.user)) (sym from) ∙ group

        grouped : (code : Bytes) (S : State) → Holds book code S → g ≡ groups S.declared
        grouped code S held = groups-are ∙ sym (section-word section.counts book 4 (omega arith)) ∙ held.counts.groups-are

        pub group-full : group_limit ≤ g → HolderStep book key packed book refusal.full
        group-full over code s n sort name from words S standing held =
            let at = grouped code S held in (
              test-full S (holder s n) refl refl refl refl (new n name words code S standing held)
                  (room code s S held true (ap₂ (λ (x y : Bool). x && y) (is-group s sort from) (le-leb group_limit (groups S.declared) (omega arith)))),
              λ z. absurd (omega arith),
            )

        pub group-step : g < group_limit → (first next : List ℕ) → HolderPut book m key packed first → next ≡ group_put first m g → HolderStep book key packed next 0
        unfolding after
        group-step low_count first next w e code s n sort name from words S standing held =
            let at = grouped code S held in
            let some-holder = ltb-true 0 (length S.declared.holders) (sym (standing.declarations.holders.gapless 0) ∙ rw standing.declarations.holders.admin-first refl) in (
              accepted S (holder s n) refl refl refl refl (new n name words code S standing held)
                  (room code s S held false (ap₂ (λ (x y : Bool). x && y) (is-group s sort from) (lt-leb group_limit (groups S.declared) (omega arith)))),
              λ _.
                  subst (λ (l : List ℕ). Holds l code (after (holder s n) S)) (sym e)
                  (group-held book code S.declared S.ties (record { number = length S.declared.holders; sort = s; name = n }) m held (λ i r f. (standing.declarations.rules.each i r f).names-declared)
                  (next-free standing.declarations) (numbered code S held) (numbered code S held) few first (as-told s n from words w) (is-group s sort from) g at low_count (omega (arith, numbered code S held))),
            )
