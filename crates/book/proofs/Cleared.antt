-- A book of zeros, and with holder 0 alone: the empty state. Assumes nothing.
use Prim.Native.Nat.{ℕ, ◌+◌, ◌*◌, ◌/◌, ◌%◌, ◌≤◌, ◌<◌}
use mathlib.Core.Path.{◌≡◌, refl, ap, ◌∙◌}
use mathlib.Core.List.{List, []}
use mathlib.Core.Option.{none}
use native.Mathlib.Decide.{dec_lt}
use native.Mathlib.Omega.{arith}
use lib.ListN.{length, get_or, get_or-eq_default}
use Rattle.model.specs.Limits.{Edition}
use Rattle.model.specs.Bytes.{Bytes, bytes}
use Rattle.model.specs.Declarations.{Declarations, Sort, holder_numbers_of, groups, sort_of}
use Rattle.model.specs.Ties.{no_ties}
use Rattle.model.proofs.WordTables.{none-is-some}
use Rattle.text.specs.Packing.{packed_of}
use Rattle.bits.specs.Bits.{bit}
use Rattle.bits.proofs.Bits.{bit-none}
use Rattle.rows.specs.Rows.{is_pair_of, masked}
use Rattle.index.specs.Index.{Indexed, Rows}
use Rattle.index.proofs.IndexParts.{empty-indexed}
use Rattle.index.proofs.Listed.{indexed-same}
use Rattle.ties.proofs.Editing.{keeps-none}
use Rattle.book.specs.Sections as section
use Rattle.book.specs.Sections.{Section, section_words, book_words, rule_bytes}
use Rattle.book.specs.Held.{Holds, pair_row, holder_row, sort_code}
use Rattle.book.specs.Declaring.{HolderPut, Emptied}
use Rattle.book.proofs.Writes.{section-long, section-word}
use Rattle.book.proofs.Holders.{holder-held}

-- ---- a book of zeros holds no declarations, not even holder 0

abbrev nobody : Declarations
nobody = record { edition = Edition.first; attributes = []; operations = []; pairs = []; holders = []; rules = [] }

module _ (book : List ℕ) (long : length book ≡ book_words) (zeros : (i : ℕ) → i < length book → get_or book i 0 ≡ 0) where
  zero-part : (s : Section) → s.start + s.size ≤ length book → (i : ℕ) → get_or (section_words s book) i 0 ≡ 0
  zero-part s fits i = go (dec_lt i s.size)
    where
      go : Dec (i < s.size) → get_or (section_words s book) i 0 ≡ 0
      go (yes l) = section-word s book i l ∙ zeros (s.start + i) (omega arith)
      go (no l) = get_or-eq_default (section_words s book) 0 {n = i} (omega (arith, section-long s book fits))

  zeros-held : (code : Bytes) → length code ≡ rule_bytes → Holds book code (record { declared = nobody; ties = no_ties })
  unfolding holder_numbers_of groups sort_of masked is_pair_of
  zeros-held code code-long =
      let word = zero-part in
      record {
        edition = refl;
        long = long;
        code-long = code-long;
        counts =
            let zero = zero-part section.counts (omega arith) in
            record { attributes = zero 0; operations = zero 1; pairs = zero 2; holders = zero 3; groups-are = zero 4; rules = zero 5 };
        attributes =
            let zero = zero-part section.attributes (omega arith) in
            record {
              within = omega arith;
              row = λ i a e. none-is-some e;
              other = λ i h l. zero (8 * i);
              mask = λ i p h l. ap (λ (w : ℕ). bit w (p % 64)) (zero (8 * i + 4 + p / 64)) ∙ bit-none (p % 64);
            };
        operations =
            record {
              low = λ i n e. none-is-some e;
              high = λ i n e. none-is-some e;
              other = λ i h l. zero-part section.operations (omega arith) (2 * i);
            };
        pairs = indexed (pair_row nobody) (λ k. refl) section.pairs (omega arith) refl;
        holders = indexed (holder_row nobody) (λ k. refl) section.holders (omega arith) refl;
        sorts = λ k l. zero-part section.sorts (omega arith) k;
        groups =
            record {
              in-slot = λ k s e i. none-is-some e;
              no_slot = λ k l f. zero-part section.slot_of (omega arith) k;
              taken = λ q l. absurd (omega arith);
              free = λ q l m. zero-part section.slots (omega arith) q;
            };
        ties =
            keeps-none (section_words section.ups book) (section_words section.own book) (section_words section.slots book) (zero-part section.ups (omega arith))
            (zero-part section.own (omega arith)) (zero-part section.slots (omega arith));
        rules = λ i r e. none-is-some e;
      }
    where
      indexed : (rows : Rows) → ((k : ℕ) → none ≡ rows k) → (s : Section) → s.start + s.size ≤ length book → s.size ≡ 1536 → Indexed (section_words s book) 256 rows
      indexed rows same s fits e =
          indexed-same (λ _. none) rows same (empty-indexed (section_words s book) 256 (section-long s book fits ∙ e) (λ i l. zero-part s fits i))

  -- with holder 0
  pub emptied : (next : List ℕ) → HolderPut book 0 (sort_code Sort.admin) (packed_of (bytes "admin")) next → Emptied next
  emptied next put code code-long =
      holder-held book code nobody no_ties (record { number = 0; sort = Sort.admin; name = bytes "admin" }) 0 (zeros-held code code-long) (λ i r f. none-is-some f) refl refl refl (omega arith) next put refl
