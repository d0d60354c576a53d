-- The texts of ties: which of them are there, and where none is, so that a walk may pass over them. Assumes nothing.
use Prim.Native.Nat.{ℕ, zero, suc, ◌+◌, ◌-◌, ◌*◌, ◌/◌, ◌%◌, ◌≤◌, ◌<◌, min}
use mathlib.Core.Path.{◌≡◌, refl, sym, ap, subst, ◌∙◌}
use mathlib.Core.Bool.{Bool, true, false, ◌&&◌, ◌||◌, not, or-false, or_assoc}
use mathlib.Core.List.{List, [], ◌∷◌}
use native.Mathlib.Decide.{dec_lt}
use native.Mathlib.Nat.{mul-le-mul_left}
use native.Mathlib.Omega.{arith}
use borrow.Author.Tests.{ne_eqb}
use lib.Dec.{eqb}
use lib.ListN.{length, get_or, take, drop, length-drop}
use lib.Seq.{length-take-le}
use Rattle.model.specs.Notation.{if◌then◌otherwise◌, each, below}
use Rattle.model.specs.Bytes.{Bytes}
use Rattle.bits.specs.Bits.{bit, member}
use Rattle.bits.specs.Lowest.{FirstFrom}
use Rattle.bits.proofs.Bits.{bit-none}
use Rattle.bits.proofs.Walks.{any_left, none_left}
use Rattle.ties.proofs.Masks.{eqb-flip}
use Rattle.output.specs.Laid.{Laid}
use Rattle.output.proofs.Laying.{laid_as}
use Rattle.book.specs.Sections as section
use Rattle.book.specs.Sections.{section_words, book_words, book_holders}
use Rattle.writer.specs.GroupSets.{AddsGroup, AddsGroups}
use Rattle.writer.specs.Texts.{member_text, in_mask, up_line_text, up_text, ups_text, key_of_ups, holder_ups_text, own_of}
use Rattle.spelling.proofs.LaidTexts.{chosen, passed, EachLaid, each_start, each_next, each-end}
use Rattle.spelling.proofs.Listing.{each_none, each_same}

-- ---- ties up

module _ (book : List ℕ) (h : ℕ) where
  pub member-key : get_or book ((section.slot_of).start + h) 0 ≡ 0 → 9 ≡ key_of_ups book h
  unfolding key_of_ups
  member-key e = chosen 9 8 e

  pub parent-key : (get_or book ((section.slot_of).start + h) 0 ≡ 0 → ⊥) → 8 ≡ key_of_ups book h
  unfolding key_of_ups
  parent-key e = passed 9 8 e

  module _ (n key : ℕ) where
    pub ups-of-key : key_of_ups book h ≡ key → ups_text book n key h ≡ holder_ups_text book n key h
    unfolding holder_ups_text
    ups-of-key e = chosen (ups_text book n key h) [] e

    pub ups-of-other : (key_of_ups book h ≡ key → ⊥) → [] ≡ holder_ups_text book n key h
    unfolding holder_ups_text
    ups-of-other e = passed (ups_text book n key h) [] e

-- ---- groups in a set, in the order of their numbers

-- one group more, and none where the number is that of no holder
pub with-group : {before after : List ℕ} {number : ℕ} → length after ≡ 4 → ((q : ℕ) → member after q ≡ (member before q || eqb q number)) → AddsGroup number before after
with-group {before} {number = number} long all = record { long = long; members = λ g l. all g ∙ ap (λ (b : Bool). member before g || b) (eqb-flip g number) }

pub without-group : (before : List ℕ) (number : ℕ) → length before ≡ 4 → 256 ≤ number → AddsGroup number before before
without-group before number long large =
    record { long = long; members = λ g l. sym (or-false (member before g)) ∙ ap (λ (b : Bool). member before g || b) (sym (ne_eqb number g (λ e. omega arith))) }

-- what is in the set so far, or in the slots that are left, is in the set before or in the mask
pub record GroupsLeft (slots : List ℕ) (mask : ℕ) (before groups : List ℕ) (left : ℕ) : Type 0 where
  pub long : length groups ≡ 4
  pub members : (g : ℕ) → g < book_holders → (member groups g || in_mask slots left g) ≡ (member before g || in_mask slots mask g)

pub groups-start : (slots : List ℕ) (mask : ℕ) (before : List ℕ) → length before ≡ 4 → GroupsLeft slots mask before before mask
groups-start slots mask before long = record { long = long; members = λ g l. refl }

pub groups-step : {slots : List ℕ} {mask : ℕ} {before groups : List ℕ} {left : ℕ} → GroupsLeft slots mask before groups left → (rest q : ℕ) → bit left q ≡ true
    → ((j : ℕ) → bit rest j ≡ (bit left j && not (eqb j q))) → q < 64 → {after : List ℕ} → AddsGroup (get_or slots q 0) groups after → GroupsLeft slots mask before after rest
unfolding in_mask
groups-step {slots} {mask} {before} {groups} {left} so_far rest q on without l {after} added = record {
  long = added.long;
  members = λ g m.
      ap (λ (b : Bool). b || in_mask slots rest g) (added.members g m) ∙ or_assoc (member groups g) (eqb (get_or slots q 0) g) (in_mask slots rest g)
      ∙ ap (λ (b : Bool). member groups g || b) (sym (any_left left rest q on without 64 (λ j. eqb (get_or slots j 0) g) l))
      ∙ so_far.members g m;
}

pub groups-end : {slots : List ℕ} {mask : ℕ} {before groups : List ℕ} {left : ℕ} → GroupsLeft slots mask before groups left → left ≡ 0 → AddsGroups slots mask before groups
unfolding in_mask
groups-end {slots} {mask} {before} {groups} {left} so_far none = record {
  long = so_far.long;
  members = λ g m.
      sym (or-false (member groups g)) ∙ ap (λ (b : Bool). member groups g || b) (sym (none_left left 64 (λ j. eqb (get_or slots j 0) g) none))
      ∙ so_far.members g m;
}

-- ---- the lines of a set's members

module _ (s : List ℕ) (line : ℕ → Bytes) where
  among-lacks : (k : ℕ) → member s k ≡ false → member_text s line k ≡ []
  unfolding member_text
  among-lacks k e = ap (λ (t : Bool). if t then line k otherwise []) e

  among_there : (k : ℕ) → member s k ≡ true → line k ≡ member_text s line k
  unfolding member_text
  among_there k e = ap (λ (t : Bool). if t then line k otherwise []) (sym e)

  -- the lines of the members below k are laid, each of `most` bytes at most, and k is the next member, or no number below n
  pub record WalkLaid (most n : ℕ) (before : Bytes) (at : ℕ) (out : Bytes) (m k : ℕ) : Type 0 where
    pub next : k < n → member s k ≡ true
    pub so_far : EachLaid (member_text s line) most before at out m (min k n)

-- the next member is no earlier
pub walk-less : {s : List ℕ} {n i r : ℕ} → length s ≡ 4 → n ≤ 256 → i ≤ n → FirstFrom s i r → i ≤ r
walk-less {n = n} {i} {r} long few l f = go (dec_lt r 256)
  where
    go : Dec (r < 256) → i ≤ r
    go (yes m) = (f.held (omega arith)).0
    go (no m) = omega arith

module _ {s : List ℕ} {line : ℕ → Bytes} {most n : ℕ} (long : length s ≡ 4) (few : n ≤ 256) where
  -- the texts between have no bytes
  walk-on : {before : Bytes} {at : ℕ} {out : Bytes} {m i r : ℕ} → i ≤ n → FirstFrom s i r → EachLaid (member_text s line) most before at out m i → WalkLaid s line most n before at out m r
  walk-on {i = i} {r} l f so_far =
      let from = walk-less long few l f in
      let grows : most * i ≤ most * min r n = mul-le-mul_left most (let z : i ≤ min r n = omega arith in z) in
      record {
        next = λ g. (f.held (omega arith)).1;
        so_far = record {
          laid = laid_as (each_none (member_text s line) i (min r n) (omega arith) (λ k a b. among-lacks s line k (f.lower k a (omega arith)))) so_far.laid;
          room = omega (arith, so_far.room, grows);
        };
      }

  pub walk_start : (before : Bytes) (at : ℕ) {r : ℕ} → FirstFrom s 0 r → WalkLaid s line most n before at before at r
  walk_start before at f = walk-on (omega arith) f (each_start before at)

  pub walk-next : {before : Bytes} {at : ℕ} {out : Bytes} {m k : ℕ} → WalkLaid s line most n before at out m k → k < n → {after : Bytes} {r : ℕ}
      → Laid out m (line k) after r × (r ≤ m + most) → {j : ℕ} → FirstFrom s (k + 1) j → WalkLaid s line most n before at after r j
  walk-next {before} {at} {out} {m} {k} w l (p, room) f =
      let e : min k n ≡ k = omega arith in
      walk-on (omega arith) f (each_next (subst (λ (i : ℕ). EachLaid (member_text s line) most before at out m i) e w.so_far) (laid_as (among_there s line k (w.next l)) p, room))

  pub walk_end : {before : Bytes} {at : ℕ} {out : Bytes} {m k : ℕ} → WalkLaid s line most n before at out m k → n ≤ k
      → Laid before at (each (member_text s line) (below n)) out m × (m ≤ at + most * n)
  walk_end {k = k} w l = let e : min k n ≡ n = omega arith in each-end w.so_far e (refl, omega arith)

-- four words of 0 hold no number
abbrev pub no_groups : List ℕ
no_groups = 0 ∷ 0 ∷ 0 ∷ 0 ∷ []

pub none_in : (g : ℕ) → member no_groups g ≡ false
unfolding member
none_in g = ap (λ (w : ℕ). bit w (g % 64)) (word (g / 64)) ∙ bit-none (g % 64)
  where
    word : (k : ℕ) → get_or no_groups k 0 ≡ 0
    word zero = refl
    word (suc zero) = refl
    word (suc (suc zero)) = refl
    word (suc (suc (suc zero))) = refl
    word (suc (suc (suc (suc k)))) = refl

-- a set that was empty, with the groups of a holder's mask: its lines are those of the holder's ties
pub ups-among : (groups before book : List ℕ) (n key h : ℕ) {mask : ℕ} → n ≤ 256 → ((g : ℕ) → member before g ≡ false) → mask ≡ get_or book ((section.ups).start + h) 0
    → AddsGroups (section_words section.slots book) mask before groups → each (member_text groups (up_line_text book key h)) (below n) ≡ ups_text book n key h
unfolding member_text up_text
ups-among groups before book n key h {mask} few empty same added =
    each_same (member_text groups (up_line_text book key h)) (up_text book key h) n
    (λ g l. ap (λ (t : Bool). if t then up_line_text book key h g otherwise [])
    (added.members g (omega arith) ∙ ap (λ (b : Bool). b || in_mask (section_words section.slots book) mask g) (empty g) ∙ ap (λ (m : ℕ). in_mask (section_words section.slots book) m g) same))

-- ---- values

-- the words that are lent for a walk over a holder's pairs are its own
module _ (book : List ℕ) (h : ℕ) where
  abbrev start : ℕ
  start = (section.own).start + 4 * h

  pub lent-own : take (start + 4 - start) (drop start book) ≡ own_of book h
  lent-own = let z : start + 4 - start ≡ 4 = omega arith in ap (λ (k : ℕ). take k (drop start book)) z

  pub lent-long : length book ≡ book_words → h < 256 → length (take (start + 4 - start) (drop start book)) ≡ 4
  lent-long l m = ap length lent-own ∙ length-take-le 4 (drop start book) (omega (arith, length-drop start book))
