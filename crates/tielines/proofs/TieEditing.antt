-- What is written for a tie more or less, where its numbers and the group's slot are within their sections. Assumes nothing.
use Rattle.std.proofs.Common.{◌≡◌, refl, sym, ap, subst, ◌∙◌, ℕ, ◌*◌, ◌+◌, ◌≤◌, ◌<◌, Bool, true, false, List, ◌⊎◌, inl, inr, Some, None, length, get_or, drop, arith}
use lib.Seq.{get_or-take, get_or-drop}
use borrow.Rule.Slice.PartMut.{put_mid}
use Rattle.model.specs.Limits.{pair_limit, group_limit}
use Rattle.model.specs.Bytes.{Bytes}
use Rattle.model.specs.Ties as specified
use Rattle.model.specs.Ties.{Ties}
use Rattle.model.specs.State.{State}
use Rattle.model.specs.Refusals.{tie_closes}
use Rattle.model.specs.Standing.{Standing, TieFits}
use Rattle.bits.specs.Bits.{bit, member}
use Rattle.bits.proofs.Sets.{holds-member}
use Rattle.ties.specs.TieArrays.{in_use, tied_up}
use Rattle.ties.specs.TieEdits as ties
use Rattle.ties.specs.TieEdits.{LeadsUp}
use Rattle.book.specs.Sections as section
use Rattle.book.specs.Sections.{Section, section_words, book_words, book_holders}
use Rattle.book.specs.Held.{Holds}
use Rattle.tielines.specs.declared.Tie.{Tie}
use Rattle.tielines.specs.declared.Tie.TheVariants as tie
use Rattle.tielines.specs.TieReading.{tie_of}
use Rattle.tielines.specs.TieSteps.{SlotFound, UpChanged, ValueChanged, UpStands, ValueStands}
use Rattle.book.proofs.Sections.{part-size}
use Rattle.tielines.proofs.TieSections.{unedited, ups-edited, own-edited}
use Rattle.tielines.proofs.TieFitting.{up_fits, value-fits, slot-bit, stands_up}

-- ---- the tie of a kind

pub leads_up : {t : Tie} {h g : ℕ} → (t ≡ tie.Parent h g) ⊎ (t ≡ tie.Member h g) → LeadsUp (tie_of t) h g
leads_up (inl e) = inl (ap tie_of e)
leads_up (inr e) = inr (ap tie_of e)

pub no-circle : (t : Tie) → ((h g : ℕ) → t ≡ tie.Parent h g → ⊥) → (hs : List ℕ) (T : Ties) → false ≡ tie_closes hs T (tie_of t)
no-circle (tie.Parent h g) other hs T = absurd (other h g refl)
no-circle (tie.Member h g) other hs T = refl
no-circle (tie.Value h p) other hs T = refl

-- a word of a section
pub word_at : (s : Section) (book : List ℕ) (i : ℕ) → i < s.size → get_or (section_words s book) i 0 ≡ get_or book (s.start + i) 0
word_at s book i l = get_or-take s.size (drop s.start book) i 0 l ∙ get_or-drop s.start book i 0

-- ---- a tie up

module _ (book : List ℕ) (long : length book ≡ book_words) (h g : ℕ) where
  module _ (q : ℕ) (found : SlotFound book g (Some q)) (low : q < group_limit) where
    in-use-here : (S : State) (code : Bytes) → Standing S → Holds book code S → (t : specified.Tie) → LeadsUp t h g → TieFits S.declared t
        → (in_use book_holders (section_words section.slots book) q ≡ true) × (get_or (section_words section.slots book) q 0 ≡ g)
    in-use-here S code standing held t leads f =
        let u = up_fits standing held t h g leads f in
        let s = found S code standing held u.sort u.sort-is u.group in
        let same : s.0 ≡ q = cc s.1 in
        subst (λ (p : ℕ). (in_use book_holders (section_words section.slots book) p ≡ true) × (get_or (section_words section.slots book) p 0 ≡ g)) same (s.2, s.3)

    alive : in_use book_holders (section_words section.slots book) q ≡ true → in_use (length (section_words section.ups book)) (section_words section.slots book) q ≡ true
    alive live = ap (λ (n : ℕ). in_use n (section_words section.slots book) q) (part-size section.ups book long (omega arith)) ∙ live

    pub up-stands : (r : Bool) → h < book_holders → r ≡ bit (get_or book ((section.ups).start + h) 0) q → UpStands h g book r
    unfolding tied_up
    up-stands r few e t leads S code standing held f =
        let u = in-use-here S code standing held t leads f in
        e ∙ ap (λ (w : ℕ). bit w q) (sym (word_at section.ups book h few)) ∙ slot-bit standing held h g q few low u.0 u.1 ∙ stands_up standing held t h g leads f

    module _ (ys : List ℕ) (size : length ys ≡ (section.ups).size) where
      pub up-changed : (plus : Bool) → ties.MaskChanged (section_words section.ups book) h q plus ys
          → UpChanged h g plus book (put_mid (section.ups).start (section.ups).size book ys)
      up-changed plus made t leads = ups-edited book ys long t plus size (λ S code standing held f on.
          let u = in-use-here S code standing held t leads f in
          made.keeps (section_words section.own book) (section_words section.slots book) S.declared S.ties t standing held.ties (alive u.0) on
          (subst (LeadsUp t h) (sym u.1) leads))

  -- no tie leads up where there is no slot, nor from a number that no holder has
  pub no_slot : SlotFound book g None → (t : specified.Tie) → LeadsUp t h g → (S : State) (code : Bytes) → Standing S → Holds book code S → TieFits S.declared t → ⊥
  no_slot none_found t leads S code standing held f =
      let u = up_fits standing held t h g leads f in
      let s = none_found S code standing held u.sort u.sort-is u.group in
      cc s.1

  pub no_lower : book_holders ≤ h → (t : specified.Tie) → LeadsUp t h g → (S : State) (code : Bytes) → Standing S → Holds book code S → TieFits S.declared t → ⊥
  no_lower far t leads S code standing held f = omega (arith, (up_fits standing held t h g leads f).few)

  pub up_unchanged : {plus : Bool} → ((t : specified.Tie) → LeadsUp t h g → (S : State) (code : Bytes) → Standing S → Holds book code S → TieFits S.declared t → ⊥) → UpChanged h g plus book book
  up_unchanged never t leads = unedited book long (never t leads)

-- ---- a pair

module _ (book : List ℕ) (long : length book ≡ book_words) (h p : ℕ) where
  pub value-stands : (r : Bool) → h < book_holders → p < pair_limit → r ≡ member (section_words section.own book) (pair_limit * h + p) → ValueStands h p book r
  value-stands r few low e S code standing held f =
      let long = part-size section.ups book held.long (omega arith) in
      e ∙ holds-member (section_words section.own book) h p low ∙ held.ties.pairs h p (omega arith) low

  module _ (ys : List ℕ) (size : length ys ≡ (section.own).size) where
    pub value-changed : (plus : Bool) → ties.OwnChanged (section_words section.own book) h p plus ys
        → ValueChanged h p plus book (put_mid (section.own).start (section.own).size book ys)
    value-changed plus made =
        own-edited book ys long (specified.Tie.value h p) plus size
        (λ S code standing held f on. made.keeps (section_words section.ups book) (section_words section.slots book) S.ties held.ties)

  -- no holder or no pair has the number
  pub no_value : ((h < book_holders) × (pair_limit ≤ p)) ⊎ (book_holders ≤ h) → h < book_holders → p < pair_limit → ⊥
  no_value (inl far) l m = omega arith
  no_value (inr far) l m = omega arith

  pub value-unchanged : {plus : Bool} → (h < book_holders → p < pair_limit → ⊥) → ValueChanged h p plus book book
  value-unchanged far = unedited book long (λ S code standing held fits. let f = value-fits standing held h p fits in far f.0 f.1)
