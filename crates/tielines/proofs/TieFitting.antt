-- A tie that fits the declarations has numbers within their sections, and leads up to a group that has a slot. Assumes nothing.
use Prim.Native.Nat.{ℕ, zero, suc, ◌<◌}
use mathlib.Core.Path.{◌≡◌, sym, ap, subst, ◌∙◌}
use mathlib.Core.Logic.{inl, inr}
use mathlib.Core.Bool.{Bool, true, ◌||◌, or-false, true≢false}
use mathlib.Core.List.{List}
use mathlib.Core.Option.{some, some-injective}
use native.Mathlib.Omega.{arith}
use lib.ListN.{length, get_or}
use borrow.Author.Tests.{lt-ltb}
use Rattle.model.specs.Limits.{pair_limit, group_limit}
use Rattle.model.specs.Bytes.{Bytes}
use Rattle.model.specs.Declarations.{Sort, sort_of, is_group, parent_sort, group_sort}
use Rattle.model.specs.Ties.{Tie, up}
use Rattle.model.specs.State.{State}
use Rattle.model.specs.Standing.{TieFits, Standing}
use Rattle.model.proofs.WordTables.{none-is-some}
use Rattle.model.proofs.Options.{both}
use Rattle.model.proofs.Lists.{nth-lt, same_truth}
use Rattle.ties.specs.TieArrays.{in_use, tied_up, Distinct}
use Rattle.ties.specs.TieEdits.{LeadsUp}
use Rattle.ties.proofs.Keeps.{up-slot, slot-up}
use Rattle.ties.proofs.Editing.{off-by, one-kind}
use Rattle.book.specs.Sections as section
use Rattle.book.specs.Sections.{section_words, book_holders}
use Rattle.book.specs.Held.{Holds}
use Rattle.book.proofs.HeldNumbers.{sorted-in-book}
use Rattle.book.proofs.Sections.{part-size}

parent-group : (s u : Sort) → parent_sort s ≡ some u → is_group u ≡ true
parent-group Sort.admin u e = none-is-some e
parent-group Sort.ugroup u e = ap is_group (sym (some-injective _ _ e))
parent-group Sort.ogroup u e = ap is_group (sym (some-injective _ _ e))
parent-group Sort.user u e = none-is-some e
parent-group Sort.object u e = none-is-some e

member-group : (s u : Sort) → group_sort s ≡ some u → is_group u ≡ true
member-group Sort.admin u e = none-is-some e
member-group Sort.ugroup u e = none-is-some e
member-group Sort.ogroup u e = none-is-some e
member-group Sort.user u e = ap is_group (sym (some-injective _ _ e))
member-group Sort.object u e = ap is_group (sym (some-injective _ _ e))

module _ {S : State} {book : List ℕ} {code : Bytes} (standing : Standing S) (held : Holds book code S) where
  -- the numbers of a tie up, and that its upper one is a group's
  pub record UpFits (h g : ℕ) : Type 0 where
    pub few : h < book_holders
    pub sort : Sort
    pub sort-is : sort_of S.declared g ≡ some sort
    pub group : is_group sort ≡ true

  pub up_fits : (t : Tie) (h g : ℕ) → LeadsUp t h g → TieFits S.declared t → UpFits h g
  up_fits t h g (inl e) f =
      let s = subst (TieFits S.declared) e f in
      record { few = sorted-in-book standing held h s.lower-is; sort = s.upper-sort; sort-is = s.upper_is; group = parent-group s.lower-sort s.upper-sort s.one-above }
  up_fits t h g (inr e) f =
      let s = subst (TieFits S.declared) e f in
      record { few = sorted-in-book standing held h s.lower-is; sort = s.upper-sort; sort-is = s.upper_is; group = member-group s.lower-sort s.upper-sort s.one-above }

  pub value-fits : (h p : ℕ) → TieFits S.declared (Tie.value h p) → (h < book_holders) × (p < pair_limit)
  value-fits h p f = (sorted-in-book standing held h f.sort-is, omega (arith, nth-lt S.declared.pairs p f.pair_is, standing.declarations.pairs.few))

  -- admin is no group
  group-no-admin : (g : ℕ) (s : Sort) → sort_of S.declared g ≡ some s → is_group s ≡ true → 0 < g
  unfolding sort_of
  group-no-admin zero s e i =
      let first : sort_of S.declared 0 ≡ some Sort.admin = rw standing.declarations.holders.admin-first in
      absurd (true≢false (sym i ∙ ap is_group (some-injective _ _ (sym e ∙ first))))
  group-no-admin (suc g) s e i = omega arith

  -- the slot of a group, by its word
  pub group-slot : (g : ℕ) (s : Sort) → sort_of S.declared g ≡ some s → is_group s ≡ true
      → (q : ℕ) × (get_or (section_words section.slot_of book) g 0 ≡ suc q) × (q < group_limit) × (in_use book_holders (section_words section.slots book) q ≡ true)
      × (get_or (section_words section.slots book) q 0 ≡ g)
  unfolding in_use
  group-slot g s e i =
      let r = held.groups.in-slot g s e i in
      let low = group-no-admin g s e i in
      let few = sorted-in-book standing held g e in
      let slot = get_or (section_words section.slots book) r.0 0 in (
        r.0,
        r.1,
        omega (arith, r.2, standing.declarations.holders.few-groups),
        both (lt-ltb 0 slot (omega (arith, r.3))) (lt-ltb slot book_holders (omega (arith, r.3))),
        r.3,
      )

  -- a tie up to the group of slot q is bit q of the holder's word
  pub slot-bit : (h g q : ℕ) → h < book_holders → q < group_limit → in_use book_holders (section_words section.slots book) q ≡ true → get_or (section_words section.slots book) q 0 ≡ g
      → tied_up (section_words section.ups book) h q ≡ up S.ties h g
  unfolding Distinct
  slot-bit h g q few low live is =
      let long = part-size section.ups book held.long (omega arith) in
      let within : h < length (section_words section.ups book) = omega arith in
      same_truth (tied_up (section_words section.ups book) h q) (up S.ties h g)
      (λ on. ap (up S.ties h) (sym is) ∙ slot-up held.ties h q within low on)
      (λ on.
      let r = up-slot held.ties h g within on in
      let alive : in_use (length (section_words section.ups book)) (section_words section.slots book) q ≡ true = ap (λ (n : ℕ). in_use n (section_words section.slots book) q) long ∙ live in
      let same : r.0 ≡ q = held.ties.distinct q r.0 low r.1 alive (r.3 ∙ sym is) in
      ap (tied_up (section_words section.ups book) h) (sym same) ∙ r.2)

  -- a tie up that fits stands where some tie leads up so: the other kind does not fit
  pub stands_up : (t : Tie) (h g : ℕ) → LeadsUp t h g → TieFits S.declared t → up S.ties h g ≡ S.ties t
  stands_up t h g (inl e) f =
      ap (λ (b : Bool). S.ties (Tie.parent h g) || b)
      (off-by (S.ties (Tie.member h g)) (λ on. one-kind S.declared h g (subst (TieFits S.declared) e f) (standing.ties-fit (Tie.member h g) on)))
      ∙ or-false (S.ties (Tie.parent h g)) ∙ ap S.ties (sym e)
  stands_up t h g (inr e) f =
      ap (λ (b : Bool). b || S.ties (Tie.member h g))
      (off-by (S.ties (Tie.parent h g)) (λ on. one-kind S.declared h g (standing.ties-fit (Tie.parent h g) on) (subst (TieFits S.declared) e f)))
      ∙ ap S.ties (sym e)
