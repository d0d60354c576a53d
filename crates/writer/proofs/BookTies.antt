-- The text of a book's ties is that of the ties of its state. Assumes nothing.
use Prim.Native.Nat.{ℕ, suc, ◌+◌, ◌*◌, ◌/◌, ◌%◌, ◌≤◌, ◌<◌}
use mathlib.Core.Path.{◌≡◌, refl, sym, ap, ap₂, subst, ◌∙◌}
use mathlib.Core.Bool.{Bool, true, false, ◌||◌, true≢false}
use mathlib.Core.List.{List, [], ◌++◌, append-nil, append_assoc}
use mathlib.Core.Option.{Option, some, some-injective}
use native.Mathlib.Omega.{arith}
use lib.ListN.{length, get_or, drop}
use lib.Seq.{get_or-take, get_or-drop}
use Rattle.model.specs.Notation.{if◌then◌otherwise◌, ◌>>=◌, map, each, filter, nth, listed, below}
use Rattle.model.specs.Limits.{pair_limit}
use Rattle.model.specs.Bytes.{Bytes, bytes}
use Rattle.model.specs.Atoms.{write_atom}
use Rattle.model.specs.Declarations.{Holder, Pair, Sort, holder_of, sort_of, holder_numbers_of, is_group, parent_sort, group_sort}
use Rattle.model.specs.Lines.{Line, parent as parent_line, member as member_line, value as value_line}
use Rattle.model.specs.Ties.{Tie, up}
use Rattle.model.specs.State.{State}
use Rattle.model.specs.Standing.{Standing}
use Rattle.model.specs.FileText.{ties_with, ties_in_order, tie_line, tie_lines, line_text}
use Rattle.model.proofs.WordTables.{none-is-some}
use Rattle.model.proofs.Lists.{nth-lt, lt-nth, each_append, each-each}
use Rattle.model.proofs.Standing.{pairs-fit}
use Rattle.bits.specs.Bits.{bit, member, holds}
use Rattle.ties.specs.TieArrays.{tied_up}
use Rattle.book.specs.Sections as section
use Rattle.book.specs.Sections.{section_words}
use Rattle.book.specs.Held.{Holds}
use Rattle.book.proofs.HeldNumbers.{sorted-in-book}
use Rattle.book.proofs.Sections.{part-size}
use Rattle.output.specs.Laid.{word_text}
use Rattle.writer.specs.Texts.{member_text, in_mask, has_up, up_line_text, up_text, key_of_ups, holder_ups_text, own_of, value_line_text, values_text, ties_text}
use Rattle.spelling.specs.LineTexts.{key_words, listed_text, name_text, row_of_pair, pair_atom_text, line_end}
use Rattle.writer.proofs.TieTexts.{member-key, parent-key, ups-of-key, ups-of-other}
use Rattle.spelling.proofs.Listing.{each-ext, each_map, each-filter, each_none, each_same}
use Rattle.spelling.proofs.SectionWords.{section-word, word_at}
use Rattle.spelling.proofs.BookHolders.{holder-there, holder-numbers, holder-count, holder_name}

-- ---- sorts

parent-group : (a : Sort) {b : Sort} → parent_sort a ≡ some b → is_group a ≡ true
parent-group Sort.admin e = none-is-some e
parent-group Sort.ugroup e = refl
parent-group Sort.ogroup e = refl
parent-group Sort.user e = none-is-some e
parent-group Sort.object e = none-is-some e

member-other : (a : Sort) {b : Sort} → group_sort a ≡ some b → is_group a ≡ false
member-other Sort.admin e = none-is-some e
member-other Sort.ugroup e = none-is-some e
member-other Sort.ogroup e = none-is-some e
member-other Sort.user e = refl
member-other Sort.object e = refl

-- a test that cannot hold
off : (b : Bool) → (b ≡ true → ⊥) → b ≡ false
off true h = absurd (h refl)
off false h = refl

or_off : (a b : Bool) → b ≡ false → (a || b) ≡ a
or_off true b e = refl
or_off false b e = e

module _ {book : List ℕ} {rules : Bytes} {S : State} (standing : Standing S) (held : Holds book rules S) where
  abbrev count : ℕ
  count = length S.declared.holders

  abbrev ups : List ℕ
  ups = section_words section.ups book

  abbrev slots : List ℕ
  slots = section_words section.slots book

  sort-of : (k : ℕ) (h : Holder) → holder_of S.declared k ≡ some h → sort_of S.declared k ≡ some h.sort
  unfolding sort_of
  sort-of k h e = ap (λ (o : Option Holder). o >>= λ h. some h.sort) e

  ups-long : length (section_words section.ups book) ≡ 256
  ups-long = part-size section.ups book held.long (omega arith)

  -- ---- the slots of groups

  group-slot : (g : ℕ) (s : Sort) → sort_of S.declared g ≡ some s → is_group s ≡ true
      → (q : ℕ) × (get_or book ((section.slot_of).start + g) 0 ≡ suc q) × (q < 64) × (get_or slots q 0 ≡ g)
  group-slot g s e f =
      let (q, a, b, c) = held.groups.in-slot g s e f in
      (q, word_at section.slot_of book a (sorted-in-book standing held g e) refl, omega (arith, b, standing.declarations.holders.few-groups), c)

  other-slot : (g : ℕ) (s : Sort) → sort_of S.declared g ≡ some s → is_group s ≡ false → get_or book ((section.slot_of).start + g) 0 ≡ 0
  other-slot g s e f =
      let l = sorted-in-book standing held g e in
      word_at section.slot_of book (held.groups.no_slot g l (λ t d. ap is_group (some-injective t s (sym d ∙ e)) ∙ f)) l refl

  -- ---- ties up

  -- a tie up is a slot of the group in the holder's mask
  up_is : (h g : ℕ) → h < 256 → g < count → has_up book h g ≡ up S.ties h g
  unfolding in_mask tied_up
  up_is h g l m =
      ap (λ (m : ℕ). in_mask (section_words section.slots book) m g) (sym (section-word section.ups book h l))
      ∙ sym (held.ties.groups h g (subst (λ (n : ℕ). h < n) (sym ups-long) l))

  -- a group has no member tie, another holder no parent tie
  no_member : (h : ℕ) (s : Sort) → sort_of S.declared h ≡ some s → is_group s ≡ true → (g : ℕ) → S.ties (Tie.member h g) ≡ false
  no_member h s e f g = off (S.ties (Tie.member h g)) λ on.
      let t = standing.ties-fit (Tie.member h g) on in
      true≢false (sym f ∙ ap is_group (some-injective s t.lower-sort (sym e ∙ t.lower-is)) ∙ member-other t.lower-sort t.one-above)

  no-parent : (h : ℕ) (s : Sort) → sort_of S.declared h ≡ some s → is_group s ≡ false → (g : ℕ) → S.ties (Tie.parent h g) ≡ false
  no-parent h s e f g = off (S.ties (Tie.parent h g)) λ on.
      let t = standing.ties-fit (Tie.parent h g) on in
      true≢false (sym (parent-group t.lower-sort t.one-above) ∙ ap is_group (some-injective t.lower-sort s (sym t.lower-is ∙ e)) ∙ f)

  -- ---- the text of a tie

  -- the line of a tie, if it stands
  abbrev tie_text : Tie → Bytes
  tie_text t = if S.ties t then each line_text (listed (tie_line S.declared t)) otherwise []

  -- the line of a tie up, from the word of its key
  up-line : (key : ℕ) (line : Bytes → Bytes → Line) → ((x y : Bytes) → listed_text key_words key ++ (x ++ (bytes "," ++ (y ++ line_end))) ≡ line_text (line x y)) → (h g : ℕ) → h < count → g < count
      → up_line_text book key h g ≡ each line_text (listed (holder_of S.declared h >>= λ c. holder_of S.declared g >>= λ d. some (line c.name d.name)))
  up-line key line spells h g l m =
      let (a, e) = holder-there standing held h l in
      let (b, f) = holder-there standing held g m in
      ap₂ (λ (x y : Bytes). listed_text key_words key ++ (x ++ (bytes "," ++ (y ++ line_end)))) (holder_name standing held h a e) (holder_name standing held g b f)
      ∙ spells a.name b.name
      ∙ sym (append-nil (line_text (line a.name b.name)))
      ∙ ap₂ (λ (o p : Option Holder). each line_text (listed (o >>= λ c. p >>= λ d. some (line c.name d.name)))) (sym e) (sym f)

  parent-line : (h g : ℕ) → h < count → g < count → up_line_text book 8 h g ≡ each line_text (listed (tie_line S.declared (Tie.parent h g)))
  unfolding listed_text word_text
  parent-line = up-line 8 parent_line (λ x y. simp append_assoc)

  member-line : (h g : ℕ) → h < count → g < count → up_line_text book 9 h g ≡ each line_text (listed (tie_line S.declared (Tie.member h g)))
  unfolding listed_text word_text
  member-line = up-line 9 member_line (λ x y. simp append_assoc)

  -- ---- the ties of a holder up, of one key

  ups-text : (key : ℕ) (tie : ℕ → ℕ → Tie) (h : ℕ) → key_of_ups book h ≡ key → ((g : ℕ) → g < count → has_up book h g ≡ S.ties (tie h g))
      → ((g : ℕ) → g < count → up_line_text book key h g ≡ each line_text (listed (tie_line S.declared (tie h g))))
      → holder_ups_text book count key h ≡ each (λ g. tie_text (tie h g)) (below count)
  unfolding up_text
  ups-text key tie h k on line =
      sym (ups-of-key book h count key k)
      ∙ each_same (up_text book key h) (λ g. tie_text (tie h g)) count (λ g l. ap₂ (λ (t : Bool) (x : Bytes). if t then x otherwise []) (on g l) (line g l))

  no-ups-text : (key : ℕ) (tie : ℕ → ℕ → Tie) (h : ℕ) → (key_of_ups book h ≡ key → ⊥) → ((g : ℕ) → S.ties (tie h g) ≡ false)
      → holder_ups_text book count key h ≡ each (λ g. tie_text (tie h g)) (below count)
  no-ups-text key tie h k no_tie =
      sym (ups-of-other book h count key k)
      ∙ each_none (λ g. tie_text (tie h g)) 0 count (omega arith)
      (λ g a b. ap (λ (t : Bool). if t then each line_text (listed (tie_line S.declared (tie h g))) otherwise []) (no_tie g))

  group-key : (h : ℕ) (s : Sort) → sort_of S.declared h ≡ some s → is_group s ≡ true → key_of_ups book h ≡ 8
  group-key h s e f = let (q, a, b, c) = group-slot h s e f in sym (parent-key book h (λ z. omega arith))

  other_key_lem : (h : ℕ) (s : Sort) → sort_of S.declared h ≡ some s → is_group s ≡ false → key_of_ups book h ≡ 9
  other_key_lem h s e f = sym (member-key book h (other-slot h s e f))

  -- a holder is a group or not
  by-sort : {P : Type 0} (h : ℕ) → h < count → ((s : Sort) → sort_of S.declared h ≡ some s → is_group s ≡ true → P)
      → ((s : Sort) → sort_of S.declared h ≡ some s → is_group s ≡ false → P) → P
  by-sort {P} h l group other = let (a, e) = holder-there standing held h l in go a.sort (sort-of h a e) (is_group a.sort) refl
    where
      go : (s : Sort) → sort_of S.declared h ≡ some s → (t : Bool) → is_group s ≡ t → P
      go s e true f = group s e f
      go s e false f = other s e f

  -- those of the key `parent`, and of the key `member`
  parents-of : (h : ℕ) → h < count → holder_ups_text book count 8 h ≡ each (λ g. tie_text (Tie.parent h g)) (below count)
  parents-of h l =
      by-sort h l
      (λ s e f. ups-text 8 Tie.parent h (group-key h s e f)
      (λ g m. up_is h g (sorted-in-book standing held h e) m ∙ or_off (S.ties (Tie.parent h g)) (S.ties (Tie.member h g)) (no_member h s e f g))
      (λ g m. parent-line h g l m))
      (λ s e f. no-ups-text 8 Tie.parent h (λ z. let y = other_key_lem h s e f in omega arith) (no-parent h s e f))

  members-of : (h : ℕ) → h < count → holder_ups_text book count 9 h ≡ each (λ g. tie_text (Tie.member h g)) (below count)
  members-of h l =
      by-sort h l (λ s e f. no-ups-text 9 Tie.member h (λ z. let y = group-key h s e f in omega arith) (no_member h s e f))
      (λ s e f. ups-text 9 Tie.member h (other_key_lem h s e f)
      (λ g m. up_is h g (sorted-in-book standing held h e) m ∙ ap (λ (t : Bool). t || S.ties (Tie.member h g)) (no-parent h s e f g))
      (λ g m. member-line h g l m))

  -- ---- the values of a holder

  -- its own words tell its values
  own_is : (h p : ℕ) → h < 256 → p < 256 → member (own_of book h) p ≡ S.ties (Tie.value h p)
  unfolding member holds
  own_is h p l m =
      let first : get_or (own_of book h) (p / 64) 0 ≡ get_or book ((section.own).start + 4 * h + p / 64) 0 =
      get_or-take 4 (drop ((section.own).start + 4 * h) book) (p / 64) 0 (omega arith) ∙ get_or-drop ((section.own).start + 4 * h) book (p / 64) 0 in
      let same : get_or (section_words section.own book) (4 * h + p / 64) 0 ≡ get_or book ((section.own).start + 4 * h + p / 64) 0 =
      section-word section.own book (4 * h + p / 64) (omega arith)
      ∙ ap (λ (i : ℕ). get_or book i 0) (let z : (section.own).start + (4 * h + p / 64) ≡ (section.own).start + 4 * h + p / 64 = omega arith in z) in
      ap (λ (w : ℕ). bit w (p % 64)) (first ∙ sym same) ∙ held.ties.pairs h p (subst (λ (n : ℕ). h < n) (sym ups-long) l) m

  -- ---- the whole

  -- the texts of the ties of one key, holder by holder
  with-text : (tie : ℕ → ℕ → Tie) (lower upper : List ℕ) → each (λ h. each (λ g. tie_text (tie h g)) upper) lower ≡ each tie_text (ties_with tie lower upper)
  with-text tie lower upper =
      sym (each-each tie_text (λ h. map (tie h) upper) lower
      ∙ each-ext (λ h. each tie_text (map (tie h) upper)) (λ h. each (λ g. tie_text (tie h g)) upper) lower (λ h. each_map tie_text (tie h) upper))

  abbrev hs : List ℕ
  hs = holder_numbers_of S.declared

  abbrev ps : List ℕ
  ps = below (length S.declared.pairs)

  -- the text of the ties that stand, key by key
  lines-text : each tie_text (ties_with Tie.parent (below count) (below count))
      ++ (each tie_text (ties_with Tie.member (below count) (below count)) ++ each tie_text (ties_with Tie.value (below count) (below (length S.declared.pairs))))
      ≡ each line_text (tie_lines S)
  lines-text =
      ap (λ (hs : List ℕ). each tie_text (ties_with Tie.parent hs hs)
      ++ (each tie_text (ties_with Tie.member hs hs) ++ each tie_text (ties_with Tie.value hs (below (length S.declared.pairs)))))
      (sym (holder-numbers standing held))
      ∙ sym (each_append tie_text (ties_with Tie.parent hs hs) (ties_with Tie.member hs hs ++ ties_with Tie.value hs ps)
      ∙ ap (λ (l : Bytes). each tie_text (ties_with Tie.parent hs hs) ++ l) (each_append tie_text (ties_with Tie.member hs hs) (ties_with Tie.value hs ps)))
      ∙ sym (each-each line_text (λ t. listed (tie_line S.declared t)) (filter S.ties (ties_in_order S.declared))
      ∙ each-filter (λ t. each line_text (listed (tie_line S.declared t))) S.ties (ties_in_order S.declared))

  module _ (pair-name : (p : ℕ) (q : Pair) → nth S.declared.pairs p ≡ some q → name_text book (row_of_pair book p + 2) ≡ q.name)
      (pair-atom : (p : ℕ) (q : Pair) → nth S.declared.pairs p ≡ some q → pair_atom_text book p ≡ write_atom q.atom) where
    value-line : (h p : ℕ) → h < count → p < length S.declared.pairs
        → value_line_text book h p ≡ each line_text (listed (tie_line S.declared (Tie.value h p)))
    unfolding value_line_text listed_text word_text
    value-line h p l m =
        let (a, e) = holder-there standing held h l in
        let (q, f) = lt-nth S.declared.pairs p m in
        ap₂ (λ (x y : Bytes). bytes "value=" ++ (x ++ (bytes "," ++ (y ++ (bytes "," ++ (pair_atom_text book p ++ line_end))))))
        (holder_name standing held h a e) (pair-name p q f)
        ∙ ap (λ (z : Bytes). bytes "value=" ++ (a.name ++ (bytes "," ++ (q.name ++ (bytes "," ++ (z ++ line_end)))))) (pair-atom p q f)
        ∙ (simp append_assoc)
        ∙ sym (append-nil (line_text (value_line a.name q.name q.atom)))
        ∙ ap₂ (λ (o : Option Holder) (u : Option Pair). each line_text (listed (o >>= λ k. u >>= λ q. some (value_line k.name q.name q.atom)))) (sym e) (sym f)

    values_of : (h : ℕ) → h < count → values_text book h ≡ each (λ p. tie_text (Tie.value h p)) (below (length S.declared.pairs))
    unfolding member_text
    values_of h l =
        let (a, e) = holder-there standing held h l in
        let few = sorted-in-book standing held h (sort-of h a e) in
        sym (each_none (member_text (own_of book h) (value_line_text book h)) (length S.declared.pairs) pair_limit (pairs-fit standing)
        (λ p i j. ap (λ (t : Bool). if t then value_line_text book h p otherwise []) (own_is h p few j ∙ off (S.ties (Tie.value h p)) (λ on. no-pair p i on))))
        ∙ each_same (member_text (own_of book h) (value_line_text book h)) (λ p. tie_text (Tie.value h p)) (length S.declared.pairs)
        (λ p i. ap₂ (λ (t : Bool) (x : Bytes). if t then x otherwise []) (own_is h p few (omega (arith, pairs-fit standing))) (value-line h p l i))
      where
        no-pair : (p : ℕ) → length S.declared.pairs ≤ p → S.ties (Tie.value h p) ≡ true → ⊥
        no-pair p i on = let m = nth-lt S.declared.pairs p (standing.ties-fit (Tie.value h p) on).pair_is in omega arith

    -- the lines of all ties
    pub ties-text : ties_text book ≡ each line_text (tie_lines S)
    ties-text =
        ap (λ (n : ℕ). each (holder_ups_text book n 8) (below n) ++ (each (holder_ups_text book n 9) (below n) ++ each (values_text book) (below n)))
        (holder-count standing held)
        ∙ ap₂ (λ (x y : Bytes). x ++ y)
        (each_same (holder_ups_text book count 8) (λ h. each (λ g. tie_text (Tie.parent h g)) (below count)) count parents-of
        ∙ with-text Tie.parent (below count) (below count))
        (ap₂ (λ (x y : Bytes). x ++ y)
        (each_same (holder_ups_text book count 9) (λ h. each (λ g. tie_text (Tie.member h g)) (below count)) count members-of
        ∙ with-text Tie.member (below count) (below count))
        (each_same (values_text book) (λ h. each (λ p. tie_text (Tie.value h p)) ps) count values_of ∙ with-text Tie.value (below count) ps))
        ∙ lines-text
