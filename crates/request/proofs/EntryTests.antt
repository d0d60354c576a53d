-- The entries of a block, tested one after another. Assumes nothing.
use Prim.Native.Nat.{ℕ, zero, suc, ◌+◌, ◌*◌, ◌/◌, ◌≤◌, ◌<◌}
use native.Mathlib.Omega.{arith}
use native.Mathlib.Decide.{dec_lt}
use mathlib.Core.Path.{◌≡◌, refl, sym, ap, ap₂, subst, ◌∙◌}
use mathlib.Core.Bool.{Bool, true, false, not, ◌&&◌, true≢false}
use mathlib.Core.List.{List, ◌∷◌}
use mathlib.Core.Option.{Option, none, some}
use lib.Dec.{eqb, ltb, leb}
use lib.ListN.{length, get_or, take, drop}
use lib.Seq.{get_or-drop, drop-drop}
use borrow.Author.Tests.{ne_eqb, lt-ltb, le-ltb, le-leb, lt-leb}
use Rattle.model.specs.Notation.{if◌then◌otherwise◌, ◌is◌, all_of, nth}
use Rattle.model.specs.Bytes.{Bytes}
use Rattle.model.specs.Attributes.{Source, AtomType, from_block}
use Rattle.model.specs.Declarations.{Declarations, Attribute}
use Rattle.model.specs.Block.{Entry, number, byte_at, value_at, entries_of}
use Rattle.model.specs.Refusals.{entry_fits, bool_above_one}
use Rattle.model.proofs.Lists.{nth-lt}
use Rattle.model.proofs.Options.{no_result}
use Rattle.codes.specs.Codes.{source_code, type_code}
use Rattle.rows.specs.Rows.{AttributeRows}
use Rattle.session.proofs.Opens.{no-attribute}

-- ---- one entry

held-source : (s : Source) → source_code s ≤ 3 → from_block s ≡ false
held-source Source.user h = refl
held-source Source.object h = refl
held-source Source.admin h = refl
held-source Source.env h = absurd (omega arith)
held-source Source.connect h = absurd (omega arith)

block-source : (s : Source) → 3 < source_code s → from_block s ≡ true
block-source Source.user h = absurd (omega arith)
block-source Source.object h = absurd (omega arith)
block-source Source.admin h = absurd (omega arith)
block-source Source.env h = refl
block-source Source.connect h = refl

other-type : (t : AtomType) (v : ℕ) → (type_code t ≡ 3 → ⊥) → not (bool_above_one t v) ≡ true
other-type AtomType.int v h = refl
other-type AtomType.str v h = refl
other-type AtomType.bool v h = absurd (h refl)

at_most_one : (v : ℕ) → leb v 1 ≡ not (ltb 1 v)
at_most_one v = go (dec_lt 1 v)
  where
    go : Dec (1 < v) → leb v 1 ≡ not (ltb 1 v)
    go (yes h) = lt-leb v 1 h ∙ ap not (sym (lt-ltb 1 v h))
    go (no h) = let l : v ≤ 1 = omega arith in le-leb v 1 l ∙ ap not (sym (le-ltb 1 v l))

bool-type : (t : AtomType) (v : ℕ) → type_code t ≡ 3 → leb v 1 ≡ not (bool_above_one t v)
bool-type AtomType.int v h = absurd (omega arith)
bool-type AtomType.str v h = absurd (omega arith)
bool-type AtomType.bool v h = at_most_one v

module _ (rows : List ℕ) (k v : ℕ) (D : Declarations) (ar : AttributeRows rows D) where
  abbrev fits : Attribute → Bool
  fits a = from_block a.source && not (bool_above_one a.type v)

  abbrev Fits : Bool → Type 0
  Fits r = r ≡ entry_fits D (record { attribute = k; value = v })

  pub no_number : 32 ≤ k → Fits false
  unfolding entry_fits
  no_number h =
      sym (ap (λ (o : Option Attribute). o is fits) (no_result (nth D.attributes k) (λ a e. let l = nth-lt D.attributes k e in omega (arith, ar.within))))

  -- by the attribute
  by-attribute : (r : Bool) → (length D.attributes ≤ k → r ≡ false) → ((a : Attribute) → nth D.attributes k ≡ some a → r ≡ fits a) → Fits r
  unfolding entry_fits
  by-attribute r other known = go (nth D.attributes k) refl
    where
      go : (o : Option Attribute) → nth D.attributes k ≡ o → r ≡ (nth D.attributes k is fits)
      go none e = other (no-attribute D.attributes k e) ∙ sym (ap (λ (o : Option Attribute). o is fits) e)
      go (some a) e = known a e ∙ sym (ap (λ (o : Option Attribute). o is fits) e)

  pub not-from-block : get_or rows (8 * k) 0 ≤ 3 → Fits false
  not-from-block h =
      by-attribute false (λ l. refl)
      (λ a e. sym (ap (λ (t : Bool). t && not (bool_above_one a.type v)) (held-source a.source (let q = (ar.row k a e).source in omega arith))))

  module _ (small : k < 32) (from : 3 < get_or rows (8 * k) 0) where
    there : {C : Type 0} → length D.attributes ≤ k → C
    there l = let z = ar.other k l small in absurd (omega arith)

    source-so : (a : Attribute) → nth D.attributes k ≡ some a → from_block a.source ≡ true
    source-so a e = block-source a.source (let q = (ar.row k a e).source in omega arith)

    pub no_bool : (get_or rows (8 * k + 1) 0 ≡ 3 → ⊥) → Fits true
    no_bool h =
        by-attribute true (λ l. there l)
        (λ a e. sym (ap₂ (λ (t u : Bool). t && u) (source-so a e) (other-type a.type v (λ q. h ((ar.row k a e).type ∙ q)))))

    pub a-bool : get_or rows (8 * k + 1) 0 ≡ 3 → Fits (leb v 1)
    a-bool h =
        by-attribute (leb v 1) (λ l. there l)
        (λ a e. bool-type a.type v (sym (ar.row k a e).type ∙ h) ∙ sym (ap (λ (t : Bool). t && not (bool_above_one a.type v)) (source-so a e)))

-- so it is by the number of the attribute as a place
above : (a b : ℕ) → ltb a b ≡ true → a < b
above a b e = go (dec_lt a b)
  where
    go : Dec (a < b) → a < b
    go (yes h) = h
    go (no h) = absurd (true≢false (sym e ∙ le-ltb a b (omega arith)))

at_most : (a b : ℕ) → ltb a b ≡ false → b ≤ a
at_most a b e = go (dec_lt a b)
  where
    go : Dec (a < b) → b ≤ a
    go (yes h) = absurd (true≢false (sym (lt-ltb a b h) ∙ e))
    go (no h) = omega arith

module _ (rows : List ℕ) (i k v : ℕ) (same : i ≡ k) (D : Declarations) (ar : AttributeRows rows D) where
  abbrev fit : Bool
  fit = entry_fits D (record { attribute = k; value = v })

  abbrev source : ℕ → ℕ
  source j = get_or rows (8 * j) 0

  abbrev type : ℕ → ℕ
  type j = get_or rows (8 * j + 1) 0

  pub fits-outside : 32 ≤ i → false ≡ fit
  fits-outside h = no_number rows k v D ar (omega (arith, same))

  pub fits-held : ltb 3 (source i) ≡ false → false ≡ fit
  fits-held h = not-from-block rows k v D ar (subst (λ j. source j ≤ 3) same (at_most 3 (source i) h))

  pub fits-typed : i < 32 → ltb 3 (source i) ≡ true → (type i ≡ 3 → ⊥) → not (eqb (type i) 3) ≡ fit
  fits-typed h f n = ap not (ne_eqb (type i) 3 n)
      ∙ no_bool rows k v D ar (omega (arith, same)) (subst (λ j. 3 < source j) same (above 3 (source i) f)) (subst (λ j. type j ≡ 3 → ⊥) same n)

  pub fits-bool : i < 32 → ltb 3 (source i) ≡ true → type i ≡ 3 → leb v 1 ≡ fit
  fits-bool h f e = a-bool rows k v D ar (omega (arith, same)) (subst (λ j. 3 < source j) same (above 3 (source i) f)) (subst (λ j. type j ≡ 3) same e)

-- ---- the entries one after another

abbrev pub entry_at : Bytes → ℕ → Entry
entry_at s j = record { attribute = get_or s (5 * j) 0; value = value_at s (5 * j + 1) }

module _ (s : Bytes) where
  cut : (j : ℕ) → ◌≡◌ {A = Entry} (record { attribute = byte_at (drop (5 * j) s) 0; value = value_at (drop (5 * j) s) 1 }) (entry_at s j)
  cut j =
      let e : 5 * j + 0 ≡ 5 * j = omega arith in
      ap₂ (λ (a v : ℕ). record { attribute = a; value = v }) (get_or-drop (5 * j) s 0 0 ∙ ap (λ (i : ℕ). get_or s i 0) e)
      (ap (λ (l : Bytes). number (take 4 l)) (drop-drop 1 (5 * j) s))

  behind : (j : ℕ) → drop 5 (drop (5 * j) s) ≡ drop (5 * suc j) s
  behind j = let e : 5 * j + 5 ≡ 5 * suc j = omega arith in drop-drop 5 (5 * j) s ∙ ap (λ (i : ℕ). drop i s) e

  -- what is told of an entry by its attribute and its value
  pub told_of : (D : Declarations) (j v : ℕ) → v ≡ value_at s (5 * j + 1) → (r : Bool) → r ≡ entry_fits D (record { attribute = get_or s (5 * j) 0; value = v })
      → (t : Bool) → r ≡ t → entry_fits D (entry_at s j) ≡ t
  told_of D j v e r f t g = ap (λ (w : ℕ). entry_fits D (record { attribute = get_or s (5 * j) 0; value = w })) (sym e) ∙ sym f ∙ g

  cons-so : (n j : ℕ) → entries_of (suc n) (drop (5 * j) s) ≡ entry_at s j ∷ entries_of n (drop (5 * suc j) s)
  cons-so n j = ap₂ (λ (e : Entry) (l : List Entry). e ∷ l) (cut j) (ap (entries_of n) (behind j))

  module _ (p : Entry → Bool) where
    all_from : (n j : ℕ) → ((i : ℕ) → j ≤ i → i < j + n → p (entry_at s i) ≡ true) → all_of p (entries_of n (drop (5 * j) s)) ≡ true
    all_from zero j f = refl
    all_from (suc n) j f =
        ap (all_of p) (cons-so n j) ∙ ap (λ (t : Bool). if t then all_of p (entries_of n (drop (5 * suc j) s)) otherwise false) (f j (omega arith) (omega arith))
        ∙ all_from n (suc j) (λ i a b. f i (omega arith) (omega arith))

    not-from : (n j i : ℕ) → j ≤ i → i < j + n → p (entry_at s i) ≡ false → all_of p (entries_of n (drop (5 * j) s)) ≡ false
    not-from zero j i a b e = absurd (omega arith)
    not-from (suc n) j i a b e = ap (all_of p) (cons-so n j) ∙ go (dec_lt j i) (λ l. not-from n (suc j) i (omega arith) (omega arith) e)
      where
        rest : Bool
        rest = all_of p (entries_of n (drop (5 * suc j) s))

        either : (t : Bool) → rest ≡ false → (if t then rest otherwise false) ≡ false
        either true r = r
        either false r = refl

        go : Dec (j < i) → (j < i → rest ≡ false) → (if p (entry_at s j) then rest otherwise false) ≡ false
        go (yes l) more = either (p (entry_at s j)) (more l)
        go (no l) more =
            let d : j ≡ i = omega arith in
            ap (λ (t : Bool). if t then rest otherwise false) (ap (λ (m : ℕ). p (entry_at s m)) d ∙ e)

    pub all_fit : (n : ℕ) → length s ≡ 5 * n → ((i : ℕ) → i < length s / 5 → p (entry_at s i) ≡ true) → true ≡ all_of p (entries_of n s)
    all_fit n e f = sym (all_from n 0 (λ i a b. f i (omega arith)))

    pub one-does-not : (n : ℕ) → length s ≡ 5 * n → (i : ℕ) → i < length s / 5 → p (entry_at s i) ≡ false → false ≡ all_of p (entries_of n s)
    one-does-not n e i h q = sym (not-from n 0 i (omega arith) (omega arith) q)

    pub so_far : (k : ℕ) → ((j : ℕ) → j < k → p (entry_at s j) ≡ true) → p (entry_at s k) ≡ true → (j : ℕ) → j < k + 1 → p (entry_at s j) ≡ true
    so_far k f e j h = go (dec_lt j k)
      where
        go : Dec (j < k) → p (entry_at s j) ≡ true
        go (yes l) = f j l
        go (no l) = let d : j ≡ k = omega arith in ap (λ (m : ℕ). p (entry_at s m)) d ∙ e
