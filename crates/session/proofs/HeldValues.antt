-- The pairs of a holder's set, position by position, are its values of an attribute. Assumes nothing.
use Prim.Native.Nat.{ℕ, zero, suc, ◌+◌, ◌-◌, ◌≤◌, ◌<◌}
use native.Mathlib.Omega.{arith}
use mathlib.Core.Path.{◌≡◌, refl, sym, ap, ap₂, subst, ◌∙◌}
use mathlib.Core.Bool.{Bool, true, false, ◌&&◌}
use mathlib.Core.List.{List, [], ◌∷◌}
use mathlib.Core.Option.{some}
use lib.ListN.{length}
use Rattle.model.specs.Notation.{map, filter, all_of, nth, numbered_from}
use Rattle.model.specs.Atoms.{Atom}
use Rattle.model.specs.Declarations.{Pair}
use Rattle.model.proofs.Lists.{all_cons}
use Rattle.text.specs.declared.Words.{Words}
use Rattle.text.specs.Values.{atom_words}
use Rattle.values.specs.Operands.{up_from, chosen}
use Rattle.values.proofs.Chosen.{filter-keep, filter-drop}

-- the pairs from number k on that are in a set and so named, by their atoms
module _ (eff : ℕ → Bool) (named : Pair → Bool) where
  abbrev pub held_from : ℕ → List Pair → List Atom
  held_from k xs = map (λ pair. pair.atom) (filter named (map (λ (p, pair). pair) (filter (λ (p, pair). eff p) (numbered_from k xs))))

  held-keep : (k : ℕ) (x : Pair) (xs : List Pair) → eff k ≡ true → named x ≡ true → held_from k (x ∷ xs) ≡ x.atom ∷ held_from (suc k) xs
  held-keep k x xs e f =
      ap (λ (l : List (ℕ × Pair)). map (λ pair. pair.atom) (filter named (map (λ (p, pair). pair) l))) (filter-keep (λ (p, pair). eff p) (k, x) (numbered_from (suc k) xs) e)
      ∙ ap (map (λ pair. pair.atom)) (filter-keep named x (map (λ (p, pair). pair) (filter (λ (p, pair). eff p) (numbered_from (suc k) xs))) f)

  held-skip : (k : ℕ) (x : Pair) (xs : List Pair) → (eff k && named x) ≡ false → held_from k (x ∷ xs) ≡ held_from (suc k) xs
  held-skip k x xs e = go (eff k) refl
    where
      go : (t : Bool) → eff k ≡ t → held_from k (x ∷ xs) ≡ held_from (suc k) xs
      go true q =
          ap (λ (l : List (ℕ × Pair)). map (λ pair. pair.atom) (filter named (map (λ (p, pair). pair) l))) (filter-keep (λ (p, pair). eff p) (k, x) (numbered_from (suc k) xs) q)
          ∙ ap (map (λ pair. pair.atom)) (filter-drop named x (map (λ (p, pair). pair) (filter (λ (p, pair). eff p) (numbered_from (suc k) xs)))
          (sym (ap (λ (b : Bool). b && named x) q) ∙ e))
      go false q = ap (λ (l : List (ℕ × Pair)). map (λ pair. pair.atom) (filter named (map (λ (p, pair). pair) l))) (filter-drop (λ (p, pair). eff p) (k, x) (numbered_from (suc k) xs) q)

  -- what is so of the atoms of each pair so named; none is there if none is so named
  pub held-each : (ok : Atom → Bool) (k : ℕ) (xs : List Pair) → ((i : ℕ) (x : Pair) → nth xs i ≡ some x → named x ≡ true → ok x.atom ≡ true) → all_of ok (held_from k xs) ≡ true
  held-each ok k [] f = refl
  held-each ok k (x ∷ xs) f = go (eff k) refl (named x) refl (held-each ok (suc k) xs (λ i y e. f (suc i) y e))
    where
      go : (t : Bool) → eff k ≡ t → (u : Bool) → named x ≡ u → all_of ok (held_from (suc k) xs) ≡ true → all_of ok (held_from k (x ∷ xs)) ≡ true
      go true p true q h = ap (all_of ok) (held-keep k x xs p q) ∙ all_cons ok x.atom (held_from (suc k) xs) (f 0 x refl q) h
      go true p false q h = ap (all_of ok) (held-skip k x xs (rw (p, q))) ∙ h
      go false p u q h = ap (all_of ok) (held-skip k x xs (rw p)) ∙ h

  pub held_none : (k : ℕ) (xs : List Pair) → ((i : ℕ) (x : Pair) → nth xs i ≡ some x → named x ≡ false) → held_from k xs ≡ []
  held_none k [] f = refl
  held_none k (x ∷ xs) f = held-skip k x xs (skipped (eff k)) ∙ held_none (suc k) xs (λ i y e. f (suc i) y e)
    where
      skipped : (t : Bool) → (t && named x) ≡ false
      skipped true = f 0 x refl
      skipped false = refl

  -- positions, of which each is that of a pair, or none is there
  module _ (here : ℕ → Bool) (value : ℕ → Words) (top : ℕ) where
    pub record At (i : ℕ) (x : Pair) : Type 0 where
      pub present : here i ≡ (eff i && named x)
      pub valued : named x ≡ true → value i ≡ atom_words x.atom

    abbrev Aligned : ℕ → List Pair → Type 0
    Aligned k [] = (i : ℕ) → k ≤ i → i < top → here i ≡ false
    Aligned k (x ∷ xs) = At k x × Aligned (suc k) xs

    aligned : (k : ℕ) (xs : List Pair) → ((i : ℕ) (x : Pair) → nth xs i ≡ some x → At (k + i) x)
        → ((i : ℕ) → k + length xs ≤ i → i < top → here i ≡ false) → Aligned k xs
    aligned k [] f g = λ i h l. g i (omega arith) l
    aligned k (x ∷ xs) f g =
        let e : k + 0 ≡ k = omega arith in (
          subst (λ (i : ℕ). At i x) e (f 0 x refl),
          aligned (suc k) xs
              (λ i y q. let d : k + suc i ≡ suc k + i = omega arith in subst (λ (j : ℕ). At j y) d (f (suc i) y q))
              (λ i h l. g i (omega arith) l),
        )

    none_here : (k n : ℕ) → k + n ≡ top → ((i : ℕ) → k ≤ i → i < top → here i ≡ false) → filter here (up_from k n) ≡ []
    none_here k zero e f = refl
    none_here k (suc n) e f = filter-drop here k (up_from (suc k) n) (f k (omega arith) (omega arith)) ∙ none_here (suc k) n (omega arith) (λ i h l. f i (omega arith) l)

    held-values : (n k : ℕ) (xs : List Pair) → length xs ≤ n → k + n ≡ top → Aligned k xs → map value (filter here (up_from k n)) ≡ map atom_words (held_from k xs)
    held-values n k [] l e f = ap (map value) (none_here k n e f)
    held-values zero k (x ∷ xs) l e f = absurd (omega arith)
    held-values (suc n) k (x ∷ xs) l e f = go (eff k) refl (named x) refl (held-values n (suc k) xs (omega arith) (omega arith) f.1)
      where
        skip : (eff k && named x) ≡ false → map value (filter here (up_from (suc k) n)) ≡ map atom_words (held_from (suc k) xs)
            → map value (filter here (up_from k (suc n))) ≡ map atom_words (held_from k (x ∷ xs))
        skip q h = ap (map value) (filter-drop here k (up_from (suc k) n) (f.0.present ∙ q)) ∙ h ∙ ap (map atom_words) (sym (held-skip k x xs q))

        go : (t : Bool) → eff k ≡ t → (u : Bool) → named x ≡ u → map value (filter here (up_from (suc k) n)) ≡ map atom_words (held_from (suc k) xs)
            → map value (filter here (up_from k (suc n))) ≡ map atom_words (held_from k (x ∷ xs))
        go true p true q h =
            ap (map value) (filter-keep here k (up_from (suc k) n) (f.0.present ∙ rw (p, q)))
            ∙ ap₂ (λ (v : Words) (r : List Words). v ∷ r) (f.0.valued q) h
            ∙ ap (map atom_words) (sym (held-keep k x xs p q))
        go true p false q h = skip (rw (p, q)) h
        go false p u q h = skip (rw p) h

    pub held_all : (xs : List Pair) → length xs ≤ top → ((i : ℕ) (x : Pair) → nth xs i ≡ some x → At i x) → ((i : ℕ) → length xs ≤ i → i < top → here i ≡ false)
        → chosen here value top 0 ≡ map atom_words (held_from 0 xs)
    unfolding chosen
    held_all xs l f g =
        let d : top - 0 ≡ top = omega arith in
        ap (λ (n : ℕ). map value (filter here (up_from 0 n))) d
        ∙ held-values top 0 xs l (omega arith)
        (aligned 0 xs (λ i x e. let d : i ≡ 0 + i = omega arith in subst (λ (j : ℕ). At j x) d (f i x e)) (λ i h t. g i (omega arith) t))
