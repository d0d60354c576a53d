-- The index of a list: what is found is the place in the list, and one more at the end is one row more. Assumes nothing.
use Prim.Native.Nat.{ℕ, ◌≤◌}
use mathlib.Core.Path.{◌≡◌, refl, sym, ap, ◌∙◌}
use mathlib.Core.Logic.{◌⊎◌, inl, inr, ◌↔◌}
use mathlib.Core.Bool.{Bool, true, false}
use mathlib.Core.List.{List, [], ◌∷◌, ◌++◌}
use mathlib.Core.Option as math
use mathlib.Core.Option.{none, some, some-injective}
use Rattle.std.specs.Prelude.{Option, Some, None, MatchOption}
use native.Mathlib.Omega.{arith}
use lib.Dec.{eqb}
use lib.ListN.{length}
use borrow.Author.Tests.{eqb-true, eqb-false}
use Rattle.model.specs.Notation.{◌>>=◌, nth, place}
use Rattle.model.proofs.WordTables.{false-is-true, none-is-some}
use Rattle.model.proofs.Options.{bind-some, no_result}
use Rattle.model.proofs.Lists.{nth-lt, nth-append, place-nth}
use Rattle.model.proofs.Growing.{nth_last, place-nowhere}
use Rattle.index.specs.Index.{Row, Rows, Greatest, Indexed, RowFound, rows_of, with_row}
use Rattle.index.proofs.ChainWalks.{chain-as}

-- the index of some rows is that of the same rows told otherwise
module _ (rows rows' : Rows) (same : (k : ℕ) → rows k ≡ rows' k) where
  greatest-same : (h top v : ℕ) → Greatest rows h top v → Greatest rows' h top v
  greatest-same h top v g = record {
    within = g.within;
    inside = λ k e. chain-as rows rows' (sym (same k)) (g.inside k e);
    above = λ k l m c. g.above k l m (chain-as rows' rows (same k) c);
  }

  pub indexed-same : {s : List ℕ} {n : ℕ} → Indexed s n rows → Indexed s n rows'
  indexed-same ix = record {
    size = ix.size;
    few = λ k h. sym (same k) ∙ ix.few k h;
    written = λ k w e. ix.written k w (same k ∙ e);
    absent = λ k h e. ix.absent k h (same k ∙ e);
    firsts = λ h l. greatest-same h _ _ (ix.firsts h l);
    nexts = λ k w e. greatest-same _ k _ (ix.nexts k w (same k ∙ e));
  }

module _ {A : Type 0} (row : A → Row) (xs : List A) where
  row-there : (k : ℕ) (x : A) → nth xs k ≡ some x → rows_of row xs k ≡ some (row x)
  row-there k x e = ap (λ (o : math.Option A). o >>= λ y. some (row y)) e

  -- the number that is found is the place of the one element that passes, if those that pass are those with the words w
  module _ (p : A → Bool) (w : Row) (tells : (k : ℕ) (x : A) → nth xs k ≡ some x → (p x ≡ true) ↔ (row x ≡ w))
      (unique : (i j : ℕ) (x y : A) → nth xs i ≡ some x → nth xs j ≡ some y → p x ≡ true → p y ≡ true → i ≡ j) where
    place_here : (r : ℕ) → rows_of row xs r ≡ some w → place p xs ≡ some r
    place_here r e = go (place p xs) refl
      where
        go : (o : math.Option ℕ) → place p xs ≡ o → place p xs ≡ some r
        go none f =
            let (x, g, h) = bind-some (nth xs r) (λ y. some (row y)) e in
            false-is-true (sym (place-nowhere p xs f r x g) ∙ (tells r x g).1 (some-injective _ _ h))
        go (some j) f =
            let (x, g, h) = bind-some (nth xs r) (λ y. some (row y)) e in
            let (y, k, q) = place-nth p xs j f in
            f ∙ ap (λ (i : ℕ). some i) (unique j r y x k g q ((tells r x g).1 (some-injective _ _ h)))

    place_none : ((k : ℕ) → rows_of row xs k ≡ some w → ⊥) → place p xs ≡ none
    place_none nowhere = no_result (place p xs) λ j f.
        let (y, k, q) = place-nth p xs j f in
        nowhere j (row-there j y k ∙ ap (λ (v : Row). some v) ((tells j y k).0 q))

    pub place_found : (r : Option ℕ) → RowFound (rows_of row xs) w r → MatchOption r (place p xs ≡ none) (λ k. place p xs ≡ some k)
    place_found None nowhere = place_none nowhere
    place_found (Some k) found = place_here k found

  -- the list with one more at its end
  last-there : (x : A) → nth (xs ++ x ∷ []) (length xs) ≡ some x
  last-there = go xs
    where
      go : (l : List A) (x : A) → nth (l ++ x ∷ []) (length l) ≡ some x
      go [] x = refl
      go (y ∷ l) x = go l x

  one_more : (x : A) (k : ℕ) → with_row (rows_of row xs) (length xs) (row x) k ≡ rows_of row (xs ++ x ∷ []) k
  one_more x k = go (eqb k (length xs)) refl
    where
      others : (k ≡ length xs → ⊥) → (o : math.Option A) → nth (xs ++ x ∷ []) k ≡ o → nth xs k ≡ o
      others h none e = no_result (nth xs k) λ y f. none-is-some (sym e ∙ nth-append xs (x ∷ []) k f)
      others h (some y) e = old (nth_last xs x k e)
        where
          old : (nth xs k ≡ some y) ⊎ ((k ≡ length xs) × (x ≡ y)) → nth xs k ≡ some y
          old (inl f) = f
          old (inr f) = absurd (h f.0)

      go : (t : Bool) → eqb k (length xs) ≡ t
          → (elim t as (λ _. math.Option Row) [ true ↦ some (row x) | false ↦ rows_of row xs k ]) ≡ rows_of row (xs ++ x ∷ []) k
      go true e = sym (ap (rows_of row (xs ++ x ∷ [])) (eqb-true k (length xs) e) ∙ ap (λ (o : math.Option A). o >>= λ y. some (row y)) (last-there x))
      go false e = ap (λ (o : math.Option A). o >>= λ y. some (row y)) (others (eqb-false k (length xs) e) (nth (xs ++ x ∷ []) k) refl)

  pub listed_more : (x : A) {s : List ℕ} {n : ℕ} → Indexed s n (with_row (rows_of row xs) (length xs) (row x)) → Indexed s n (rows_of row (xs ++ x ∷ []))
  listed_more x = indexed-same (with_row (rows_of row xs) (length xs) (row x)) (rows_of row (xs ++ x ∷ [])) (one_more x)

  -- numbers from the length up are free
  pub listed-fresh : (k : ℕ) → length xs ≤ k → rows_of row xs k ≡ none
  listed-fresh k h = no_result (rows_of row xs k) λ w e.
      let (x, f, g) = bind-some (nth xs k) (λ y. some (row y)) e in
      let l = nth-lt xs k f in omega arith
