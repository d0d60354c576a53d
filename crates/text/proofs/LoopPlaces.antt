-- Laws for a walk that has come to place i of a list of bytes: what is left from there on, and what each byte passed. Assumes nothing.
use Prim.Native.Nat.{ℕ, zero, suc, ◌+◌, ◌-◌, ◌≤◌, ◌<◌}
use mathlib.Core.Path.{◌≡◌, refl, sym, ◌∙◌}
use mathlib.Core.Bool.{Bool, true, false, ◌&&◌, true≢false}
use mathlib.Core.List.{[], ◌∷◌}
use mathlib.Core.Option.{none}
use native.Mathlib.Numerals.{add-one}
use native.Mathlib.Omega.{arith}
use borrow.Author.Tests.{not-true}
use lib.ListN.{length, get_or, take, drop, length-drop, drop_of_length-le}
use lib.Seq.{drop-cons, take_all}
use lib.Dec.{eqb}
use Rattle.std.specs.List.{list_all}
use Rattle.std.proofs.lemmas.List.Recursion.{same_from_clauses, and_from_places}
use Rattle.model.specs.Notation.{if◌then◌otherwise◌, all_of}
use Rattle.model.specs.Bytes.{Bytes, cut}
use Rattle.model.proofs.Lists.{all-parts}
use Rattle.model.proofs.Cuts.{isnt, lacks}

-- the byte at place i and what stands behind it; or nothing
pub next : (s : Bytes) (i : ℕ) → i < length s → drop i s ≡ get_or s i 0 ∷ drop (i + 1) s
next s i h = rw (add-one, drop-cons s i 0)

pub done : (s : Bytes) (i : ℕ) → length s ≤ i → drop i s ≡ []
done s i h = drop_of_length-le s h

-- a part up to the end of a list
pub tail-part : (a : ℕ) (s : Bytes) → take (length s - a) (drop a s) ≡ drop a s
tail-part a s = take_all (length s - a) (drop a s) (omega (arith, length-drop a s))

-- nothing is cut where there is no b
pub cut-lacks : (b : ℕ) (s : Bytes) → lacks b s ≡ true → cut b s ≡ none
cut-lacks b [] e = refl
cut-lacks b (x ∷ s) e = let (p, q) = all-parts (isnt b) x s e in rw (cut, not-true (eqb x b) p, cut-lacks b s q)

-- a test that each byte passes, as `all` tells it, and place by place
if-and : (a b : Bool) → (if a then b otherwise false) ≡ (a && b)
if-and true b = refl
if-and false b = refl

module _ (p : ℕ → Bool) where
  pub all-listed : (s : Bytes) → list_all p s ≡ all_of p s
  all-listed s = same_from_clauses (list_all p) (all_of p) (λ x b. p x && b) refl (λ _ _. refl) (λ x xs. if-and (p x) (all_of p xs)) s

  pub all-places : (s : Bytes) → ((k : ℕ) → k < length s → p (get_or s k 0) ≡ true) → all_of p s ≡ true
  all-places s h = and_from_places (all_of p) p refl (λ x xs. if-and (p x) (all_of p xs)) s 0 h

-- what passes, passes at each place
pub all-at : (p : ℕ → Bool) (s : Bytes) → all_of p s ≡ true → (i : ℕ) → i < length s → p (get_or s i 0) ≡ true
all-at p [] e i h = absurd (omega arith)
all-at p (x ∷ s) e zero h = (all-parts p x s e).0
all-at p (x ∷ s) e (suc i) h = all-at p s (all-parts p x s e).1 i (omega arith)

-- bytes that are not empty
pub some-byte : (s : Bytes) {r : Bool} → r ≡ eqb (length s) 0 → r ≡ false → 1 ≤ length s
some-byte [] e f = absurd (true≢false (sym e ∙ f))
some-byte (x ∷ s) e f = omega arith
