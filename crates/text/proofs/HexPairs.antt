-- Hex pairs, one after the other.
use Prim.Native.Nat.{ℕ, ◌+◌, ◌*◌, ◌/◌, ◌≤◌, ◌<◌}
use mathlib.Core.Path.{◌≡◌, refl, sym, ap, ◌∙◌}
use mathlib.Core.Bool.{Bool, true, false, not}
use mathlib.Core.List.{[], ◌∷◌, ◌++◌, append-nil}
use mathlib.Core.Option.{Option, none, some, some-injective}
use native.Mathlib.Numerals.{add-one}
use native.Mathlib.Omega.{arith}
use borrow.Author.Tests.{eqb-true, eqb-false}
use lib.ListN.{length, get_or, take, drop, set, take-append-drop}
use lib.Seq.{length-take-le, take-suc-set, append_snoc}
use lib.Dec.{eqb}
use Rattle.model.specs.Notation.{◌>>=◌, is_none}
use Rattle.model.specs.Bytes.{Bytes}
use Rattle.model.specs.Gate.{hex_digit, hex_pairs}
use Rattle.model.proofs.WordTables.{none-is-some}
use Rattle.model.proofs.Options.{bound}
use Rattle.std.proofs.Common.{Result}
use Rattle.text.specs.declared.NoPair.{NoPair}
use Rattle.text.specs.Hex.{hex_pair_of, leading, all_pairs, pairs_in, Unhexed}
use Rattle.text.proofs.LoopPlaces.{next, done}

-- a pair of bytes
module _ (x y : ℕ) where
  -- a pair more
  pairs-step : (r : Bytes) → hex_pairs (x ∷ y ∷ r) ≡ (hex_pair_of x y >>= λ b. hex_pairs r >>= λ block. some (b ∷ block))
  unfolding hex_pairs
  pairs-step r = go (hex_digit x) (hex_digit y)
    where
      go : (o p : Option ℕ) → (o >>= λ h. p >>= λ l. hex_pairs r >>= λ block. some ((16 * h + l) ∷ block))
          ≡ ((o >>= λ h. p >>= λ l. some (16 * h + l)) >>= λ b. hex_pairs r >>= λ block. some (b ∷ block))
      go none p = refl
      go (some h) none = refl
      go (some h) (some l) = refl

  leading_step : (r : Bytes) (b : ℕ) → hex_pair_of x y ≡ some b → leading (x ∷ y ∷ r) ≡ b ∷ leading r
  leading_step r b e = ap (λ (o : Option ℕ). elim o as (λ _. Bytes) [ some b ↦ b ∷ leading r | none ↦ [] ]) e

  leading-stop : (r : Bytes) → hex_pair_of x y ≡ none → leading (x ∷ y ∷ r) ≡ []
  leading-stop r e = ap (λ (o : Option ℕ). elim o as (λ _. Bytes) [ some b ↦ b ∷ leading r | none ↦ [] ]) e

-- what is read so far, and what is left
abbrev pub so_far : Bytes → Bytes → ℕ → Type 0
so_far s out i = (leading s ≡ take i out ++ leading (drop (2 * i) s)) × (hex_pairs s ≡ (hex_pairs (drop (2 * i) s) >>= λ block. some (take i out ++ block)))

pub so-far-start : (s out : Bytes) → so_far s out 0
so-far-start s out = (refl, go (hex_pairs s))
  where
    go : (o : Option Bytes) → o ≡ (o >>= λ block. some block)
    go none = refl
    go (some b) = refl

module _ (s out : Bytes) (i : ℕ) (h : 2 * i + 1 < length s) where
  two : drop (2 * i) s ≡ get_or s (2 * i) 0 ∷ get_or s (2 * i + 1) 0 ∷ drop (2 * (i + 1)) s
  two =
      let e : 2 * i + 1 + 1 ≡ 2 * (i + 1) = omega arith in
      next s (2 * i) (omega arith) ∙ ap (λ (l : Bytes). get_or s (2 * i) 0 ∷ l) (next s (2 * i + 1) h ∙ ap (λ (k : ℕ). get_or s (2 * i + 1) 0 ∷ drop k s) e)

  pub so_far_more : (b : ℕ) → hex_pair_of (get_or s (2 * i) 0) (get_or s (2 * i + 1) 0) ≡ some b → i < length out → so_far s out i → so_far s (set out i b) (i + 1)
  so_far_more b p l (u, v) =
      let x = get_or s (2 * i) 0 in
      let y = get_or s (2 * i + 1) 0 in
      let r = drop (2 * (i + 1)) s in
      let t : take (i + 1) (set out i b) ≡ take i out ++ b ∷ [] = rw add-one (take-suc-set out i b l) in (
        u ∙ ap (λ (d : Bytes). take i out ++ leading d) two ∙ ap (λ (d : Bytes). take i out ++ d) (leading_step x y r b p)
            ∙ sym (append_snoc (take i out) b (leading r)) ∙ ap (λ (d : Bytes). d ++ leading r) (sym t),
        v ∙ ap (λ (d : Bytes). hex_pairs d >>= λ block. some (take i out ++ block)) two
            ∙ ap (λ (o : Option Bytes). o >>= λ block. some (take i out ++ block)) (pairs-step x y r)
            ∙ ap (λ (o : Option ℕ). (o >>= λ b. hex_pairs r >>= λ block. some (b ∷ block)) >>= λ block. some (take i out ++ block)) p
            ∙ go (hex_pairs r)
            ∙ ap (λ (d : Bytes). hex_pairs r >>= λ block. some (d ++ block)) (sym t),
      )
    where
      go : (o : Option Bytes) → ((o >>= λ block. some (b ∷ block)) >>= λ block. some (take i out ++ block)) ≡ (o >>= λ block. some ((take i out ++ b ∷ []) ++ block))
      go none = refl
      go (some d) = ap {B = Option Bytes} some (sym (append_snoc (take i out) b d))

  pub stops : hex_pair_of (get_or s (2 * i) 0) (get_or s (2 * i + 1) 0) ≡ none → so_far s out i → (leading s ≡ take i out) × (hex_pairs s ≡ none)
  stops p (u, v) =
      let x = get_or s (2 * i) 0 in
      let y = get_or s (2 * i + 1) 0 in
      let r = drop (2 * (i + 1)) s in (
        u ∙ ap (λ (d : Bytes). take i out ++ leading d) two ∙ ap (λ (d : Bytes). take i out ++ d) (leading-stop x y r p) ∙ append-nil (take i out),
        v ∙ ap (λ (d : Bytes). hex_pairs d >>= λ block. some (take i out ++ block)) two
            ∙ ap (λ (o : Option Bytes). o >>= λ block. some (take i out ++ block)) (pairs-step x y r)
            ∙ ap (λ (o : Option ℕ). (o >>= λ b. hex_pairs r >>= λ block. some (b ∷ block)) >>= λ block. some (take i out ++ block)) p,
      )

-- what stands in the output at the end
pub filled : (s before after : Bytes) (i : ℕ) (r : Result ℕ NoPair) → pairs_in r ≡ i → i ≤ length after → leading s ≡ take i after → drop i after ≡ drop i before
    → all_pairs r ≡ not (is_none (hex_pairs s)) → Unhexed s before after r
filled s before after i r c h e k o =
    let n : length (leading s) ≡ i = ap length e ∙ length-take-le i after h in
    record {
      all = o;
      count = c ∙ sym n;
      bytes = sym (take-append-drop i after) ∙ ap (λ (d : Bytes). take i after ++ d) k ∙ ap (λ (d : Bytes). d ++ drop i before) (sym e) ∙ ap (λ (m : ℕ). leading s ++ drop m before) (sym n);
    }

-- at the end: nothing is left, or half a pair
pub ends : (s out : Bytes) (i : ℕ) → length s / 2 ≤ i → i ≤ length s / 2 → so_far s out i → (leading s ≡ take i out) × (eqb (length s) (2 * i) ≡ not (is_none (hex_pairs s)))
unfolding hex_pairs
ends s out i h k (u, v) = go (eqb (length s) (2 * i)) refl
  where
    left : (d : Bytes) → drop (2 * i) s ≡ d → leading d ≡ [] → leading s ≡ take i out
    left d e f = u ∙ ap (λ (d : Bytes). take i out ++ leading d) e ∙ ap (λ (d : Bytes). take i out ++ d) f ∙ append-nil (take i out)

    whole : (d : Bytes) → drop (2 * i) s ≡ d → hex_pairs s ≡ (hex_pairs d >>= λ block. some (take i out ++ block))
    whole d e = v ∙ ap (λ (d : Bytes). hex_pairs d >>= λ block. some (take i out ++ block)) e

    half : (length s ≡ 2 * i → ⊥) → drop (2 * i) s ≡ get_or s (2 * i) 0 ∷ []
    half n = next s (2 * i) (omega arith) ∙ ap (λ (d : Bytes). get_or s (2 * i) 0 ∷ d) (done s (2 * i + 1) (omega arith))

    go : (t : Bool) → eqb (length s) (2 * i) ≡ t → (leading s ≡ take i out) × (t ≡ not (is_none (hex_pairs s)))
    go true e =
        let l = eqb-true (length s) (2 * i) e in
        let d = done s (2 * i) (omega arith) in
        (left [] d refl, sym (ap (λ (o : Option Bytes). not (is_none o)) (whole [] d)))
    go false e =
        let d = half (eqb-false (length s) (2 * i) e) in
        (left (get_or s (2 * i) 0 ∷ []) d refl, sym (ap (λ (o : Option Bytes). not (is_none o)) (whole (get_or s (2 * i) 0 ∷ []) d)))

-- all pairs: what is written is what is read
pub leading-pairs : (s b : Bytes) → hex_pairs s ≡ some b → leading s ≡ b
unfolding hex_pairs
leading-pairs [] b e = some-injective _ _ e
leading-pairs (x ∷ []) b e = none-is-some e
leading-pairs (x ∷ y ∷ r) b e =
    bound {o = hex_pair_of x y} (sym (pairs-step x y r) ∙ e) λ d p q. bound {o = hex_pairs r} q λ block f z.
    leading_step x y r d p ∙ ap (λ (l : Bytes). d ∷ l) (leading-pairs r block f) ∙ some-injective _ _ z
