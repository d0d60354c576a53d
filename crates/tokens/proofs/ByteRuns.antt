-- Runs of bytes at the front of a list.
use Prim.Native.Nat.{ℕ, suc, ◌+◌, ◌-◌, ◌≤◌}
use mathlib.Core.Path.{◌≡◌, refl, sym, ap, ◌∙◌}
use mathlib.Core.Bool.{Bool, true, false, cond, not}
use mathlib.Core.List.{[], ◌∷◌}
use native.Mathlib.Omega.{arith}
use borrow.Author.Tests.{ltb-false}
use Rattle.std.specs.Prelude.{Option, Some, None, unwrap_or}
use Rattle.std.specs.List.{position_or_len}
use Rattle.std.proofs.lemmas.List.Recursion.{is_position_or_len}
use lib.Dec.{ltb}
use lib.ListN.{length, take, drop, length-drop}
use lib.Seq.{take_all}
use Rattle.model.specs.Bytes.{Bytes, is_byte}
use Rattle.model.specs.Tokens.{word_byte, run}
use Rattle.tokens.specs.TokenAt.{lead, unspaced}

pub lead-le : (p : ℕ → Bool) (s : Bytes) → lead p s ≤ length s
lead-le p [] = omega arith
lead-le p (x ∷ s) = go (p x) (lead-le p s)
  where
    go : (t : Bool) → lead p s ≤ length s → (elim t as (λ _. ℕ) [ true ↦ suc (lead p s) | false ↦ 0 ]) ≤ suc (length s)
    go true h = omega arith
    go false h = omega arith

-- a run ends where the first byte stands that does not pass
module _ (p : ℕ → Bool) (s : Bytes) where
  abbrev off : ℕ
  off = position_or_len (λ b. not (p b)) s

  off-lead : off ≡ lead p s
  off-lead = sym (is_position_or_len (lead p) (λ b. not (p b)) refl (λ x xs. go (p x) (lead p xs)) s)
    where
      go : (t : Bool) (n : ℕ) → (elim t as (λ _. ℕ) [ true ↦ suc n | false ↦ 0 ]) ≡ cond (not t) 0 (1 + n)
      go true n = omega arith
      go false n = refl

  pub lead-found : (r : Option ℕ) → r ≡ cond (ltb off (length s)) (Some off) None → unwrap_or r (length s) ≡ lead p s
  lead-found r e = ap (λ (o : Option ℕ). unwrap_or o (length s)) e ∙ go (ltb off (length s)) refl ∙ off-lead
    where
      go : (t : Bool) → ltb off (length s) ≡ t → unwrap_or (cond t (Some off) None) (length s) ≡ off
      go true f = refl
      go false f = omega (arith, ltb-false off (length s) f, off-lead, lead-le p s)

-- behind a run stands no byte of it
pub lead-behind : (p : ℕ → Bool) (s : Bytes) → lead p (drop (lead p s) s) ≡ 0
lead-behind p [] = refl
lead-behind p (x ∷ s) = go (p x) refl (lead-behind p s)
  where
    go : (t : Bool) → p x ≡ t → lead p (drop (lead p s) s) ≡ 0 → lead p (drop (elim t as (λ _. ℕ) [ true ↦ suc (lead p s) | false ↦ 0 ]) (x ∷ s)) ≡ 0
    go true e f = f
    go false e f = ap (λ (b : Bool). elim b as (λ _. ℕ) [ true ↦ suc (lead p s) | false ↦ 0 ]) e

-- a word and what stands behind it; what stands behind the spaces
pub run-lead : (s : Bytes) → run s ≡ (take (lead word_byte s) s, drop (lead word_byte s) s)
run-lead [] = refl
run-lead (x ∷ s) = go (word_byte x) (run-lead s)
  where
    go : (t : Bool) → run s ≡ (take (lead word_byte s) s, drop (lead word_byte s) s)
        → ◌≡◌ {A = Bytes × Bytes} (elim t as (λ _. Bytes × Bytes) [ true ↦ (x ∷ (run s).0, (run s).1) | false ↦ ([], x ∷ s) ])
        (take (elim t as (λ _. ℕ) [ true ↦ suc (lead word_byte s) | false ↦ 0 ]) (x ∷ s), drop (elim t as (λ _. ℕ) [ true ↦ suc (lead word_byte s) | false ↦ 0 ]) (x ∷ s))
    go true e = ap (λ (r : Bytes × Bytes). (x ∷ r.0, r.1)) e
    go false e = refl

pub unspaced-lead : (s : Bytes) → unspaced s ≡ drop (lead (is_byte " ") s) s
unspaced-lead [] = refl
unspaced-lead (x ∷ s) = go (is_byte " " x) (unspaced-lead s)
  where
    go : (t : Bool) → unspaced s ≡ drop (lead (is_byte " ") s) s
        → (elim t as (λ _. Bytes) [ true ↦ unspaced s | false ↦ x ∷ s ]) ≡ drop (elim t as (λ _. ℕ) [ true ↦ suc (lead (is_byte " ") s) | false ↦ 0 ]) (x ∷ s)
    go true e = e
    go false e = refl

-- a part up to the end of a list
pub tail-part : (a : ℕ) (s : Bytes) → take (length s - a) (drop a s) ≡ drop a s
tail-part a s = take_all (length s - a) (drop a s) (omega (arith, length-drop a s))
