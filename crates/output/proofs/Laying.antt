-- Texts laid over a buffer, one behind another. Assumes nothing.
use Prim.Native.Nat.{ℕ, zero, suc, ◌+◌, ◌-◌, ◌≤◌, ◌<◌, min}
use mathlib.Core.Path.{◌≡◌, refl, sym, ap, ap₂, subst, ◌∙◌}
use mathlib.Core.List.{[], ◌∷◌, ◌++◌, append_assoc}
use native.Mathlib.Decide.{dec_lt}
use native.Mathlib.Omega.{arith}
use lib.ListN.{length, take, drop, set, length-append, take-append-drop}
use lib.Seq.{sets, length-sets, sets-eq, length-take-le, take_all, take_at, drop_at, drop-drop}
use borrow.Rule.Slice.PartMut.{put_mid}
use Rattle.model.specs.Bytes.{Bytes}
use Rattle.output.specs.Laid.{Laid}

-- ---- stores behind a list's end

set_past : (b : Bytes) (at x : ℕ) → length b ≤ at → set b at x ≡ b
set_past [] at x h = refl
set_past (y ∷ b) zero x h = absurd (omega arith)
set_past (y ∷ b) (suc at) x h = ap (λ (l : Bytes). y ∷ l) (set_past b at x (omega arith))

sets-past : (b : Bytes) (at : ℕ) (s : Bytes) → length b ≤ at → sets b at s ≡ b
sets-past b at [] h = refl
sets-past b at (x ∷ s) h = ap (λ (l : Bytes). sets l (suc at) s) (set_past b at x h) ∙ sets-past b (suc at) s (omega arith)

sets-append : (b : Bytes) (at : ℕ) (s t : Bytes) → sets b at (s ++ t) ≡ sets (sets b at s) (at + length s) t
sets-append b at [] t = ap (λ (k : ℕ). sets b k t) (omega arith)
sets-append b at (x ∷ s) t = sets-append (set b at x) (suc at) s t ∙ ap (λ (k : ℕ). sets (sets (set b at x) (suc at) s) k t) (omega arith)

-- what lies behind the end may be left out
sets-cut : (b : Bytes) (at k : ℕ) (s : Bytes) → length b ≤ at + k → k ≤ length s → sets b at (take k s) ≡ sets b at s
sets-cut b at k s past within =
    let l = length-take-le k s within in
    sym (sets-past (sets b at (take k s)) (at + length (take k s)) (drop k s) (omega (arith, length-sets b at (take k s), l)))
    ∙ sym (sets-append b at (take k s) (drop k s))
    ∙ ap (sets b at) (take-append-drop k s)

-- ---- one text behind another

pub laid_none : (b : Bytes) (at : ℕ) → Laid b at [] b at
laid_none b at = record { is = refl; behind = omega arith }

pub laid-past : (b : Bytes) (at : ℕ) (s : Bytes) (r : ℕ) → length b ≤ at → r ≡ at + length s → Laid b at s b r
laid-past b at s r past e = record { is = sym (sets-past b at s past); behind = e }

pub laid_as : {b : Bytes} {at : ℕ} {s t a : Bytes} {r : ℕ} → s ≡ t → Laid b at s a r → Laid b at t a r
laid_as {b} {at} {a = a} {r} e p = subst (λ (s : Bytes). Laid b at s a r) e p

pub laid_on : {b : Bytes} {at : ℕ} {s m : Bytes} {n : ℕ} {t a : Bytes} {r : ℕ} → Laid b at s m n → Laid m n t a r → Laid b at (s ++ t) a r
laid_on {b} {at} {s} {m} {n} {t} p q = record {
  is = q.is ∙ ap₂ (λ (x : Bytes) (k : ℕ). sets x k t) p.is p.behind ∙ sym (sets-append b at s t);
  behind = q.behind ∙ omega (arith, p.behind, length-append s t);
}

-- one byte, and one more
pub laid_one : (b : Bytes) (at x : ℕ) → Laid b at (x ∷ []) (set b at x) (at + 1)
laid_one b at x = record { is = refl; behind = refl }

pub laid_more : {b : Bytes} {at : ℕ} {s m : Bytes} {k : ℕ} (x n : ℕ) → Laid b at s m k → n ≡ at + length s → Laid b at (s ++ x ∷ []) (set m n x) (at + length (s ++ x ∷ []))
laid_more {b} {at} {s} {m} {k} x n p e =
    record { is = ap₂ (λ (l : Bytes) (j : ℕ). set l j x) p.is e ∙ sym (sets-append b at s (x ∷ [])); behind = refl }

-- ---- what a buffer then holds

module _ {b : Bytes} {at : ℕ} {s a : Bytes} {r : ℕ} (p : Laid b at s a r) where
  pub laid-length : length a ≡ length b
  laid-length = ap length p.is ∙ length-sets b at s

  module _ (fits : at + length s ≤ length b) where
    front_length : length (take at b ++ s) ≡ r
    front_length = length-append (take at b) s ∙ ap (λ (k : ℕ). k + length s) (length-take-le at b (omega arith)) ∙ sym p.behind

    -- before the place behind the text, and from there on
    pub laid-front : take r a ≡ take at b ++ s
    laid-front = ap (take r) (p.is ∙ sets-eq s b at fits) ∙ take_at (take at b ++ s) (drop (at + length s) b) r front_length

    pub laid-rest : drop r a ≡ drop r b
    laid-rest =
        ap (drop r) (p.is ∙ sets-eq s b at fits) ∙ drop_at (take at b ++ s) (drop (at + length s) b) r front_length
        ∙ ap (λ (k : ℕ). drop k b) (sym p.behind)

-- ---- a copy

-- the part from a place on, as long as the text, is the text now
part-laid : (b : Bytes) (at : ℕ) (s : Bytes) → at + length s ≤ length b → put_mid at (length s) b s ≡ sets b at s
part-laid b at s fits =
    ap (λ (y : Bytes). take at b ++ (s ++ y)) (drop-drop (length s) at b)
    ∙ sym (append_assoc (take at b) s (drop (at + length s) b))
    ∙ sym (sets-eq s b at fits)

-- as many bytes as fit were copied over a part of n from a place on
pub laid-copied : (b : Bytes) (at : ℕ) (s : Bytes) (k n : ℕ) {t : Bytes} → at < length b → k ≡ min (length s) (length b - at) → n ≡ k → t ≡ take k s
    → Laid b at s (put_mid at n b t) (at + length s)
laid-copied b at s k n below fitting part copied =
    let l = length-take-le k s (omega arith) in
    let w : n ≡ length (take k s) = omega arith in
    record { is = ap₂ (λ (j : ℕ) (t : Bytes). put_mid at j b t) w copied ∙ part-laid b at (take k s) (omega arith) ∙ cut (dec_lt k (length s)); behind = refl }
  where
    cut : Dec (k < length s) → sets b at (take k s) ≡ sets b at s
    cut (yes h) = sets-cut b at k s (omega arith) (omega arith)
    cut (no h) = ap (sets b at) (take_all k s (omega arith))
