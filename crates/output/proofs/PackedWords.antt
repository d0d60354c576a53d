-- The bytes of a packed word, laid one after another. Assumes nothing.
use Prim.Native.Nat.{ℕ, zero, suc, ◌/◌, ◌%◌, ◌<◌}
use mathlib.Core.Path.{◌≡◌, refl, sym, ap, ◌∙◌}
use mathlib.Core.Bool.{Bool}
use mathlib.Core.List.{[], ◌∷◌}
use native.Mathlib.Decide.{dec_lt}
use native.Mathlib.Omega.{arith}
use lib.ListN.{length, take}
use native.Mathlib.Nat.{div-div-eq-div-mul}
use borrow.Author.Tests.{ne_eqb}
use Rattle.model.specs.Notation.{if◌then◌otherwise◌}
use Rattle.model.specs.Bytes.{Bytes}
use Rattle.output.specs.Laid.{word_text}

pub word_more : (n w : ℕ) → (w ≡ 0 → ⊥) → word_text (suc n) w ≡ w % 256 ∷ word_text n (w / 256)
unfolding word_text
word_more n w h = ap (λ (b : Bool). if b then [] otherwise (w % 256 ∷ word_text n (w / 256))) (ne_eqb w 0 h)

pub word_none : (n : ℕ) → word_text n 0 ≡ []
unfolding word_text
word_none zero = refl
word_none (suc n) = refl

word_zero : (w : ℕ) → word_text zero w ≡ []
unfolding word_text
word_zero w = refl

-- all the bytes of a word are those, and zeros behind them
abbrev pub low_bytes : ℕ → ℕ → Bytes
low_bytes zero w = []
low_bytes (suc n) w = w % 256 ∷ low_bytes n (w / 256)

pub front-bytes : (n w : ℕ) → take (length (word_text n w)) (low_bytes n w) ≡ word_text n w
front-bytes zero w = ap (λ (s : Bytes). take (length s) []) (word_zero w) ∙ sym (word_zero w)
front-bytes (suc n) w = go (dec_lt 0 w) (front-bytes n (w / 256))
  where
    go : Dec (0 < w) → take (length (word_text n (w / 256))) (low_bytes n (w / 256)) ≡ word_text n (w / 256) → take (length (word_text (suc n) w)) (low_bytes (suc n) w) ≡ word_text (suc n) w
    go (yes p) rest =
        let e = word_more n w (λ z. omega arith) in
        ap (λ (s : Bytes). take (length s) (low_bytes (suc n) w)) e ∙ ap (λ (s : Bytes). w % 256 ∷ s) rest ∙ sym e
    go (no p) rest =
        let z : w ≡ 0 = omega arith in
        let e : word_text (suc n) w ≡ [] = ap (word_text (suc n)) z ∙ word_none (suc n) in
        ap (λ (s : Bytes). take (length s) (low_bytes (suc n) w)) e ∙ sym e

-- as the machine lays out a word
pub eight-bytes : (w : ℕ)
    → (w % 256 ∷ w / 256 % 256 ∷ w / 65536 % 256 ∷ w / 16777216 % 256 ∷ w / 4294967296 % 256 ∷ w / 1099511627776 % 256 ∷ w / 281474976710656 % 256 ∷ w / 72057594037927936 % 256 ∷ [])
    ≡ low_bytes 8 w
eight-bytes w = simp div-div-eq-div-mul
