-- The bytes of a packed word, laid in eight turns: those behind the word stay as they stand. Assumes nothing.
use Prim.Native.Nat.{ℕ, suc, ◌+◌, ◌-◌, ◌/◌, ◌%◌, ◌≤◌, ◌<◌}
use mathlib.Core.Path.{◌≡◌, refl, sym, ap, ◌∙◌}
use mathlib.Core.List.{[], ◌∷◌, ◌++◌, append-nil}
use native.Mathlib.Decide.{dec_lt}
use native.Mathlib.Omega.{arith}
use lib.ListN.{length, get_or, take, drop, set, length-drop}
use lib.Seq.{sets, set-get_or, length-take-le, take_all, take-add, drop-drop}
use Rattle.model.specs.Bytes.{Bytes}
use Rattle.output.specs.Laid.{Laid, word_text}
use Rattle.output.proofs.Laying.{laid_more}
use Rattle.output.proofs.PackedWords.{word_more, word_none}

-- after i turns the first i bytes are laid, where there are so many, and `left` has the others
pub record Turns (before : Bytes) (at word : ℕ) (out : Bytes) (left i : ℕ) : Type 0 where
  pub within : i ≤ 8
  pub laid : Laid before at (take i (word_text 8 word)) out (at + length (take i (word_text 8 word)))
  pub rest : drop i (word_text 8 word) ≡ word_text (8 - i) left

-- one turn more
pub turn : {before : Bytes} {at word : ℕ} {out : Bytes} {left i : ℕ} (n x : ℕ) → Turns before at word out left i → i < 8 → n ≡ length (word_text 8 word)
    → (i < n → x ≡ left % 256) → (n ≤ i → x ≡ get_or out (at + i) 0) → Turns before at word (set out (at + i) x) (left / 256) (i + 1)
turn {before} {at} {word} {out} {left} {i} n x p below long new old = go (dec_lt 0 left)
  where
    t : Bytes
    t = word_text 8 word

    -- from what is laid after the turn, and what i bytes leave of the text
    done : (s : Bytes) → drop i t ≡ s → set out (at + i) x ≡ sets before at (take i t ++ take 1 s) → drop 1 s ≡ word_text (7 - i) (left / 256)
        → Turns before at word (set out (at + i) x) (left / 256) (i + 1)
    done s e laid rest =
        let z : 7 - i ≡ 8 - (i + 1) = omega arith in
        record {
          within = omega arith;
          laid = record { is = laid ∙ ap (λ (l : Bytes). sets before at (take i t ++ take 1 l)) (sym e) ∙ ap (sets before at) (sym (take-add i 1 t)); behind = refl };
          rest = sym (drop-drop 1 i t) ∙ ap (drop 1) e ∙ rest ∙ ap (λ (k : ℕ). word_text k (left / 256)) z;
        }

    go : Dec (0 < left) → Turns before at word (set out (at + i) x) (left / 256) (i + 1)
    go (yes some) =
        let z : 8 - i ≡ suc (7 - i) = omega arith in
        let e = p.rest ∙ ap (λ (k : ℕ). word_text k left) z ∙ word_more (7 - i) left (λ e. omega arith) in
        let l : i < length t = omega (arith, ap length e, length-drop i t) in
        let y = new (omega (arith, l, long)) in
        let k : at + i ≡ at + length (take i t) = omega (arith, length-take-le i t (omega (arith, l))) in
        done (left % 256 ∷ word_text (7 - i) (left / 256)) e (ap (set out (at + i)) y ∙ (laid_more (left % 256) (at + i) p.laid k).is) refl
    go (no none) =
        let z : left ≡ 0 = omega arith in
        let y : left / 256 ≡ 0 = omega arith in
        let e = p.rest ∙ ap (word_text (8 - i)) z ∙ word_none (8 - i) in
        let u = old (omega (arith, ap length e, length-drop i t, long)) in
        done [] e
        (ap (set out (at + i)) u ∙ set-get_or out (at + i) 0 ∙ p.laid.is ∙ ap (sets before at) (sym (append-nil (take i t))))
        (sym (ap (word_text (7 - i)) y ∙ word_none (7 - i)))

-- the last turn is done
pub turned : {before : Bytes} {at word : ℕ} {out : Bytes} {left i : ℕ} (n : ℕ) → Turns before at word out left i → 8 ≤ i → n ≡ length (word_text 8 word) → n ≤ 8
    → Laid before at (word_text 8 word) out (at + n)
turned {before} {at} {word} {i = i} n p end long most =
    record { is = p.laid.is ∙ ap (sets before at) (take_all i (word_text 8 word) (omega arith)); behind = ap (λ (k : ℕ). at + k) long }
