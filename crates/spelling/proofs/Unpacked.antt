-- The words of a packed name and of a packed string give its bytes back. Assumes nothing.
use Prim.Native.Nat.{ℕ, zero, suc, ◌/◌, ◌%◌, ◌≤◌}
use mathlib.Core.Path.{◌≡◌, ap, ap₂, ◌∙◌}
use mathlib.Core.Bool.{true}
use mathlib.Core.List.{[], ◌∷◌, ◌++◌, append_assoc}
use native.Mathlib.Omega.{arith}
use lib.ListN.{length, take, drop, take-append-drop, length-drop, length-take}
use lib.Seq.{take_all}
use Rattle.model.specs.Notation.{all_of}
use Rattle.model.specs.Bytes.{Bytes}
use Rattle.model.specs.Names.{is_name}
use Rattle.model.specs.Atoms.{is_text}
use Rattle.model.specs.Block.{number}
use Rattle.model.proofs.Lists.{all-parts}
use Rattle.text.specs.Packing.{packed_of, three_words, solid}
use Rattle.text.proofs.Packing.{solid-range, name-solid, name-length, text-solid, text-length, all_take, all_drop}
use Rattle.output.specs.Laid.{word_text}
use Rattle.output.proofs.PackedWords.{word_more, word_none}

-- a packed text, unpacked
pub word_back : (n : ℕ) (s : Bytes) → all_of solid s ≡ true → length s ≤ n → word_text n (number s) ≡ s
word_back n [] h l = word_none n
word_back zero (x ∷ s) h l = absurd (omega arith)
word_back (suc n) (x ∷ s) h l =
    let (a, b) = all-parts solid x s h in
    let (p, q) = solid-range x a in
    let e : number (x ∷ s) % 256 ≡ x = omega arith in
    let f : number (x ∷ s) / 256 ≡ number s = omega arith in
    word_more n (number (x ∷ s)) (λ z. omega arith) ∙ ap₂ (λ (y m : ℕ). y ∷ word_text n m) e f ∙ ap (λ (t : Bytes). x ∷ t) (word_back n s b (omega arith))

-- the first word of a text
first_back : (s : Bytes) → all_of solid s ≡ true → word_text 8 (number (take 8 s)) ≡ take 8 s
first_back s h = let l : length (take 8 s) ≤ 8 = omega (arith, length-take 8 s) in word_back 8 (take 8 s) (all_take solid 8 s h) l

-- a text in two words
two_back : (s : Bytes) → all_of solid s ≡ true → length s ≤ 16 → word_text 8 (packed_of s).low ++ word_text 8 (packed_of s).high ≡ s
two_back s h l =
    ap₂ (λ (x y : Bytes). x ++ y) (first_back s h) (first_back (drop 8 s) (all_drop solid 8 s h))
    ∙ ap (λ (y : Bytes). take 8 s ++ y) (take_all 8 (drop 8 s) (omega (arith, length-drop 8 s)))
    ∙ take-append-drop 8 s

-- a name's two words
pub name_back : (n : Bytes) → is_name n ≡ true → word_text 8 (packed_of n).low ++ word_text 8 (packed_of n).high ≡ n
name_back n h = let l = name-length n h in two_back n (name-solid n h) (omega arith)

-- a string's three words
pub string-back : (s : Bytes) → is_text s ≡ true
    → (word_text 8 (three_words s).first ++ word_text 8 (three_words s).second) ++ word_text 8 (three_words s).third ≡ s
string-back s h =
    let f = text-solid s h in
    let l = text-length s h in
    append_assoc (word_text 8 (three_words s).first) (word_text 8 (three_words s).second) (word_text 8 (three_words s).third)
    ∙ ap₂ (λ (x y : Bytes). x ++ y) (first_back s f) (two_back (drop 8 s) (all_drop solid 8 s f) (omega (arith, length-drop 8 s)))
    ∙ take-append-drop 8 s
