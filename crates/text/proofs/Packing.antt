-- Words of eight bytes tell the bytes, for any number of words. Assumes nothing.
use Prim.Native.Nat.{ℕ, zero, suc, ◌+◌, ◌*◌, ◌^◌, ◌≤◌, ◌<◌}
use mathlib.Core.Path.{◌≡◌, refl, sym, ap, ap₂, ◌∙◌, subst}
use mathlib.Core.Bool.{Bool, true, false, ◌&&◌, ◌||◌}
use mathlib.Core.Logic.{◌⊎◌, inl, inr}
use mathlib.Core.List.{List, [], ◌∷◌, ◌++◌, append_assoc}
use native.Mathlib.Omega.{arith}
use native.Mathlib.Nat.{pow-suc, pow-le-pow_right, lt_of_lt_of_le}
use borrow.Author.Tests.{leb-true, le-leb, eqb-true}
use lib.ListN.{length, get_or, take, drop, take-append-drop, length-drop}
use lib.Seq.{get_or-drop, drop_at}
use lib.Dec.{eqb, leb, lit<}
use Rattle.model.specs.Notation.{all_of}
use Rattle.model.specs.Limits.{name_bytes, text_bytes}
use Rattle.model.specs.Bytes.{Bytes, same, in_range, is_byte}
use Rattle.model.specs.Names.{name_byte, is_name}
use Rattle.model.specs.Atoms.{text_byte, is_text}
use Rattle.model.specs.Block.{number}
use Rattle.model.proofs.WordTables.{same-eq, same_refl}
use Rattle.model.proofs.Options.{parts, both}
use Rattle.model.proofs.Lists.{all-parts, all_cons, all-by, same_truth, or_cases}
use Rattle.model.proofs.Names.{name-all}
use Rattle.text.specs.declared.Packed.{Packed}
use Rattle.text.specs.Packing.{word_bytes, packed, packed_of, packed_at, two_words, three_words, list_of, solid}

-- the number of bytes, on the way from the end of a list to its front
number_bound : (s : Bytes) → ((k : ℕ) → get_or s k 0 < 256) → number s < 256 ^ length s
number_bound [] f = omega arith
number_bound (x ∷ xs) f =
    let h = number_bound xs (λ k. f (suc k)) in
    let x0 = f 0 in
    omega (arith, pow-suc 256 (length xs))

-- what stands behind f is x and what stands behind r, where r is f with x
pub last-byte : (s r f : Bytes) (x : ℕ) → s ≡ r ++ drop (length r) s → r ≡ f ++ x ∷ [] → drop (length f) s ≡ x ∷ drop (length r) s
last-byte s r f x e p =
    let j : s ≡ f ++ x ∷ drop (length r) s = e ∙ ap (λ (l : Bytes). l ++ drop (length r) s) p ∙ append_assoc f (x ∷ []) (drop (length r) s) in
    ap (drop (length f)) j ∙ drop_at f (x ∷ drop (length r) s) (length f) refl

pub before-last : (s r f : Bytes) (x : ℕ) → s ≡ r ++ drop (length r) s → r ≡ f ++ x ∷ [] → s ≡ f ++ drop (length f) s
before-last s r f x e p =
    e ∙ ap (λ (l : Bytes). l ++ drop (length r) s) p ∙ append_assoc f (x ∷ []) (drop (length r) s) ∙ ap (λ (l : Bytes). f ++ l) (sym (last-byte s r f x e p))

pub number_fits : (s : Bytes) (i : ℕ) → length s ≤ 8 → ((k : ℕ) → get_or s k 0 < 256) → number (drop i s) < 2 ^ 64
number_fits s i h f =
    lt_of_lt_of_le (number_bound (drop i s) (λ k. subst (λ (x : ℕ). x < 256) (sym (get_or-drop i s k 0)) (f (i + k))))
    (pow-le-pow_right (lit< tt) {j = 8} (omega (arith, length-drop i s)))

pub solid-range : (x : ℕ) → solid x ≡ true → (1 ≤ x) × (x ≤ 255)
solid-range x e = let (p, q) = parts _ _ e in (leb-true 1 x p, leb-true x 255 q)

range-solid : (x : ℕ) → 1 ≤ x → x ≤ 255 → solid x ≡ true
range-solid x p q = both (le-leb 1 x p) (le-leb x 255 q)

-- bytes of one number are the same bytes
pub number-injective : (s t : Bytes) → all_of solid s ≡ true → all_of solid t ≡ true → number s ≡ number t → s ≡ t
number-injective [] [] p q e = refl
number-injective [] (y ∷ ys) p q e = absurd (omega (arith, (solid-range y (all-parts solid y ys q).0).0))
number-injective (x ∷ xs) [] p q e = absurd (omega (arith, (solid-range x (all-parts solid x xs p).0).0))
number-injective (x ∷ xs) (y ∷ ys) p q e =
    let (px, ps) = all-parts solid x xs p in
    let (qy, qs) = all-parts solid y ys q in
    let bx = solid-range x px in
    let by = solid-range y qy in
    let l : x ≡ y = omega arith in
    let r : number xs ≡ number ys = omega arith in
    let z : xs ≡ ys = number-injective xs ys ps qs r in
    cc

module _ (p : ℕ → Bool) where
  pub all_take : (n : ℕ) (s : Bytes) → all_of p s ≡ true → all_of p (take n s) ≡ true
  all_take zero s e = refl
  all_take (suc n) [] e = refl
  all_take (suc n) (x ∷ s) e = let (h, r) = all-parts p x s e in all_cons p x (take n s) h (all_take n s r)

  pub all_drop : (n : ℕ) (s : Bytes) → all_of p s ≡ true → all_of p (drop n s) ≡ true
  all_drop zero s e = e
  all_drop (suc n) [] e = refl
  all_drop (suc n) (x ∷ s) e = all_drop n s (all-parts p x s e).1

-- bytes of the same words are the same bytes, whatever the number of words
pub packed-injective : (n : ℕ) (s t : Bytes) → all_of solid s ≡ true → all_of solid t ≡ true → length s ≤ word_bytes * n → length t ≤ word_bytes * n
    → packed n s ≡ packed n t → s ≡ t
packed-injective zero [] [] p q h k e = refl
packed-injective zero [] (y ∷ t) p q h k e = absurd (omega arith)
packed-injective zero (x ∷ s) [] p q h k e = absurd (omega arith)
packed-injective zero (x ∷ s) (y ∷ t) p q h k e = absurd (omega arith)
packed-injective (suc n) s t p q h k e =
    let a : number (take word_bytes s) ≡ number (take word_bytes t) = cc in
    let b : packed n (drop word_bytes s) ≡ packed n (drop word_bytes t) = cc in
    let x = number-injective (take word_bytes s) (take word_bytes t) (all_take solid word_bytes s p) (all_take solid word_bytes t q) a in
    let y = packed-injective n (drop word_bytes s) (drop word_bytes t) (all_drop solid word_bytes s p) (all_drop solid word_bytes t q)
    (omega (arith, length-drop word_bytes s)) (omega (arith, length-drop word_bytes t)) b in
    sym (take-append-drop word_bytes s) ∙ ap (λ (l : Bytes). l ++ drop word_bytes s) x ∙ ap (λ (l : Bytes). take word_bytes t ++ l) y ∙ take-append-drop word_bytes t

-- as a test
pub packed-same : (n : ℕ) (s t : Bytes) → all_of solid s ≡ true → all_of solid t ≡ true → length s ≤ word_bytes * n → length t ≤ word_bytes * n
    → same (packed n s) (packed n t) ≡ same s t
packed-same n s t p q h k =
    same_truth (same (packed n s) (packed n t)) (same s t)
    (λ e. rw (packed-injective n s t p q h k (same-eq _ _ e)) (same_refl t))
    (λ e. rw (same-eq s t e) (same_refl (packed n t)))

-- names and texts have such bytes, names fit two words and texts three
in-range : (a b x : ℕ) → 1 ≤ a → b ≤ 255 → (leb a x && leb x b) ≡ true → solid x ≡ true
in-range a b x l h f =
    let (p, q) = parts (leb a x) (leb x b) f in
    let m = leb-true a x p in
    let n = leb-true x b q in
    range-solid x (omega arith) (omega arith)

pub name-solid : (s : Bytes) → is_name s ≡ true → all_of solid s ≡ true
name-solid s e = all-by name_byte solid byte s (name-all s e)
  where
    other : (x : ℕ) → (in_range "a" "z" x ≡ true) ⊎ (in_range "0" "9" x ≡ true) → solid x ≡ true
    other x (inl f) = in-range 97 122 x (omega arith) (omega arith) f
    other x (inr f) = in-range 48 57 x (omega arith) (omega arith) f

    pick : (x : ℕ) → ((in_range "a" "z" x || in_range "0" "9" x) ≡ true) ⊎ (is_byte "_" x ≡ true) → solid x ≡ true
    pick x (inl f) = other x (or_cases _ _ f)
    pick x (inr f) = let k = eqb-true x 95 f in range-solid x (omega arith) (omega arith)

    byte : (x : ℕ) → name_byte x ≡ true → solid x ≡ true
    byte x f = pick x (or_cases _ _ f)

pub name-length : (s : Bytes) → is_name s ≡ true → length s ≤ 12
unfolding is_name
name-length s e = leb-true (length s) 12 (parts (leb 1 (length s)) (leb (length s) name_bytes) (parts (leb 1 (length s) && leb (length s) name_bytes) (all_of name_byte s) e).0).1

pub text-solid : (s : Bytes) → is_text s ≡ true → all_of solid s ≡ true
unfolding is_text
text-solid s e = all-by text_byte solid byte s (parts (leb (length s) text_bytes) (all_of text_byte s) e).1
  where
    byte : (x : ℕ) → text_byte x ≡ true → solid x ≡ true
    byte x f =
        let (g, _) = parts _ _ f in
        let (a, b) = parts _ _ g in
        let l = leb-true 32 x a in
        let h = leb-true x 126 b in
        range-solid x (omega arith) (omega arith)

pub text-length : (s : Bytes) → is_text s ≡ true → length s ≤ 12
unfolding is_text
text-length s e = leb-true (length s) 12 (parts (leb (length s) text_bytes) (all_of text_byte s) e).0

-- two words: names; three: texts
words : (s t : Bytes) → packed_of s ≡ packed_of t → packed 2 s ≡ packed 2 t
words s t e = ap two_words e

pub name-injective : (s t : Bytes) → is_name s ≡ true → is_name t ≡ true → packed_of s ≡ packed_of t → s ≡ t
name-injective s t p q e =
    let h = name-length s p in
    let k = name-length t q in
    packed-injective 2 s t (name-solid s p) (name-solid t q) (omega arith) (omega arith) (words s t e)

pub text-injective : (s t : Bytes) → is_text s ≡ true → is_text t ≡ true → three_words s ≡ three_words t → s ≡ t
text-injective s t p q e =
    let h = text-length s p in
    let k = text-length t q in
    packed-injective 3 s t (text-solid s p) (text-solid t q) (omega arith) (omega arith) (ap list_of e)

-- as tests of the words
pub name-same : (s t : Bytes) → is_name s ≡ true → is_name t ≡ true → same (two_words (packed_of s)) (two_words (packed_of t)) ≡ same s t
name-same s t p q =
    let h = name-length s p in
    let k = name-length t q in
    packed-same 2 s t (name-solid s p) (name-solid t q) (omega arith) (omega arith)

-- two tests of words, and the test of the lists
both_words : (a b c d : ℕ) → (eqb a b && eqb c d) ≡ same (a ∷ c ∷ []) (b ∷ d ∷ [])
both_words a b c d = go (eqb a b) (eqb c d)
  where
    go : (s t : Bool) → (s && t) ≡ elim s as (λ _. Bool) [ true ↦ elim t as (λ _. Bool) [ true ↦ true | false ↦ false ] | false ↦ false ]
    go true true = refl
    go true false = refl
    go false t = refl

-- two words that hold a name are another's where the names are the same
pub named-at : (words : List ℕ) (at : ℕ) (m n : Bytes) {low high : ℕ} → is_name m ≡ true → is_name n ≡ true → packed_of n ≡ record { low = low; high = high }
    → get_or words at 0 ≡ (packed_of m).low → get_or words (at + 1) 0 ≡ (packed_of m).high → packed_at words at low high ≡ same m n
unfolding packed_at
named-at words at m n p q e first second =
    ap₂ (λ (x y : Bool). x && y) (ap₂ eqb first (sym (ap (λ (p : Packed). p.low) e))) (ap₂ eqb second (sym (ap (λ (p : Packed). p.high) e)))
    ∙ both_words (packed_of m).low (packed_of n).low (packed_of m).high (packed_of n).high
    ∙ name-same m n p q

pub text_same : (s t : Bytes) → is_text s ≡ true → is_text t ≡ true → same (list_of (three_words s)) (list_of (three_words t)) ≡ same s t
text_same s t p q =
    let h = text-length s p in
    let k = text-length t q in
    packed-same 3 s t (text-solid s p) (text-solid t q) (omega arith) (omega arith)
