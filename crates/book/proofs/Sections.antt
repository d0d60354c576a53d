-- A section that is written is what was written, and the sections beside it are as they were. Assumes nothing.
use Prim.Native.Nat.{ℕ, zero, suc, ◌+◌, ◌-◌, ◌≤◌}
use mathlib.Core.Path.{◌≡◌, refl, sym, ap, ◌∙◌}
use mathlib.Core.List.{List, [], ◌∷◌, ◌++◌}
use native.Mathlib.Omega.{arith}
use lib.ListN.{length, take, drop, length-drop}
use lib.Seq.{take_at, drop_at, drop-drop, take-take, length-take-le}
use borrow.Rule.Slice.PartMut.{put_mid, take_put, drop_put}
use Rattle.book.specs.Sections.{Section, section_words, book_words}

module _ {X : Type 0} where
  -- what stands at the front does not depend on what stands behind it
  pub front : (n b a : ℕ) (l : List X) → b + n ≤ a → take n (drop b (take a l)) ≡ take n (drop b l)
  front n zero a l h = take-take n a l (omega arith)
  front n (suc b) zero l h = absurd (omega arith)
  front n (suc b) (suc a) [] h = refl
  front n (suc b) (suc a) (x ∷ l) h = front n b a l (omega arith)

  module _ (a k : ℕ) (xs ys : List X) (fits : a + k ≤ length xs) where
    -- the words that were written
    pub mid-inside : length ys ≡ k → take k (drop a (put_mid a k xs ys)) ≡ ys
    mid-inside e =
        ap (take k) (drop_at (take a xs) (ys ++ drop k (drop a xs)) a (length-take-le a xs (omega arith))) ∙ take_at ys (drop k (drop a xs)) k e

    -- n words that stand before them, and n that stand behind
    pub mid-before : (b n : ℕ) → b + n ≤ a → take n (drop b (put_mid a k xs ys)) ≡ take n (drop b xs)
    mid-before b n l =
        sym (front n b a (put_mid a k xs ys) l) ∙ ap (λ (z : List X). take n (drop b z)) (take_put a k xs ys (omega arith)) ∙ front n b a xs l

    pub mid-behind : (b n : ℕ) → length ys ≡ k → a + k ≤ b → take n (drop b (put_mid a k xs ys)) ≡ take n (drop b xs)
    mid-behind b n e l =
        let c : a + k - a ≡ k = omega arith in
        let d : a + k + (b - (a + k)) ≡ b = omega arith in
        let same : drop (a + k) (put_mid a k xs ys) ≡ drop (a + k) xs =
        ap (λ (m : ℕ). drop (a + k) (put_mid a m xs ys)) (sym c) ∙ drop_put a (a + k) xs ys (omega arith) fits (e ∙ sym c) in
        let split : (z : List X) → drop b z ≡ drop (b - (a + k)) (drop (a + k) z) = λ z. ap (λ (m : ℕ). drop m z) (sym d) ∙ sym (drop-drop (b - (a + k)) (a + k) z) in
        ap (take n) (split (put_mid a k xs ys) ∙ ap (drop (b - (a + k))) same ∙ sym (split xs))

-- how many words a section has
pub part-size : (s : Section) (book : List ℕ) → length book ≡ book_words → s.start + s.size ≤ book_words → length (section_words s book) ≡ s.size
part-size s book long fits = length-take-le s.size (drop s.start book) (simp length-drop (omega arith))
