-- Constants in rule code, one after another. Assumes nothing.
use Prim.Native.Nat.{ℕ, zero, suc, ◌+◌, ◌-◌, ◌≤◌, ◌<◌}
use native.Mathlib.Omega.{arith}
use mathlib.Core.Path.{◌≡◌, refl, sym, ap, ap₂, subst, ◌∙◌}
use mathlib.Core.Bool.{Bool, true, false, ◌&&◌}
use mathlib.Core.List.{List, [], ◌∷◌}
use lib.Dec.{eqb, leb}
use lib.ListN.{length, take, drop}
use borrow.Author.Tests.{eq-eqb, ne_eqb, le-leb, lt-leb, leb-true}
use Rattle.std.specs.Prelude.{Option, Some, None, IfSome}
use Rattle.model.specs.Notation.{if◌then◌otherwise◌}
use Rattle.model.specs.Bytes.{Bytes}
use Rattle.model.specs.Block.{byte_at, value_at}
use Rattle.model.proofs.Options.{parts}
use Rattle.text.specs.declared.Words.{Words}
use Rattle.text.specs.Packing.{three_words}
use Rattle.text.specs.Values.{words}
use Rattle.values.specs.declared.Found.{Found}
use Rattle.values.specs.Operands.{Finds, found, onward, int_at, str_at, constant_at, constants_within, constants_from}

-- an int, by the tests of the code
module _ (code : Bytes) (end i : ℕ) where
  pub int-beyond : length code < end → ◌≡◌ {A = Option Found} None (int_at code end i)
  unfolding int_at
  int-beyond h = simp (lt-leb end (length code) h)

  pub int-short : end ≤ length code → end < i + 5 → ◌≡◌ {A = Option Found} None (int_at code end i)
  unfolding int_at
  int-short h l = simp (le-leb end (length code) h, lt-leb (i + 5) end l)

  pub int-whole : end ≤ length code → i + 5 ≤ end → found (words (value_at code (i + 1)) 0 0) (i + 6) ≡ int_at code end i
  unfolding int_at
  int-whole h l = simp (le-leb end (length code) h, le-leb (i + 5) end l)

  -- a str
  pub str-beyond : length code < end → ◌≡◌ {A = Option Found} None (str_at code end i)
  unfolding str_at
  str-beyond h = simp (lt-leb end (length code) h)

  pub str-short : end ≤ length code → end < i + 2 → ◌≡◌ {A = Option Found} None (str_at code end i)
  unfolding str_at
  str-short h l = simp (le-leb end (length code) h, lt-leb (i + 2) end l)

  pub str-long : end ≤ length code → i + 2 ≤ end → 24 < byte_at code (i + 1) → ◌≡◌ {A = Option Found} None (str_at code end i)
  unfolding str_at
  str-long h l m = simp (le-leb end (length code) h, le-leb (i + 2) end l, lt-leb (byte_at code (i + 1)) 24 m)

  pub str-cut : end ≤ length code → i + 2 ≤ end → byte_at code (i + 1) ≤ 24 → end < i + 2 + byte_at code (i + 1) → ◌≡◌ {A = Option Found} None (str_at code end i)
  unfolding str_at
  str-cut h l m n =
      simp (le-leb end (length code) h, le-leb (i + 2) end l, le-leb (byte_at code (i + 1)) 24 m, lt-leb (i + 2 + byte_at code (i + 1)) end n)

  pub str-whole : (n : ℕ) → n ≡ byte_at code (i + 1) → (w : Words) → end ≤ length code → i + 2 ≤ end → n ≤ 24 → i + 2 + n ≤ end
      → w ≡ three_words (take (i + 2 + n - (i + 2)) (drop (i + 2) code)) → found w (i + 2 + n + 1) ≡ str_at code end i
  unfolding str_at
  str-whole n q w h l m o e =
      let a : i + 2 + n - (i + 2) ≡ byte_at code (i + 1) = omega arith in
      let b : i + 2 + n + 1 ≡ i + 3 + byte_at code (i + 1) = omega arith in
      let p : i + 2 + byte_at code (i + 1) ≤ end = omega arith in
      let k : byte_at code (i + 1) ≤ 24 = omega arith in
      ap₂ found (e ∙ ap (λ (k : ℕ). three_words (take k (drop (i + 2) code))) a) b
      ∙ sym (simp (le-leb end (length code) h, le-leb (i + 2) end l, le-leb (byte_at code (i + 1)) 24 k, le-leb (i + 2 + byte_at code (i + 1)) end p))

  -- a constant lies in the code, and the next position behind it
  abbrev Moves : Option Found → Type 0
  Moves r = IfSome r (λ f. (i < length code) × (i < f.next))

  int-moves : Moves (int_at code end i)
  unfolding int_at
  int-moves = go (leb end (length code) && leb (i + 5) end) refl
    where
      go : (t : Bool) → (leb end (length code) && leb (i + 5) end) ≡ t → Moves (if t then found (words (value_at code (i + 1)) 0 0) (i + 6) otherwise None)
      go true e =
          let (a, b) = parts (leb end (length code)) (leb (i + 5) end) e in
          let x = leb-true end (length code) a in
          let y = leb-true (i + 5) end b in
          (omega arith, omega arith)
      go false e = tt

  str-moves : Moves (str_at code end i)
  unfolding str_at
  str-moves = go (leb end (length code) && (leb (i + 2) end && rest)) refl
    where
      n : ℕ
      n = byte_at code (i + 1)

      rest : Bool
      rest = leb n 24 && leb (i + 2 + n) end

      go : (t : Bool) → (leb end (length code) && (leb (i + 2) end && rest)) ≡ t → Moves (if t then found (three_words (take n (drop (i + 2) code))) (i + 3 + n) otherwise None)
      go true e =
          let (a, d) = parts (leb end (length code)) (leb (i + 2) end && rest) e in
          let (b, f) = parts (leb (i + 2) end) rest d in
          let x = leb-true end (length code) a in
          let y = leb-true (i + 2) end b in
          (omega arith, omega arith)
      go false e = tt

module _ (ty : ℕ) (code : Bytes) (end : ℕ) where
  pub as-str : (i : ℕ) → ty ≡ 2 → str_at code end i ≡ constant_at ty code end i
  unfolding constant_at
  as-str i e = sym (ap (λ (t : Bool). if t then str_at code end i otherwise int_at code end i) (eq-eqb ty 2 e))

  pub as_int : (i : ℕ) → (ty ≡ 2 → ⊥) → int_at code end i ≡ constant_at ty code end i
  unfolding constant_at
  as_int i e = sym (ap (λ (t : Bool). if t then str_at code end i otherwise int_at code end i) (ne_eqb ty 2 e))

  moves : (i : ℕ) → Moves code end i (constant_at ty code end i)
  unfolding constant_at
  moves i = go (eqb ty 2)
    where
      go : (t : Bool) → Moves code end i (if t then str_at code end i otherwise int_at code end i)
      go true = str-moves code end i
      go false = int-moves code end i

  -- one step of a walk
  within_step : (n i : ℕ) → constants_within (suc n) ty code end i ≡ onward (constant_at ty code end i) (constants_within n ty code end)
  unfolding constants_within
  within_step n i = refl

  nothing-within : (n i : ℕ) → constant_at ty code end i ≡ None → constants_within n ty code end i ≡ []
  unfolding constants_within
  nothing-within zero i e = refl
  nothing-within (suc n) i e = ap (λ (r : Option Found). onward r (constants_within n ty code end)) e

  at-end : (i : ℕ) → length code ≤ i → constant_at ty code end i ≡ None
  at-end i h = go (constant_at ty code end i) (moves i)
    where
      go : (r : Option Found) → Moves code end i r → r ≡ None
      go None m = refl
      go (Some f) m = absurd (omega arith)

  -- the bound does not matter
  same-within : (n m i : ℕ) → length code - i ≤ n → length code - i ≤ m → constants_within n ty code end i ≡ constants_within m ty code end i
  unfolding constants_within
  same-within zero m i h l = let e = at-end i (omega arith) in sym (nothing-within m i e)
  same-within (suc n) zero i h l = let e = at-end i (omega arith) in nothing-within (suc n) i e
  same-within (suc n) (suc m) i h l = go (constant_at ty code end i) (moves i) (λ k a b. same-within n m k a b)
    where
      go : (r : Option Found) → Moves code end i r
          → ((k : ℕ) → length code - k ≤ n → length code - k ≤ m → constants_within n ty code end k ≡ constants_within m ty code end k)
          → onward r (constants_within n ty code end) ≡ onward r (constants_within m ty code end)
      go None o f = refl
      go (Some x) o f = let (a, b) = o in ap (λ (r : List Words). x.words ∷ r) (f x.next (omega arith) (omega arith))

  pub constants-find : (i : ℕ) (r : Option Found) → r ≡ constant_at ty code end i → Finds (constants_from ty code end) i r
  constants-find i r e = record { so = go r e (subst (Moves code end i) (sym e) (moves i)) }
    where
      go : (r : Option Found) → r ≡ constant_at ty code end i → Moves code end i r → constants_from ty code end i ≡ onward r (constants_from ty code end)
      go None e m = nothing-within (length code - i) i (sym e)
      go (Some x) e m =
          let (a, b) = m in
          let s : length code - i ≡ suc (length code - suc i) = omega arith in
          ap (λ (n : ℕ). constants_within n ty code end i) s ∙ within_step (length code - suc i) i
          ∙ ap (λ (r : Option Found). onward r (constants_within (length code - suc i) ty code end)) (sym e)
          ∙ ap (λ (l : List Words). x.words ∷ l)
          (same-within (length code - suc i) (length code - x.next) x.next (omega arith) (omega arith))

-- those of one type: ints are all that are no strs
module _ (code : Bytes) (end : ℕ) {i : ℕ} {r : Option Found} where
  pub ints-find : r ≡ int_at code end i → Finds (constants_from 1 code end) i r
  ints-find e = constants-find 1 code end i r (e ∙ as_int 1 code end i (λ z. omega arith))

  pub strs-find : r ≡ str_at code end i → Finds (constants_from 2 code end) i r
  strs-find e = constants-find 2 code end i r (e ∙ as-str 2 code end i refl)

module _ (ty : ℕ) (code : Bytes) (end i : ℕ) where
  pub strs-of : ty ≡ 2 → constants_from 2 code end i ≡ constants_from ty code end i
  strs-of e = ap (λ (k : ℕ). constants_from k code end i) (sym e)

  pub ints_of : (ty ≡ 2 → ⊥) → constants_from 1 code end i ≡ constants_from ty code end i
  unfolding constants_within
  ints_of f = go (length code - i) i
    where
      at : (j : ℕ) → constant_at 1 code end j ≡ constant_at ty code end j
      at j = sym (as_int 1 code end j (λ z. omega arith)) ∙ as_int ty code end j f

      onwards : {f g : ℕ → List Words} (r : Option Found) → ((k : ℕ) → f k ≡ g k) → onward r f ≡ onward r g
      onwards None h = refl
      onwards (Some x) h = ap (λ (l : List Words). x.words ∷ l) (h x.next)

      go : (n j : ℕ) → constants_within n 1 code end j ≡ constants_within n ty code end j
      go zero j = refl
      go (suc n) j =
          ap (λ (r : Option Found). onward r (constants_within n 1 code end)) (at j) ∙ onwards (constant_at ty code end j) (λ k. go n k)
