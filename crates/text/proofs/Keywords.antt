-- A table of packed words finds the place of bytes among its words. Assumes nothing.
use Prim.Native.Nat.{ℕ, zero, suc, ◌+◌, ◌*◌, ◌≤◌, ◌<◌}
use mathlib.Core.Path.{◌≡◌, refl, sym, ap, ◌∙◌}
use mathlib.Core.Bool.{Bool, true, false, ◌&&◌}
use mathlib.Core.List.{List, [], ◌∷◌, ◌++◌}
use mathlib.Core.Option as math
use native.Mathlib.Omega.{arith}
use borrow.Author.Tests.{leb-true, eqb-true, eq-eqb, ne_eqb}
use lib.ListN.{length, get_or, drop, length-append}
use lib.Seq.{append_snoc, get_or-append-add}
use lib.Dec.{eqb, leb}
use Rattle.std.specs.Prelude.{option_map}
use Rattle.std.proofs.Common.{Option, Some, None}
use Rattle.std.specs.List.{AllWithin, HoldsAt}
use Rattle.model.specs.Notation.{if◌then◌otherwise◌, all_of, map}
use Rattle.model.specs.Bytes.{Bytes, same, one_of}
use Rattle.model.specs.Block.{number}
use Rattle.model.proofs.WordTables.{false-is-true, none-is-some, one-of-word, same-eq, same_refl}
use Rattle.model.proofs.Options.{parts}
use Rattle.model.proofs.Lists.{all-parts, same_truth}
use Rattle.codes.specs.Enums.{told_by}
use Rattle.text.specs.Packing.{word_bytes, solid}
use Rattle.text.specs.Keywords.{is_keyword, place_from, Keyword}
use Rattle.text.proofs.LoopPlaces.{all-at}
use Rattle.text.proofs.Packing.{solid-range, number-injective}

-- ---- bytes by their number

-- bytes that write 0 are all 0
number-none : (s : Bytes) → number s ≡ 0 → (k : ℕ) → get_or s k 0 ≡ 0
number-none [] e k = refl
number-none (x ∷ s) e zero = omega arith
number-none (x ∷ s) e (suc k) = number-none s (omega arith) k

-- two numbers by their low bytes and what is above
heads : (x y a b : ℕ) → x < 256 → y < 256 → x + 256 * a ≡ y + 256 * b → (x ≡ y) × (a ≡ b)
heads x y a b p q e = (omega arith, omega arith)

-- bytes that end in no 0 are those of a word that has their number
number_word : (s w : Bytes) (n : ℕ) → length s ≡ n + 1 → ((k : ℕ) → get_or s k 0 < 256) → (get_or s n 0 ≡ 0 → ⊥) → all_of solid w ≡ true → number s ≡ number w → s ≡ w
number_word [] w n l b z q e = absurd (omega arith)
number_word (x ∷ s) [] n l b z q e = absurd (z (number-none (x ∷ s) e n))
number_word (x ∷ []) (y ∷ w) n l b z q e =
    let (qy, qs) = all-parts solid y w q in
    let by = solid-range y qy in
    let (h, r) = heads x y 0 (number w) (b 0) (omega arith) e in
    let t : [] ≡ w = number-injective [] w refl qs r in
    cc
number_word (x ∷ u ∷ s) (y ∷ w) zero l b z q e = absurd (omega arith)
number_word (x ∷ u ∷ s) (y ∷ w) (suc n) l b z q e =
    let (qy, qs) = all-parts solid y w q in
    let by = solid-range y qy in
    let (h, r) = heads x y (number (u ∷ s)) (number w) (b 0) (omega arith) e in
    let t : u ∷ s ≡ w = number_word (u ∷ s) w n (omega arith) (λ k. b (suc k)) z qs r in
    cc

-- ---- the first place of a word in a list of words

module _ (w : ℕ) where
  missed : (k : ℕ) (l : List ℕ) → AllWithin (λ x. x ≡ w → ⊥) l 0 (length l) → place_from k (λ x. eqb x w) l ≡ None
  missed k [] f = refl
  missed k (x ∷ l) f = rw (ne_eqb x w (f 0 0 (omega arith) (omega arith))) (missed (k + 1) l (λ j d a b. f (suc j) d (omega arith) (omega arith)))

  found : (k : ℕ) (l : List ℕ) (i : ℕ) → i < length l → get_or l i 0 ≡ w → AllWithin (λ x. x ≡ w → ⊥) l 0 i → place_from k (λ x. eqb x w) l ≡ Some (k + i)
  found k [] i h e f = absurd (omega arith)
  found k (x ∷ l) zero h e f = rw (eq-eqb x w e) (ap Some (omega arith))
  found k (x ∷ l) (suc i) h e f =
      rw (ne_eqb x w (f 0 0 (omega arith) (omega arith)))
      (found (k + 1) l i (omega arith) e (λ j d a b. f (suc j) d (omega arith) (omega arith)) ∙ ap Some (omega arith))

-- ---- places

word-parts : (w : Bytes) → is_keyword w ≡ true → (1 ≤ length w) × (length w ≤ word_bytes) × (all_of solid w ≡ true)
word-parts w e =
    let (sized, all) = parts (leb 1 (length w) && leb (length w) word_bytes) (all_of solid w) e in
    let (some_byte, few) = parts (leb 1 (length w)) (leb (length w) word_bytes) sized in
    (leb-true 1 (length w) some_byte, leb-true (length w) word_bytes few, all)

-- the place of bytes among the words of a table
module _ (table : List ℕ) (s : Bytes) where
  -- bytes that are no word are none of them
  no_word : (is_keyword s ≡ true → ⊥) → Keyword table s None
  no_word other = record { within = tt; place = λ words all e. none_of 1 words all }
    where
      differs : (w : Bytes) → is_keyword w ≡ true → same w s ≡ false
      differs w h = same_truth (same w s) false (λ e. absurd (other (ap is_keyword (sym (same-eq w s e)) ∙ h))) false-is-true

      none_of : (k : ℕ) (words : List Bytes) → all_of is_keyword words ≡ true → None ≡ place_from k (λ w. same w s) words
      none_of k [] e = refl
      none_of k (w ∷ ws) e = let (h, r) = all-parts is_keyword w ws e in rw (differs w h) (none_of (k + 1) ws r)

  pub too_long_lem : word_bytes < length s → Keyword table s None
  too_long_lem h = no_word λ e. omega (arith, (word-parts s e).1)

  pub no_bytes : length s < 1 → Keyword table s None
  no_bytes h = no_word λ e. omega (arith, (word-parts s e).0)

  pub ends-in-zero : (n : ℕ) → n < length s → get_or s n 0 ≡ 0 → Keyword table s None
  ends-in-zero n h z = no_word λ e. omega (arith, (solid-range (get_or s n 0) (all-at solid s (word-parts s e).2 n h)).0)

  -- bytes whose last is not 0 are those of the word that has their number
  module _ (n : ℕ) (long : length s ≡ n + 1) (bounds : (k : ℕ) → get_or s k 0 < 256) (last : get_or s n 0 ≡ 0 → ⊥) where
    word_same : (w : Bytes) → is_keyword w ≡ true → eqb (number w) (number s) ≡ same w s
    word_same w h =
        same_truth (eqb (number w) (number s)) (same w s)
        (λ e. rw (number_word s w n long bounds last (word-parts w h).2 (sym (eqb-true (number w) (number s) e))) (same_refl w))
        (λ e. eq-eqb (number w) (number s) (ap number (same-eq w s e)))

    among : (k : ℕ) (words : List Bytes) → all_of is_keyword words ≡ true → place_from k (λ x. eqb x (number s)) (map number words) ≡ place_from k (λ w. same w s) words
    among k [] e = refl
    among k (w ∷ words) e =
        let (h, r) = all-parts is_keyword w words e in
        let a = word_same w h in
        let b = among (k + 1) words r in
        λ i. if a i then Some k otherwise b i

    -- behind the place of none
    module _ (a w : ℕ) (rest : List ℕ) (whole : table ≡ a ∷ rest) (packed : w ≡ number s) where
      placed : (words : List Bytes) → all_of is_keyword words ≡ true → table ≡ 0 ∷ map number words → place_from 1 (λ x. eqb x w) rest ≡ place_from 1 (λ v. same v s) words
      placed words all e =
          ap (λ (n : ℕ). place_from 1 (λ x. eqb x n) rest) packed ∙ ap (λ (l : List ℕ). place_from 1 (λ x. eqb x (number s)) (drop 1 l)) (sym whole ∙ e) ∙ among 1 words all

      pub keyword-none : AllWithin (λ x. x ≡ w → ⊥) rest 0 (length rest) → Keyword table s None
      keyword-none other = record { within = tt; place = λ words all e. sym (missed w 1 rest other) ∙ placed words all e }

      pub keyword-at : (i : ℕ) → (i < length rest) × HoldsAt (λ x. x ≡ w) rest i × AllWithin (λ x. x ≡ w → ⊥) rest 0 i → Keyword table s (Some (1 + i))
      keyword-at i (h, here, other) =
          record { within = (omega arith, omega (arith, ap length whole)); place = λ words all e. sym (found w 1 rest i h (here 0) other) ∙ placed words all e }

-- ---- numbers

module _ {A : Type 0} (word : A → Bytes) (code : A → ℕ) where
  -- the numbers of a list's elements are k, k + 1 and so on
  abbrev pub counted_from : ℕ → List A → Bool
  counted_from k [] = true
  counted_from k (a ∷ rest) = eqb (code a) k && counted_from (k + 1) rest

  place-number : (s : Bytes) (k : ℕ) (list : List A) → counted_from k list ≡ true → place_from k (λ w. same w s) (map word list) ≡ told_by code (one_of word list s)
  place-number s k [] e = refl
  place-number s k (a ∷ rest) e =
      let (h, r) = parts (eqb (code a) k) (counted_from (k + 1) rest) e in
      go (same (word a) s) (eqb-true (code a) k h) (place-number s (k + 1) rest r)
    where
      go : (t : Bool) → code a ≡ k → place_from (k + 1) (λ w. same w s) (map word rest) ≡ told_by code (one_of word rest s)
          → (if t then Some k otherwise place_from (k + 1) (λ w. same w s) (map word rest))
          ≡ told_by code (elim t as (λ _. math.Option A) [ true ↦ math.some a | false ↦ one_of word rest s ])
      go true n f = ap (λ (j : ℕ). Some j) (sym n)
      go false n f = f

  -- the numbers of a table's words behind k others
  place-code : (s : Bytes) (table : List A) (front : List ℕ) (k : ℕ) → length front ≡ k
      → option_map (λ i. get_or (front ++ map code table) i 0) (place_from k (λ w. same w s) (map word table)) ≡ told_by code (one_of word table s)
  place-code s [] front k e = refl
  place-code s (a ∷ rest) front k e = go (same (word a) s) (place-code s rest (front ++ code a ∷ []) (k + 1) (length-append front (code a ∷ []) ∙ omega arith))
    where
      here : get_or (front ++ code a ∷ map code rest) k 0 ≡ code a
      here = ap (λ (j : ℕ). get_or (front ++ code a ∷ map code rest) j 0) {x = k} {y = length front + 0} (omega arith) ∙ get_or-append-add front (code a ∷ map code rest) 0 0

      go : (b : Bool) → option_map (λ i. get_or ((front ++ code a ∷ []) ++ map code rest) i 0) (place_from (k + 1) (λ w. same w s) (map word rest)) ≡ told_by code (one_of word rest s)
          → option_map (λ i. get_or (front ++ code a ∷ map code rest) i 0) (if b then Some k otherwise place_from (k + 1) (λ w. same w s) (map word rest))
          ≡ told_by code (elim b as (λ _. math.Option A) [ true ↦ math.some a | false ↦ one_of word rest s ])
      go true f = ap (λ (j : ℕ). Some j) here
      go false f = ap (λ (l : List ℕ). option_map (λ i. get_or l i 0) (place_from (k + 1) (λ w. same w s) (map word rest))) (sym (append_snoc front (code a) (map code rest))) ∙ f

  -- a table of the words of a list: where their numbers are counted, a place is a number; else a table of the numbers has it at that place
  module _ {table : List ℕ} {s : Bytes} {r : Option ℕ} (found : Keyword table s r) (list : List A) (all : all_of is_keyword (map word list) ≡ true)
      (packed : table ≡ 0 ∷ map number (map word list)) where
    pub keyword-number : counted_from 1 list ≡ true → r ≡ told_by code (one_of word list s)
    keyword-number counted = found.place (map word list) all packed ∙ place-number s 1 list counted

    pub keyword-code : option_map (λ i. get_or (0 ∷ map code list) i 0) r ≡ told_by code (one_of word list s)
    keyword-code = ap (option_map (λ i. get_or (0 ∷ map code list) i 0)) (found.place (map word list) all packed) ∙ place-code s list (0 ∷ []) 1 refl

-- words found in a list are found in any other list of the same words
pub in-any-order : {A : Type 0} (word : A → Bytes) (l m : List A) → ((a : A) → one_of word l (word a) ≡ math.some a) → ((a : A) → one_of word m (word a) ≡ math.some a)
    → (s : Bytes) → one_of word l s ≡ one_of word m s
in-any-order {A = A} word l m in-l in-m s = go (one_of word l s) refl (one_of word m s) refl
  where
    go : (x : math.Option A) → one_of word l s ≡ x → (y : math.Option A) → one_of word m s ≡ y → x ≡ y
    go (math.some a) e y f = sym (in-m a) ∙ ap (one_of word m) (one-of-word word l s a e) ∙ f
    go math.none e (math.some b) f = none-is-some (sym e ∙ ap (one_of word l) (sym (one-of-word word m s b f)) ∙ in-l b)
    go math.none e math.none f = refl
