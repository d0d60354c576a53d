-- The layout of the table: holder k's pair p is bit p modulo 64 of word p/64 of the four words from word 4k, and each word is below 2^64. No other
-- list of as many such words has these bits. Assumes nothing.
use Prim.Native.Nat.{ℕ, zero, suc, ◌+◌, ◌*◌, ◌/◌, ◌%◌, ◌^◌, ◌≤◌, ◌<◌}
use mathlib.Core.Path.{◌≡◌, refl, sym, ap, ap₂, ◌∙◌}
use mathlib.Core.Logic.{⊎_elim}
use mathlib.Core.Bool.{Bool, true, false, ◌&&◌}
use mathlib.Core.List.{List, ◌++◌}
use native.Mathlib.Nat.{eq-or-lt_of_le}
use native.Mathlib.Decide.{dec_lt}
use native.Mathlib.Omega.{arith}
use lib.ListN.{length, length-append, length-drop, get_or, take, drop, replicate, get_or-eq_default}
use lib.Seq.{ext_get_or, get_or-take, get_or-drop, take_all, take-append-le, drop-append-le, drop_at}
use Rattle.model.specs.Notation.{if◌then◌otherwise◌, each, below}
use Rattle.model.specs.Limits.{holder_numbers, pair_limit, table_words, word_bits, set_words}
use Rattle.model.specs.Declarations.{Declarations, is_holder, holder_numbers_of}
use Rattle.model.specs.Ties.{Ties, value}
use Rattle.model.specs.Effective.{Has, own, inherited}
use Rattle.model.specs.Table.{word, words_of, effective_set, stored_set, table}
pub use Rattle.model.specs.Table.{set_in}
use Rattle.model.specs.State.{State}
use Rattle.model.proofs.Options.{parts, both}
use Rattle.model.proofs.Lists.{◌∈◌, same_truth, nth-lt, each_below}
use Rattle.model.proofs.Effective.{effective-has}
use Rattle.model.specs.Standing.{Standing}
use Rattle.model.proofs.Standing.{among, holder-below}
use Rattle.model.proofs.BitsOfWords.{bit_of, bit-none, word_lt, word_same, bit_word, same_bits}
use Rattle.model.proofs.Table.{set-length, table-length}

-- "pair p is bit p modulo 64 (0 lowest) of word p/64 of these"
unfoldable pub pair_in : List ℕ → ℕ → ℕ → Bool
pair_in words k p = bit_of (get_or words (set_words * k + p / word_bits) 0) (p % word_bits)

-- ---- lists of four, one after another

module _ (F : ℕ → List ℕ) (four : (k : ℕ) → length (F k) ≡ set_words) where
  length-each : (n : ℕ) → length (each F (below n)) ≡ set_words * n
  length-each zero = refl
  length-each (suc n) =
      ap length (each_below F n) ∙ length-append (each F (below n)) (F n) ∙ next (length (each F (below n))) (length (F n)) (length-each n) (four n)
    where
      next : (a b : ℕ) → a ≡ set_words * n → b ≡ set_words → a + b ≡ set_words * suc n
      next a b e f = omega arith

  -- the list of number k
  set-in-each : (n k : ℕ) → k < n → set_in (each F (below n)) k ≡ F k
  set-in-each zero k h = absurd (omega arith)
  set-in-each (suc n) k h =
      ap (λ (l : List ℕ). set_in l k) (each_below F n) ∙ ⊎_elim last (λ l. before l (set-in-each n k l)) (eq-or-lt_of_le (down k n h))
    where
      down : (k n : ℕ) → k < suc n → k ≤ n
      down k n h = omega arith

      last : k ≡ n → set_in (each F (below n) ++ F n) k ≡ F k
      last e =
          let at : length (each F (below n)) ≡ set_words * k = omega (arith, length-each n) in
          let whole : length (F n) ≤ set_words = omega (arith, four n) in
          ap (take set_words) (drop_at (each F (below n)) (F n) (set_words * k) at) ∙ take_all set_words (F n) whole ∙ ap F (sym e)

      before : k < n → set_in (each F (below n)) k ≡ F k → set_in (each F (below n) ++ F n) k ≡ F k
      before l more =
          let at : set_words * k ≤ length (each F (below n)) = omega (arith, length-each n) in
          let room : set_words ≤ length (drop (set_words * k) (each F (below n))) = omega (arith, length-each n, length-drop (set_words * k) (each F (below n))) in
          ap (take set_words) (drop-append-le (set_words * k) (each F (below n)) (F n) at)
          ∙ take-append-le set_words (drop (set_words * k) (each F (below n))) (F n) room ∙ more

-- ---- the words of a set

-- a fact on each of four
four : (P : ℕ → Type 0) → P 0 → P 1 → P 2 → P 3 → (j : ℕ) → j < set_words → P j
four P a b c d zero h = a
four P a b c d (suc zero) h = b
four P a b c d (suc (suc zero)) h = c
four P a b c d (suc (suc (suc zero))) h = d
four P a b c d (suc (suc (suc (suc j)))) h = absurd (omega arith)

words-at : (f : ℕ → Bool) (j : ℕ) → j < set_words → get_or (words_of f) j 0 ≡ word word_bits (λ i. f (word_bits * j + i))
unfolding words_of
words-at f = four (λ (j : ℕ). get_or (words_of f) j 0 ≡ word word_bits (λ i. f (word_bits * j + i))) refl refl refl refl

-- the numbers of word j's bits
in-word : (f : ℕ → Bool) (p : ℕ) → p < pair_limit → bit_of (get_or (words_of f) (p / word_bits) 0) (p % word_bits) ≡ f p
in-word f p l =
    let e : word_bits * (p / word_bits) + p % word_bits ≡ p = omega arith in
    ap (λ (w : ℕ). bit_of w (p % word_bits)) (words-at f (p / word_bits) (omega arith))
    ∙ bit_word word_bits (λ i. f (word_bits * (p / word_bits) + i)) (p % word_bits) (omega arith) ∙ ap f e

-- sets that agree on the pairs have the same words, and only those
pub words_same : (f g : ℕ → Bool) → ((p : ℕ) → p < pair_limit → f p ≡ g p) → words_of f ≡ words_of g
unfolding words_of
words_same f g e =
    ext_get_or 0 (words_of f) (words_of g) refl
    (λ j l.
    words-at f j l
    ∙ word_same word_bits (λ i. f (word_bits * j + i)) (λ i. g (word_bits * j + i)) (λ i m. e (word_bits * j + i) (omega (arith, l)))
    ∙ sym (words-at g j l))

pub words-told : (f g : ℕ → Bool) → words_of f ≡ words_of g → (p : ℕ) → p < pair_limit → f p ≡ g p
words-told f g e p l = sym (in-word f p l) ∙ ap (λ (s : List ℕ). bit_of (get_or s (p / word_bits) 0) (p % word_bits)) e ∙ in-word g p l

no_words : (j : ℕ) → ◌≡◌ {A = ℕ} (get_or (replicate set_words 0) j 0) 0
no_words zero = refl
no_words (suc zero) = refl
no_words (suc (suc zero)) = refl
no_words (suc (suc (suc zero))) = refl
no_words (suc (suc (suc (suc j)))) = refl

-- ---- the table

module _ (D : Declarations) (T : Ties) where
  -- its four words from word 4k are the stored set of k
  pub set-in-table : (k : ℕ) → k < holder_numbers D.edition → set_in (table D T) k ≡ stored_set D T k
  unfolding table
  set-in-table k h = set-in-each (stored_set D T) (set-length D T) (holder_numbers D.edition) k h

  word-in-table : (k j : ℕ) → k < holder_numbers D.edition → j < set_words → get_or (table D T) (set_words * k + j) 0 ≡ get_or (stored_set D T k) j 0
  word-in-table k j h l =
      sym (get_or-take set_words (drop (set_words * k) (table D T)) j 0 l ∙ get_or-drop (set_words * k) (table D T) j 0)
      ∙ ap (λ (s : List ℕ). get_or s j 0) (set-in-table k h)

  -- "pair p is bit p modulo 64 (0 lowest) of word p/64": whether it is effective for holder k. Unused words have no bit
  pub layout : (k p : ℕ) → k < holder_numbers D.edition → p < pair_limit → pair_in (table D T) k p ≡ (is_holder D k && effective_set D T k p)
  unfolding pair_in stored_set
  layout k p h l = ap (λ (w : ℕ). bit_of w (p % word_bits)) (word-in-table k (p / word_bits) h (omega arith)) ∙ go (is_holder D k)
    where
      go : (b : Bool) → bit_of (get_or (if b then words_of (effective_set D T k) otherwise replicate set_words 0) (p / word_bits) 0) (p % word_bits)
          ≡ (b && effective_set D T k p)
      go true = in-word (effective_set D T k) p l
      go false = ap (λ (w : ℕ). bit_of w (p % word_bits)) (no_words (p / word_bits)) ∙ bit-none (p % word_bits)

  -- "words of 64 bits"
  pub word_bound : (n : ℕ) → get_or (table D T) n 0 < 2 ^ word_bits
  unfolding stored_set
  word_bound n = go (dec_lt n (table_words D.edition))
    where
      stored : (k j : ℕ) → j < set_words → (b : Bool) → get_or (if b then words_of (effective_set D T k) otherwise replicate set_words 0) j 0 < 2 ^ word_bits
      stored k j l true = rw (words-at (effective_set D T k) j l) (word_lt word_bits (λ i. effective_set D T k (word_bits * j + i)))
      stored k j l false = rw (no_words j) (omega arith)

      go : Dec (n < table_words D.edition) → get_or (table D T) n 0 < 2 ^ word_bits
      go (yes h) =
          let at : set_words * (n / set_words) + n % set_words ≡ n = omega arith in
          let e = word-in-table (n / set_words) (n % set_words) (omega arith) (omega arith) in
          rw (← at, e) (stored (n / set_words) (n % set_words) (omega arith) (is_holder D (n / set_words)))
      go (no h) =
          let past : length (table D T) ≤ n = omega (arith, table-length D T) in
          rw (get_or-eq_default (table D T) 0 past) (omega arith)

-- ---- a list of words is known by its pairs

word-known : (m : ℕ) (t u : List ℕ) (n : ℕ) → n < set_words * m → get_or t n 0 < 2 ^ word_bits → get_or u n 0 < 2 ^ word_bits
    → ((k p : ℕ) → k < m → p < pair_limit → pair_in t k p ≡ pair_in u k p) → get_or t n 0 ≡ get_or u n 0
unfolding pair_in
word-known m t u n h a b e =
    same_bits word_bits (get_or t n 0) (get_or u n 0) a b
    (λ i l.
    let at : set_words * (n / set_words) + (word_bits * (n % set_words) + i) / word_bits ≡ n = omega arith in
    let bit : (word_bits * (n % set_words) + i) % word_bits ≡ i = omega arith in
    sym (ap₂ (λ (x y : ℕ). bit_of (get_or t x 0) y) at bit)
    ∙ e (n / set_words) (word_bits * (n % set_words) + i) (omega arith) (omega arith)
    ∙ ap₂ (λ (x y : ℕ). bit_of (get_or u x 0) y) at bit)

-- "exactly 1,024 words of 64 bits", four for each of m holders
pub record TableWords (m : ℕ) (t : List ℕ) : Type 0 where
  pub how-many : length t ≡ set_words * m
  pub bound : (n : ℕ) → get_or t n 0 < 2 ^ word_bits

pub table-words : (D : Declarations) (T : Ties) → TableWords (holder_numbers D.edition) (table D T)
table-words D T = record { how-many = table-length D T; bound = word_bound D T }

-- two such lists that hold the same pairs are the same
pub same-pairs : (m : ℕ) (t u : List ℕ) → TableWords m t → TableWords m u → ((k p : ℕ) → k < m → p < pair_limit → pair_in t k p ≡ pair_in u k p) → t ≡ u
same-pairs m t u a b e =
    ext_get_or 0 t u (a.how-many ∙ sym b.how-many) (λ n l. word-known m t u n (omega (arith, l, a.how-many)) (a.bound n) (b.bound n) e)

-- ---- on a state that stands no one else has a pair

module _ {S : State} (standing : Standing S) where
  abbrev holders : List ℕ
  holders = holder_numbers_of S.declared

  has-pair : {p h : ℕ} → Has S.ties p h → p < length S.declared.pairs
  has-pair {p} (own {h = h} e) = nth-lt S.declared.pairs p (standing.ties-fit (value h p) e).pair_is
  has-pair (inherited e c) = has-pair c

  has-holder : {p h : ℕ} → Has S.ties p h → h ∈ holders
  has-holder {p} (own {h = h} e) = (among standing).valued h p e
  has-holder (inherited {g = g} {h = h} e c) = (among standing).lower h g e

  has : (k p : ℕ) → effective_set S.declared S.ties k p ≡ true → Has S.ties p k
  unfolding effective_set
  has k p e = (effective-has holders S.ties (among standing) standing.acyclic k p).0 e

  -- an effective pair is declared, and so is its holder
  pub pair-declared : (k p : ℕ) → effective_set S.declared S.ties k p ≡ true → p < length S.declared.pairs
  pair-declared k p e = has-pair (has k p e)

  pub holder-declared : (k p : ℕ) → effective_set S.declared S.ties k p ≡ true → is_holder S.declared k ≡ true
  holder-declared k p e = holder-below S.declared k (has-holder (has k p e))

  -- so the bits of the table are the effective pairs
  pub standing-layout : (k p : ℕ) → k < holder_numbers S.declared.edition → p < pair_limit
      → pair_in (table S.declared S.ties) k p ≡ effective_set S.declared S.ties k p
  standing-layout k p h l =
      layout S.declared S.ties k p h l
      ∙ same_truth (is_holder S.declared k && effective_set S.declared S.ties k p) (effective_set S.declared S.ties k p)
      (λ e. (parts (is_holder S.declared k) (effective_set S.declared S.ties k p) e).1) (λ e. both (holder-declared k p e) e)

  -- and no other list of such words has these bits
  pub only-table : (t : List ℕ) → TableWords (holder_numbers S.declared.edition) t → ((k p : ℕ) → k < holder_numbers S.declared.edition → p < pair_limit → pair_in t k p ≡ effective_set S.declared S.ties k p)
      → t ≡ table S.declared S.ties
  only-table t fit e =
      same-pairs (holder_numbers S.declared.edition) t (table S.declared S.ties) fit (table-words S.declared S.ties) (λ k p h l. e k p h l ∙ sym (standing-layout k p h l))
