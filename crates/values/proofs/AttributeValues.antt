-- The values of an attribute, in the session's words and in the entries. Assumes nothing.
use Prim.Native.Nat.{ℕ, ◌+◌, ◌-◌, ◌*◌, ◌/◌, ◌≤◌, ◌<◌}
use native.Mathlib.Omega.{arith}
use mathlib.Core.Path.{◌≡◌, sym, ap, ◌∙◌}
use mathlib.Core.List.{List, [], ◌∷◌}
use lib.Dec.{eqb}
use lib.ListN.{length, take, drop, length-take, length-drop}
use borrow.Author.Tests.{eq-eqb, ne_eqb, lt-ltb, le-ltb, le-leb, lt-leb}
use Rattle.std.specs.Prelude.{Option, Some, None}
use Rattle.model.specs.Bytes.{Bytes}
use Rattle.model.specs.Block.{byte_at, value_at}
use Rattle.bits.specs.Bits.{holds}
use Rattle.bits.specs.Lowest.{FirstFrom}
use Rattle.bits.proofs.Sets.{member-part}
use Rattle.values.specs.declared.Operand.{Operand}
use Rattle.values.specs.Operands.{Lent, constants_from, values_from, first_of, operand_values, chosen, First, Finds, FirstPair, found_by, pair_words, words_from, entry_words, entries_from}
use Rattle.values.proofs.Chosen.{found-none, found_some, finds-by, finds-first}
use Rattle.values.proofs.Constants.{strs-of, ints_of}

-- ---- the session's words

module _ (session : List ℕ) (k i : ℕ) where
  pub no_words : 32 ≤ k → FirstPair session k i None
  unfolding words_from
  no_words h = record { within = tt; finds = λ pairs. record { so = rw (le-ltb k 32 h) } }

  module _ (h : k < 32) (long : length session ≡ 128) (p : ℕ) (first : FirstFrom (take (4 * k + 4 - 4 * k) (drop (4 * k) session)) i p) where
    four-long : length (take (4 * k + 4 - 4 * k) (drop (4 * k) session)) ≡ 4
    four-long = simp (length-take, length-drop) (omega arith)

    words-so : (pairs : List ℕ) (j : ℕ) → words_from pairs session k j ≡ chosen (holds session k) (pair_words pairs) 256 j
    unfolding words_from
    words-so pairs j = rw (lt-ltb k 32 h)

    by-first : (r : Option ℕ) → First (holds session k) 256 i r → (pairs : List ℕ) → Finds (words_from pairs session k) i (found_by (pair_words pairs) r)
    by-first r f pairs =
        finds-by (words_from pairs session k) (chosen (holds session k) (pair_words pairs) 256) (words-so pairs) i (found_by (pair_words pairs) r)
        (finds-first (holds session k) (pair_words pairs) 256 i r f)

    pub first-pair : p < 256 → FirstPair session k i (Some p)
    first-pair l =
        let (a, b) = first.held (omega (arith, four-long)) in
        record { within = l; finds = by-first (Some p) (record { lower = λ j m n. sym (member-part session k j (omega arith)) ∙ first.lower j m n; held = (a, l, sym (member-part session k p l) ∙ b) }) }

    pub no-pair : 256 ≤ p → FirstPair session k i None
    no-pair l = record { within = tt; finds = by-first None (record { lower = λ j m n. sym (member-part session k j n) ∙ first.lower j m (omega arith); held = tt }) }

-- ---- the entries

pub entry-finds : (entries : Bytes) (ty k i : ℕ) (r : Option ℕ) → First (λ n. eqb (byte_at entries (5 * n)) k) (length entries / 5) i r
    → Finds (entries_from entries ty k) i (found_by (λ n. entry_words ty (value_at entries (5 * n + 1))) r)
unfolding entries_from
entry-finds entries ty k i r first =
    finds-first (λ n. eqb (byte_at entries (5 * n)) k) (λ n. entry_words ty (value_at entries (5 * n + 1))) (length entries / 5) i r first

module _ (entries : Bytes) (ty k i : ℕ) (r : Option ℕ) (first : First (λ n. eqb (byte_at entries (5 * n)) k) (length entries / 5) i r) where
  pub entries-none : r ≡ None → entries_from entries ty k i ≡ []
  entries-none e = found-none (entry-finds entries ty k i r first) (ap (found_by (λ n. entry_words ty (value_at entries (5 * n + 1)))) e)

  pub entries-some : {j : ℕ} → r ≡ Some j → entries_from entries ty k i ≡ entry_words ty (value_at entries (5 * j + 1)) ∷ entries_from entries ty k (j + 1)
  entries-some e = found_some (entry-finds entries ty k i r first) (ap (found_by (λ n. entry_words ty (value_at entries (5 * n + 1)))) e)

-- ---- an operand's place

module _ (L : Lent) (o : Operand) where
  pub session-values : o.place ≡ 0 → words_from L.pairs L.session o.start 0 ≡ operand_values L o
  unfolding values_from first_of
  session-values e = sym (rw (le-leb o.place 1 (omega arith), eq-eqb o.place 0 e))

  pub block-values : o.place ≡ 1 → entries_from L.entries o.ty o.start 0 ≡ operand_values L o
  unfolding values_from first_of
  block-values e =
      let n : o.place ≡ 0 → ⊥ = λ z. omega arith in
      sym (rw (le-leb o.place 1 (omega arith), ne_eqb o.place 0 n, eq-eqb o.place 1 e))

  pub code-values : (o.place ≡ 0 → ⊥) → (o.place ≡ 1 → ⊥) → constants_from o.ty L.code o.end o.start ≡ operand_values L o
  unfolding values_from first_of
  code-values n m = sym (rw (lt-leb o.place 1 (omega arith), ne_eqb o.place 0 n, ne_eqb o.place 1 m))

  -- by type
  pub str_values : (o.place ≡ 0 → ⊥) → (o.place ≡ 1 → ⊥) → o.ty ≡ 2 → constants_from 2 L.code o.end o.start ≡ operand_values L o
  str_values n m e = strs-of o.ty L.code o.end o.start e ∙ code-values n m

  pub int-values : (o.place ≡ 0 → ⊥) → (o.place ≡ 1 → ⊥) → (o.ty ≡ 2 → ⊥) → constants_from 1 L.code o.end o.start ≡ operand_values L o
  int-values n m e = ints_of o.ty L.code o.end o.start e ∙ code-values n m
