-- The entries of a block, one after another, are the values that it gives to an attribute. Assumes nothing.
use Prim.Native.Nat.{ℕ, zero, suc, ◌+◌, ◌-◌, ◌*◌, ◌/◌, ◌^◌, ◌≤◌, ◌<◌}
use native.Mathlib.Nat.{pow-suc}
use native.Mathlib.Omega.{arith}
use mathlib.Core.Path.{◌≡◌, refl, sym, ap, ap₂, subst, ◌∙◌}
use mathlib.Core.Bool.{Bool, true, false}
use mathlib.Core.List.{List, [], ◌∷◌, ◌++◌}
use mathlib.Core.Option.{Option, none, some}
use lib.Dec.{eqb}
use lib.ListN.{length, get_or, take, drop}
use lib.Seq.{get_or-drop, drop-drop}
use borrow.Author.Tests.{eqb-true, eqb-false}
use Rattle.model.specs.Notation.{if◌then◌otherwise◌, map, filter, each, all_of, nth}
use Rattle.model.specs.Limits.{largest_int}
use Rattle.model.specs.Bytes.{Bytes}
use Rattle.model.specs.Attributes.{Source, AtomType}
use Rattle.model.specs.Atoms.{Atom}
use Rattle.model.specs.Declarations.{Attribute, same_source_and_name}
use Rattle.model.specs.Block.{Entry, number, byte_at, value_at, entries_of}
use Rattle.model.specs.Session.{given, entry_value}
use Rattle.model.proofs.Lists.{all_cons, all_append}
use Rattle.codes.specs.Codes.{type_code}
use Rattle.text.specs.declared.Words.{Words}
use Rattle.text.specs.Values.{atom_words}
use Rattle.model.proofs.Declared.{named-eq, eq-named}
use Rattle.values.specs.Operands.{up_from, chosen, entry_words, entries_from}
use Rattle.values.proofs.Chosen.{filter-keep, filter-drop}

-- four bytes are below 2 ^ 32
number-below : (n : ℕ) (s : Bytes) → ((i : ℕ) → get_or s i 0 < 256) → number (take n s) < 256 ^ n
number-below zero s f = omega arith
number-below (suc n) [] f = pow_pos (suc n)
  where
    pow_pos : (m : ℕ) → 0 < 256 ^ m
    pow_pos zero = omega arith
    pow_pos (suc m) = let h = pow_pos m in omega (arith, pow-suc 256 m)
number-below (suc n) (x ∷ s) f =
    let h = number-below n s (λ i. f (suc i)) in
    let l = f 0 in
    omega (arith, pow-suc 256 n)

pub value-small : (s : Bytes) → ((i : ℕ) → get_or s i 0 < 256) → (at : ℕ) → value_at s at ≤ largest_int
value-small s f at =
    let h : number (take 4 (drop at s)) < 4294967296 = number-below 4 (drop at s) (λ i. subst (λ (x : ℕ). x < 256) (sym (get_or-drop at s i 0)) (f (at + i))) in
    omega arith

-- the words of an entry's value
entry-words : (t : AtomType) (v : ℕ) → entry_words (type_code t) v ≡ atom_words (entry_value t v)
entry-words AtomType.int v = refl
entry-words AtomType.str v = refl
entry-words AtomType.bool v = refl

module _ (attributes : List Attribute) (s : Source) (n : Bytes) where
  -- nothing is given to an attribute that is not there
  nothing-given : ((i : ℕ) (b : Attribute) → nth attributes i ≡ some b → same_source_and_name b.source b.name s n ≡ false)
      → (m v : ℕ) → given s n v (nth attributes m) ≡ []
  nothing-given f m v = go (nth attributes m) refl
    where
      go : (o : Option Attribute) → nth attributes m ≡ o → given s n v o ≡ []
      go none e = refl
      go (some b) e = ap (λ (t : Bool). if t then entry_value b.type v ∷ [] otherwise []) (f m b e)

  pub nothing-entered : ((i : ℕ) (b : Attribute) → nth attributes i ≡ some b → same_source_and_name b.source b.name s n ≡ false)
      → (l : List Entry) → each (λ e. given s n e.value (nth attributes e.attribute)) l ≡ []
  nothing-entered f [] = refl
  nothing-entered f (e ∷ l) = ap₂ (λ (x y : List Atom). x ++ y) (nothing-given f e.attribute e.value) (nothing-entered f l)

  module _ (k : ℕ) (a : Attribute) (at : nth attributes k ≡ some a) (has : same_source_and_name a.source a.name s n ≡ true)
      (unique : (i j : ℕ) (b c : Attribute) → nth attributes i ≡ some b → nth attributes j ≡ some c → same_source_and_name b.source b.name c.source c.name ≡ true → i ≡ j) where
    -- an entry gives a value where its number is that of the attribute
    entry-own : (m v : ℕ) → m ≡ k → given s n v (nth attributes m) ≡ entry_value a.type v ∷ []
    entry-own m v e =
        ap (given s n v) (ap (nth attributes) e ∙ at) ∙ ap (λ (t : Bool). if t then entry_value a.type v ∷ [] otherwise []) has

    entry_other : (m v : ℕ) → (m ≡ k → ⊥) → given s n v (nth attributes m) ≡ []
    entry_other m v d = go (nth attributes m) refl
      where
        go : (o : Option Attribute) → nth attributes m ≡ o → given s n v o ≡ []
        go none e = refl
        go (some b) e = named-not (same_source_and_name b.source b.name s n) refl
          where
            named-not : (t : Bool) → same_source_and_name b.source b.name s n ≡ t → (if same_source_and_name b.source b.name s n then entry_value b.type v ∷ [] otherwise []) ≡ []
            named-not false q = ap (λ (t : Bool). if t then entry_value b.type v ∷ [] otherwise []) q
            named-not true q =
                let (u, w) = named-eq b.source b.name s n q in
                let (x, y) = named-eq a.source a.name s n has in
                absurd (d (unique m k b a e at (eq-named b.source b.name a.source a.name (u ∙ sym x) (w ∙ sym y))))

    module _ (entries : Bytes) (bytes : (i : ℕ) → get_or entries i 0 < 256) where
      abbrev gives : Entry → List Atom
      gives e = given s n e.value (nth attributes e.attribute)

      abbrev here : ℕ → Bool
      here j = eqb (byte_at entries (5 * j)) k

      abbrev value : ℕ → Words
      value j = entry_words (type_code a.type) (value_at entries (5 * j + 1))

      -- the entry of number j, as the specification cuts it out
      abbrev entry : ℕ → Entry
      entry j = record { attribute = byte_at (drop (5 * j) entries) 0; value = value_at (drop (5 * j) entries) 1 }

      number_at : (j : ℕ) → byte_at (drop (5 * j) entries) 0 ≡ byte_at entries (5 * j)
      number_at j = let e : 5 * j + 0 ≡ 5 * j = omega arith in get_or-drop (5 * j) entries 0 0 ∙ ap (λ (i : ℕ). get_or entries i 0) e

      value-at : (j : ℕ) → value_at (drop (5 * j) entries) 1 ≡ value_at entries (5 * j + 1)
      value-at j = ap (λ (l : Bytes). number (take 4 l)) (drop-drop 1 (5 * j) entries)

      gives-own : (j : ℕ) → here j ≡ true → gives (entry j) ≡ entry_value a.type (value_at entries (5 * j + 1)) ∷ []
      gives-own j e =
          entry-own (byte_at (drop (5 * j) entries) 0) (value_at (drop (5 * j) entries) 1) (number_at j ∙ eqb-true (byte_at entries (5 * j)) k e)
          ∙ ap (λ (v : ℕ). entry_value a.type v ∷ []) (value-at j)

      gives_other : (j : ℕ) → here j ≡ false → gives (entry j) ≡ []
      gives_other j e =
          entry_other (byte_at (drop (5 * j) entries) 0) (value_at (drop (5 * j) entries) 1) (λ d. eqb-false (byte_at entries (5 * j)) k e (sym (number_at j) ∙ d))

      behind : (j m : ℕ) → entries_of m (drop 5 (drop (5 * j) entries)) ≡ entries_of m (drop (5 * suc j) entries)
      behind j m = let e : 5 * j + 5 ≡ 5 * suc j = omega arith in ap (entries_of m) (drop-drop 5 (5 * j) entries ∙ ap (λ (i : ℕ). drop i entries) e)

      gives_all : (m j : ℕ) → each gives (entries_of (suc m) (drop (5 * j) entries)) ≡ gives (entry j) ++ each gives (entries_of m (drop (5 * suc j) entries))
      gives_all m j = ap (λ (l : List Entry). gives (entry j) ++ each gives l) (behind j m)

      entered_from : (m j : ℕ) → map value (filter here (up_from j m)) ≡ map atom_words (each gives (entries_of m (drop (5 * j) entries)))
      entered_from zero j = refl
      entered_from (suc m) j = go (here j) refl (entered_from m (suc j)) ∙ sym (ap (map atom_words) (gives_all m j))
        where
          go : (t : Bool) → here j ≡ t → map value (filter here (up_from (suc j) m)) ≡ map atom_words (each gives (entries_of m (drop (5 * suc j) entries)))
              → map value (filter here (up_from j (suc m))) ≡ map atom_words (gives (entry j) ++ each gives (entries_of m (drop (5 * suc j) entries)))
          go true e f =
              ap (map value) (filter-keep here j (up_from (suc j) m) e)
              ∙ ap₂ (λ (w : Words) (l : List Words). w ∷ l) (entry-words a.type (value_at entries (5 * j + 1))) f
              ∙ sym (ap (λ (l : List Atom). map atom_words (l ++ each gives (entries_of m (drop (5 * suc j) entries)))) (gives-own j e))
          go false e f =
              ap (map value) (filter-drop here j (up_from (suc j) m) e) ∙ f
              ∙ sym (ap (λ (l : List Atom). map atom_words (l ++ each gives (entries_of m (drop (5 * suc j) entries)))) (gives_other j e))

      -- what is so of each value is so of the atoms
      pub entered-each : (ok : Atom → Bool) → ((v : ℕ) → v ≤ largest_int → ok (entry_value a.type v) ≡ true)
          → (m j : ℕ) → all_of ok (each gives (entries_of m (drop (5 * j) entries))) ≡ true
      entered-each ok f zero j = refl
      entered-each ok f (suc m) j =
          ap (all_of ok) (gives_all m j)
          ∙ all_append ok (gives (entry j)) (each gives (entries_of m (drop (5 * suc j) entries))) (go (here j) refl) (entered-each ok f m (suc j))
        where
          go : (t : Bool) → here j ≡ t → all_of ok (gives (entry j)) ≡ true
          go true e =
              ap (all_of ok) (gives-own j e)
              ∙ all_cons ok (entry_value a.type (value_at entries (5 * j + 1))) [] (f (value_at entries (5 * j + 1)) (value-small entries bytes (5 * j + 1))) refl
          go false e = ap (all_of ok) (gives_other j e)

      pub entered-values : (count : ℕ) → length entries ≡ 5 * count → entries_from entries (type_code a.type) k 0 ≡ map atom_words (each gives (entries_of count entries))
      unfolding entries_from chosen
      entered-values count e =
          let d : length entries / 5 - 0 ≡ count = omega arith in
          ap (λ (m : ℕ). map value (filter here (up_from 0 m))) d ∙ entered_from count 0
