-- The constants that stand in rule code, parted by commas, are what their operand stands for. Assumes nothing.
use Prim.Native.Nat.{ℕ, suc, ◌+◌, ◌-◌, ◌≤◌, ◌<◌}
use native.Mathlib.Omega.{arith}
use native.Mathlib.Decide.{ℕ_discrete}
use mathlib.Core.Path.{◌≡◌, refl, sym, ap, ap₂, ◌∙◌}
use mathlib.Core.Bool.{true}
use mathlib.Core.List.{List, [], ◌∷◌, ◌++◌, append_assoc}
use mathlib.Core.Option.{some, some-injective}
use lib.Dec.{eqb}
use lib.ListN.{length, get_or, take, drop, length-append, length-drop}
use lib.Seq.{get_or-drop, drop-drop, drop_at, take_at}
use borrow.Author.Tests.{eqb-true, eq-eqb, leb-true}
use Rattle.model.specs.Notation.{map, each, all_of}
use Rattle.model.specs.Limits.{largest_int}
use Rattle.model.specs.Bytes.{Bytes}
use Rattle.model.specs.Atoms.{Atom, type_of, is_atom}
use Rattle.model.specs.Block.{number, byte_at, value_at}
use Rattle.model.specs.Declarations.{Declarations}
use Rattle.model.specs.Tokens.{Token, Mark, as_constant}
use Rattle.model.specs.Grammar.{Items}
use Rattle.model.proofs.WordTables.{none-is-some}
use Rattle.model.proofs.Lists.{all-parts, all_cons}
use Rattle.codes.specs.Codes.{type_code}
use Rattle.text.specs.declared.Words.{Words}
use Rattle.text.specs.Packing.{three_words}
use Rattle.text.specs.Values.{words, atom_words}
use Rattle.text.proofs.Packing.{text-length}
use Rattle.tokens.specs.RuleCode.{low_bytes, encode_token}
use Rattle.std.specs.Prelude.{None}
use Rattle.values.specs.Operands.{Lent, Stands, operand, values_from, first_of, found, constant_at, constants_from}
use Rattle.values.proofs.Constants.{int-short, int-whole, str-short, str-whole, as_int, as-str, constants-find}

-- four bytes of an int
low-number : (n : ℕ) → n ≤ largest_int → number (low_bytes 4 n) ≡ n
low-number n h = omega arith

module _ (D : Declarations) (ty : ℕ) (code : Bytes) (end : ℕ) (within : end ≤ length code) where
  byte-in : (i j : ℕ) (l : Bytes) → drop i code ≡ l → byte_at code (i + j) ≡ get_or l j 0
  byte-in i j l e = sym (get_or-drop i code j 0) ∙ ap (λ (s : Bytes). get_or s j 0) e

  drop-in : (i j : ℕ) (l : Bytes) → drop i code ≡ l → drop (i + j) code ≡ drop j l
  drop-in i j l e = sym (drop-drop j i code) ∙ ap (drop j) e

  -- a constant, by its token
  one : (t : Token) (a : Atom) → as_constant t ≡ some a → type_code (type_of a) ≡ ty → is_atom a ≡ true → (i : ℕ) (tail : Bytes)
      → drop i code ≡ encode_token D t ++ tail → i + length (encode_token D t) ≤ end → constant_at ty code end i ≡ found (atom_words a) (i + length (encode_token D t) + 1)
  one (Token.int n) a e k w i tail d h =
      let q : Atom.int n ≡ a = some-injective (Atom.int n) a e in
      let t : ty ≡ 1 = sym k ∙ ap (λ (x : Atom). type_code (type_of x)) (sym q) in
      let small : n ≤ largest_int = leb-true n largest_int (ap is_atom q ∙ w) in
      let v : value_at code (i + 1) ≡ n = ap (λ (l : Bytes). number (take 4 l)) (drop-in i 1 (encode_token D (Token.int n) ++ tail) d) ∙ low-number n small in
      let next : i + 6 ≡ i + 5 + 1 = omega arith in
      sym (as_int ty code end i (λ z. omega arith))
      ∙ sym (int-whole code end i within h)
      ∙ ap₂ found (ap (λ (m : ℕ). words m 0 0) v ∙ ap atom_words q) next
  one (Token.str s) a e k w i tail d h =
      let q : Atom.str s ≡ a = some-injective (Atom.str s) a e in
      let t : ty ≡ 2 = sym k ∙ ap (λ (x : Atom). type_code (type_of x)) (sym q) in
      let short : length s ≤ 12 = text-length s (ap is_atom q ∙ w) in
      let n : byte_at code (i + 1) ≡ length s = byte-in i 1 (encode_token D (Token.str s) ++ tail) d in
      let text : take (i + 2 + byte_at code (i + 1) - (i + 2)) (drop (i + 2) code) ≡ s =
      (let z : i + 2 + byte_at code (i + 1) - (i + 2) ≡ length s = omega arith in
      ap₂ take z (drop-in i 2 (encode_token D (Token.str s) ++ tail) d) ∙ take_at s tail (length s) refl) in
      let l : i + 2 ≤ end = omega arith in
      let fits : byte_at code (i + 1) ≤ 24 = omega arith in
      let past : i + 2 + byte_at code (i + 1) ≤ end = omega arith in
      let next : i + 2 + byte_at code (i + 1) + 1 ≡ i + suc (suc (length s)) + 1 = omega arith in
      sym (as-str ty code end i t)
      ∙ sym (str-whole code end i (byte_at code (i + 1)) refl (three_words (take (i + 2 + byte_at code (i + 1) - (i + 2)) (drop (i + 2) code))) within l fits past refl)
      ∙ ap₂ found (ap three_words text ∙ ap atom_words q) next
  one (Token.name s n) a e k w i tail d h = none-is-some e
  one (Token.truth t) a e k w i tail d h = none-is-some e
  one (Token.operator o) a e k w i tail d h = none-is-some e
  one (Token.mark m) a e k w i tail d h = none-is-some e

  -- no constant begins behind the end
  pub none-behind : (i : ℕ) → end < i → constants_from ty code end i ≡ []
  none-behind i h = go (ℕ_discrete ty 2)
    where
      no_more : constant_at ty code end i ≡ None → constants_from ty code end i ≡ []
      no_more e = (constants-find ty code end i None (sym e)).so

      go : Dec (ty ≡ 2) → constants_from ty code end i ≡ []
      go (yes e) = no_more (sym (as-str ty code end i e) ∙ sym (str-short code end i within (omega arith)))
      go (no n) = no_more (sym (as_int ty code end i n) ∙ sym (int-short code end i within (omega arith)))

  -- the values from a constant on: its own, and those from the place on where the next one begins
  pub step : (t : Token) (a : Atom) → as_constant t ≡ some a → type_code (type_of a) ≡ ty → is_atom a ≡ true → (i : ℕ) (tail : Bytes)
      → drop i code ≡ encode_token D t ++ tail → i + length (encode_token D t) ≤ end
      → constants_from ty code end i ≡ atom_words a ∷ constants_from ty code end (i + length (encode_token D t) + 1)
  step t a e k w i tail d h =
      (constants-find ty code end i (found (atom_words a) (i + length (encode_token D t) + 1)) (sym (one t a e k w i tail d h))).so

  -- constants parted by commas
  items : {ts : List Token} {l : List Atom} → Items ts l → all_of (λ a. eqb (type_code (type_of a)) ty) l ≡ true → all_of is_atom l ≡ true → (i : ℕ) (rest : Bytes)
      → drop i code ≡ each (encode_token D) ts ++ rest → end ≡ i + length (each (encode_token D) ts) → constants_from ty code end i ≡ map atom_words l
  items (Items.last {t} {a} e) k w i rest d h =
      let (typed, more) = all-parts (λ x. eqb (type_code (type_of x)) ty) a [] k in
      let (written, others) = all-parts is_atom a [] w in
      let long : length (encode_token D t ++ []) ≡ length (encode_token D t) + 0 = length-append (encode_token D t) [] in
      step t a e (eqb-true (type_code (type_of a)) ty typed) written i ([] ++ rest) (d ∙ append_assoc (encode_token D t) [] rest) (omega arith)
      ∙ ap (λ (m : List Words). atom_words a ∷ m) (none-behind (i + length (encode_token D t) + 1) (omega arith))
  items (Items.next {t} {a} {ts} {l} e items-after) k w i rest d h =
      let (typed, more) = all-parts (λ x. eqb (type_code (type_of x)) ty) a l k in
      let (written, others) = all-parts is_atom a l w in
      let comma : Bytes = encode_token D (Token.mark Mark.comma) in
      let front : drop i code ≡ encode_token D t ++ ((comma ++ each (encode_token D) ts) ++ rest) = d ∙ append_assoc (encode_token D t) (comma ++ each (encode_token D) ts) rest in
      let long : length (encode_token D t ++ (comma ++ each (encode_token D) ts)) ≡ length (encode_token D t) + suc (length (each (encode_token D) ts)) =
      length-append (encode_token D t) (comma ++ each (encode_token D) ts) in
      let behind : drop (i + length (encode_token D t) + 1) code ≡ each (encode_token D) ts ++ rest =
      drop-in (i + length (encode_token D t)) 1 ((comma ++ each (encode_token D) ts) ++ rest)
      (drop-in i (length (encode_token D t)) (encode_token D t ++ ((comma ++ each (encode_token D) ts) ++ rest)) front
      ∙ drop_at (encode_token D t) ((comma ++ each (encode_token D) ts) ++ rest) (length (encode_token D t)) refl) in
      step t a e (eqb-true (type_code (type_of a)) ty typed) written i ((comma ++ each (encode_token D) ts) ++ rest) front (omega arith)
      ∙ ap (λ (m : List Words). atom_words a ∷ m)
      (items items-after more others (i + length (encode_token D t) + 1) rest behind (omega arith))

-- the operand of the constants from `start` up to `end` stands for them, where the code there is that of their tokens
pub constants-stand : (D : Declarations) (L : Lent) (ty start end : ℕ) {ts : List Token} {l : List Atom} (rest : Bytes) → Items ts l
    → all_of (λ a. eqb (type_code (type_of a)) ty) l ≡ true → all_of is_atom l ≡ true
    → drop start L.code ≡ each (encode_token D) ts ++ rest → end ≡ start + length (each (encode_token D) ts) → Stands L (operand ty 2 start end) l
unfolding values_from first_of
constants-stand D L ty start end {ts} {l} rest i k w d h =
    record { coded = items D ty L.code end within i k w start rest d h; typed = k; written = w }
  where
    some_byte : {ts : List Token} {l : List Atom} → Items ts l → 1 ≤ length (each (encode_token D) ts)
    some_byte (Items.last {t} e) = omega arith
    some_byte (Items.next {t} e j) = omega arith

    within : end ≤ length L.code
    within =
        let a : length (drop start L.code) ≡ length (each (encode_token D) ts) + length rest = ap length d ∙ length-append (each (encode_token D) ts) rest in
        let b : length (drop start L.code) ≡ length L.code - start = length-drop start L.code in
        let c : 1 ≤ length (each (encode_token D) ts) = some_byte i in
        omega arith

-- "A constant is a set of one."
pub constant-stands : (D : Declarations) (L : Lent) (start end : ℕ) (t : Token) (a : Atom) (rest : Bytes) → as_constant t ≡ some a → is_atom a ≡ true
    → drop start L.code ≡ encode_token D t ++ rest → end ≡ start + length (encode_token D t) → Stands L (operand (type_code (type_of a)) 2 start end) (a ∷ [])
constant-stands D L start end t a rest e w d h =
    let long : length (encode_token D t ++ []) ≡ length (encode_token D t) + 0 = length-append (encode_token D t) [] in
    constants-stand D L (type_code (type_of a)) start end rest (Items.last {t = t} {a = a} e)
    (all_cons (λ x. eqb (type_code (type_of x)) (type_code (type_of a))) a [] (eq-eqb (type_code (type_of a)) (type_code (type_of a)) refl) refl)
    (all_cons is_atom a [] w refl)
    (d ∙ sym (append_assoc (encode_token D t) [] rest)) (omega arith)
