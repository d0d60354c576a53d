-- The numbers of an atom tell the atom.
use Prim.Native.Nat.{ℕ, ◌≤◌}
use mathlib.Core.Path.{◌≡◌, refl, ap}
use mathlib.Core.Bool.{Bool, true, false}
use native.Mathlib.Omega.{arith}
use borrow.Author.Tests.{eqb-true, eq-eqb}
use lib.ListN.{length}
use Rattle.model.specs.Bytes.{Bytes}
use Rattle.model.specs.Atoms.{Atom, int, str, bool, is_atom, type_of, same_atom, bool_word}
use Rattle.model.proofs.WordTables.{same-eq, same_refl, same_word, bools, reads-bool}
use Rattle.model.proofs.Options.{parts, both}
use Rattle.model.proofs.Lists.{same_truth}
use Rattle.model.proofs.Atoms.{str-exact}
use Rattle.text.specs.declared.Value.{Value}
use Rattle.codes.specs.Codes.{type_code}
use Rattle.codes.proofs.Codes.{type-injective}
use Rattle.text.specs.declared.Words.{Words}
use Rattle.text.specs.Values.{truth_bit, atom_words, atom_value, same_words}
use Rattle.text.specs.Parts.{inside, Quoted}
use Rattle.text.proofs.Packing.{text-injective, text-length}

-- the text inside of a str fits its words
pub inside-length : (s : Bytes) {r : Bool} → Quoted s r → r ≡ true → length (inside s) ≤ 12
inside-length s q e = text-length (inside s) ((str-exact s (inside s)).0 (q.text e)).0

-- equal numbers, equal atoms
bit-injective : (a b : Bool) → truth_bit a ≡ truth_bit b → a ≡ b
bit-injective false false e = refl
bit-injective false true e = absurd (omega arith)
bit-injective true false e = absurd (omega arith)
bit-injective true true e = refl

-- atoms of one type and the same words are equal; so are atoms of the same value
pub words-injective : (a b : Atom) → is_atom a ≡ true → is_atom b ≡ true → type_of a ≡ type_of b → atom_words a ≡ atom_words b → a ≡ b
words-injective a b p q k e = go a b p q (ap type_code k) e
  where
    go : (a b : Atom) → is_atom a ≡ true → is_atom b ≡ true → type_code (type_of a) ≡ type_code (type_of b) → atom_words a ≡ atom_words b → a ≡ b
    go (int m) (int n) p q k e = ap int (ap (λ (w : Words). w.first) e)
    go (int m) (str t) p q k e = absurd (omega arith)
    go (int m) (bool b) p q k e = absurd (omega arith)
    go (str s) (int n) p q k e = absurd (omega arith)
    go (str s) (str t) p q k e = ap str (text-injective s t p q e)
    go (str s) (bool b) p q k e = absurd (omega arith)
    go (bool a) (int n) p q k e = absurd (omega arith)
    go (bool a) (str t) p q k e = absurd (omega arith)
    go (bool a) (bool b) p q k e = ap bool (bit-injective a b (ap (λ (w : Words). w.first) e))

pub value-injective : (a b : Atom) → is_atom a ≡ true → is_atom b ≡ true → atom_value a ≡ atom_value b → a ≡ b
value-injective a b p q e =
    words-injective a b p q (type-injective (type_of a) (type_of b) (ap (λ (v : Value). v.ty) e)) (ap (λ (v : Value). v.words) e)

-- a test of the words, and the test of the atoms
pub same-words-eq : (u v : Words) → same_words u v ≡ true → u ≡ v
same-words-eq u v e =
    let (p, h) = parts _ _ e in
    let (k, l) = parts _ _ p in
    let a = eqb-true u.first v.first k in
    let b = eqb-true u.second v.second l in
    let c = eqb-true u.third v.third h in
    λ i. record { first = a i; second = b i; third = c i }

pub same-words-refl : (w : Words) → same_words w w ≡ true
same-words-refl w = both (both (eq-eqb w.first w.first refl) (eq-eqb w.second w.second refl)) (eq-eqb w.third w.third refl)

pub same-atom-eq : (a b : Atom) → same_atom a b ≡ true → a ≡ b
same-atom-eq (int m) (int n) e = ap int (eqb-true m n e)
same-atom-eq (int m) (str t) e = let z : ◌≡◌ {A = ℕ} 0 1 = cc in absurd (omega arith)
same-atom-eq (int m) (bool b) e = let z : ◌≡◌ {A = ℕ} 0 1 = cc in absurd (omega arith)
same-atom-eq (str s) (int n) e = let z : ◌≡◌ {A = ℕ} 0 1 = cc in absurd (omega arith)
same-atom-eq (str s) (str t) e = ap str (same-eq s t e)
same-atom-eq (str s) (bool b) e = let z : ◌≡◌ {A = ℕ} 0 1 = cc in absurd (omega arith)
same-atom-eq (bool a) (int n) e = let z : ◌≡◌ {A = ℕ} 0 1 = cc in absurd (omega arith)
same-atom-eq (bool a) (str t) e = let z : ◌≡◌ {A = ℕ} 0 1 = cc in absurd (omega arith)
same-atom-eq (bool a) (bool b) e = ap bool (same_word bool_word bools reads-bool a b e)

pub same-atom-refl : (a : Atom) → same_atom a a ≡ true
same-atom-refl (int n) = eq-eqb n n refl
same-atom-refl (str s) = same_refl s
same-atom-refl (bool b) = same_refl (bool_word b)

pub words_same : (a b : Atom) → is_atom a ≡ true → is_atom b ≡ true → type_of a ≡ type_of b → same_words (atom_words a) (atom_words b) ≡ same_atom a b
words_same a b p q k =
    same_truth (same_words (atom_words a) (atom_words b)) (same_atom a b)
    (λ e. rw (words-injective a b p q k (same-words-eq (atom_words a) (atom_words b) e)) (same-atom-refl b))
    (λ e. rw (same-atom-eq a b e) (same-words-refl (atom_words b)))
