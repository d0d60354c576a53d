-- Texts laid one behind another: those of a list, and those that are chosen by a number. Assumes nothing.
use Prim.Native.Nat.{ℕ, suc, ◌+◌, ◌*◌, ◌%◌, ◌≤◌}
use mathlib.Core.Path.{◌≡◌, refl, sym, ap, ◌∙◌}
use mathlib.Core.Bool.{Bool}
use mathlib.Core.List.{List, [], ◌++◌}
use native.Mathlib.Nat.{mul-suc, mul-le-mul_left}
use native.Mathlib.Omega.{arith}
use borrow.Author.Tests.{eq-eqb, ne_eqb}
use lib.Dec.{eqb}
use lib.ListN.{get_or}
use Rattle.model.specs.Notation.{if◌then◌otherwise◌, each, below}
use Rattle.model.specs.Bytes.{Bytes}
use Rattle.model.specs.Atoms.{decimal, quoted}
use Rattle.output.specs.Laid.{Laid}
use Rattle.book.specs.Sections as section
use Rattle.output.proofs.Laying.{laid_none, laid_as, laid_on}
use Rattle.model.proofs.Lists.{each_below}
use Rattle.spelling.specs.LineTexts.{key_words, bool_words, listed_text, string_text, atom_text, name_of_holder, line_end, holder_line_text}

-- the next of a list's texts
pub laid_next : (f : ℕ → Bytes) {b : Bytes} {at i : ℕ} {m : Bytes} {n : ℕ} {a : Bytes} {r : ℕ} → Laid b at (each f (below i)) m n → Laid m n (f i) a r
    → Laid b at (each f (below (i + 1))) a r
laid_next f {i = i} p q = let z : suc i ≡ i + 1 = omega arith in laid_as (sym (each_below f i) ∙ ap (λ (k : ℕ). each f (below k)) z) (laid_on p q)

-- ---- a walk over all of them

-- the texts with numbers below k are laid, each of `most` bytes at most
pub record EachLaid (f : ℕ → Bytes) (most : ℕ) (before : Bytes) (at : ℕ) (out : Bytes) (n k : ℕ) : Type 0 where
  pub laid : Laid before at (each f (below k)) out n
  pub room : n ≤ at + most * k

module _ {f : ℕ → Bytes} {most : ℕ} where
  pub each_start : (before : Bytes) (at : ℕ) → EachLaid f most before at before at 0
  each_start before at = record { laid = laid_none before at; room = omega arith }

  module _ {b : Bytes} {at i : ℕ} {m : Bytes} {n : ℕ} (so_far : EachLaid f most b at m n i) where
    pub each_next : {a : Bytes} {r : ℕ} → Laid m n (f i) a r × (r ≤ n + most) → EachLaid f most b at a r (i + 1)
    each_next (p, l) = record { laid = laid_next f so_far.laid p; room = omega (arith, so_far.room, mul-suc most i) }

    -- all of them, as many as `count` tells
    pub each-end : {told count limit : ℕ} → i ≡ told → (told ≡ count) × (told ≤ limit) → Laid b at (each f (below count)) m n × (n ≤ at + most * limit)
    each-end {limit = limit} e (c, l) =
        let fits : i ≤ limit = omega arith in
        (laid_as (ap (λ (k : ℕ). each f (below k)) (e ∙ c)) so_far.laid, omega (arith, so_far.room, mul-le-mul_left most fits))

-- ---- a text by a test

module _ {A : Type 0} (x y : A) {a b : ℕ} where
  pub chosen : a ≡ b → x ≡ (if eqb a b then x otherwise y)
  chosen e = ap (λ (t : Bool). if t then x otherwise y) (sym (eq-eqb a b e))

  pub passed : (a ≡ b → ⊥) → y ≡ (if eqb a b then x otherwise y)
  passed h = ap (λ (t : Bool). if t then x otherwise y) (sym (ne_eqb a b h))

-- ---- atoms

module _ (book : List ℕ) (type at : ℕ) where
  pub int-atom : type ≡ 1 → decimal (get_or book at 0 % 4294967296) ≡ atom_text book type at
  unfolding atom_text
  int-atom e = ap (λ (t : ℕ). atom_text book t at) (sym e)

  pub str-atom : type ≡ 2 → quoted (string_text book at) ≡ atom_text book type at
  unfolding atom_text
  str-atom e = ap (λ (t : ℕ). atom_text book t at) (sym e)

  pub bool-atom : (type ≡ 1 → ⊥) → (type ≡ 2 → ⊥) → listed_text bool_words (get_or book at 0) ≡ atom_text book type at
  unfolding atom_text
  bool-atom a b = rw (ne_eqb type 1 a, ne_eqb type 2 b) refl

-- ---- lines that are there or not

module _ (book : List ℕ) (sort k : ℕ) where
  abbrev line : Bytes
  line = listed_text key_words sort ++ (name_of_holder book k ++ line_end)

  pub holder-line : get_or book ((section.sorts).start + k) 0 ≡ sort → line ≡ holder_line_text book sort k
  unfolding holder_line_text
  holder-line e = chosen line [] e

  pub no-holder-line : (get_or book ((section.sorts).start + k) 0 ≡ sort → ⊥) → [] ≡ holder_line_text book sort k
  unfolding holder_line_text
  no-holder-line h = passed line [] h
