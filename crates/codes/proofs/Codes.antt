-- Numbers tell what they stand for. Reading a word among those of a table, and numbering what was read, is one selection after another.
use Prim.Native.Nat.{ℕ}
use mathlib.Core.Path.{◌≡◌, refl, sym, ap, ◌∙◌}
use mathlib.Core.Bool.{Bool, true, false}
use mathlib.Core.List.{List, [], ◌∷◌}
use mathlib.Core.Option.{Option, none, some, some-injective}
use native.Mathlib.Omega.{arith}
use lib.Dec.{eqb}
use Rattle.model.specs.Notation.{if◌then◌otherwise◌}
use Rattle.model.specs.Bytes.{Bytes, same, one_of}
use Rattle.model.specs.Attributes.{Source, user, object, admin, env, connect, sources, AtomType, types}
use Rattle.model.specs.Keys.{Key, keys}
use Rattle.model.specs.Tokens.{Operator}
use Rattle.codes.specs.Codes.{key_code, coded, source_code, type_code, operator_code}

module _ {A : Type 0} (word : A → Bytes) (code : A → ℕ) where
  -- the number of the first word that is s, else 0
  abbrev pub selected : List A → Bytes → ℕ
  selected [] s = 0
  selected (a ∷ rest) s = if same (word a) s then code a otherwise selected rest s

  pub coded-one-of : (table : List A) (s : Bytes) → coded code (one_of word table s) ≡ selected table s
  coded-one-of [] s = refl
  coded-one-of (a ∷ rest) s = go (same (word a) s) (coded-one-of rest s)
    where
      go : (t : Bool) → coded code (one_of word rest s) ≡ selected rest s
          → coded code (elim t as (λ _. Option A) [ true ↦ some a | false ↦ one_of word rest s ]) ≡ (if t then code a otherwise selected rest s)
      go true e = refl
      go false e = e

-- values are told by their numbers, where a table reads back each of them
module _ {A : Type 0} (code : A → ℕ) where
  abbrev pub with_code : List A → ℕ → Option A
  with_code [] k = none
  with_code (a ∷ rest) k = elim (eqb (code a) k) [ true ↦ some a | false ↦ with_code rest k ]

  pub code-injective : (table : List A) → ((a : A) → with_code table (code a) ≡ some a) → (a b : A) → code a ≡ code b → a ≡ b
  code-injective table reads a b e = some-injective a b (sym (reads a) ∙ ap (with_code table) e ∙ reads b)

pub source-injective : (a b : Source) → source_code a ≡ source_code b → a ≡ b
source-injective = code-injective source_code sources reads
  where
    reads : (a : Source) → with_code source_code sources (source_code a) ≡ some a
    reads user = refl
    reads object = refl
    reads admin = refl
    reads env = refl
    reads connect = refl

-- 0 is the number of no source
pub source-some : (s : Source) → source_code s ≡ 0 → ⊥
source-some user e = omega arith
source-some object e = omega arith
source-some admin e = omega arith
source-some env e = omega arith
source-some connect e = omega arith

-- nor of a type
pub type-some : (t : AtomType) → type_code t ≡ 0 → ⊥
type-some AtomType.int e = omega arith
type-some AtomType.str e = omega arith
type-some AtomType.bool e = omega arith

pub type-injective : (a b : AtomType) → type_code a ≡ type_code b → a ≡ b
type-injective = code-injective type_code types reads
  where
    reads : (a : AtomType) → with_code type_code types (type_code a) ≡ some a
    reads AtomType.int = refl
    reads AtomType.str = refl
    reads AtomType.bool = refl

pub operator-injective : (a b : Operator) → operator_code a ≡ operator_code b → a ≡ b
operator-injective = code-injective operator_code operators reads
  where
    operators : List Operator
    operators =
        Operator.equal ∷ Operator.IN ∷ Operator.unequal ∷ Operator.SUBSET ∷ Operator.less ∷ Operator.at_most ∷ Operator.greater ∷ Operator.at_least ∷ []

    reads : (a : Operator) → with_code operator_code operators (operator_code a) ≡ some a
    reads Operator.equal = refl
    reads Operator.IN = refl
    reads Operator.unequal = refl
    reads Operator.SUBSET = refl
    reads Operator.less = refl
    reads Operator.at_most = refl
    reads Operator.greater = refl
    reads Operator.at_least = refl

pub key-injective : (a b : Key) → key_code a ≡ key_code b → a ≡ b
key-injective = code-injective key_code keys reads
  where
    reads : (a : Key) → with_code key_code keys (key_code a) ≡ some a
    reads Key.attr = refl
    reads Key.op = refl
    reads Key.atom = refl
    reads Key.ugroup = refl
    reads Key.ogroup = refl
    reads Key.user = refl
    reads Key.object = refl
    reads Key.parent = refl
    reads Key.member = refl
    reads Key.value = refl
    reads Key.rule = refl
