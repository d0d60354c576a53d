-- Laws of words: `same` is equality of bytes, and a value of a word table is told by its word.
use Prim.Native.Nat.{ℕ}
use mathlib.Core.Path.{◌≡◌, refl, sym, ap, ap₂, ◌∙◌}
use mathlib.Core.Bool.{Bool, true, false}
use mathlib.Core.List.{List, [], ◌∷◌}
use mathlib.Core.Option.{Option, none, some, some-injective}
use native.Mathlib.Omega.{arith}
use lib.Dec.{eqb}
use borrow.Author.Tests.{eqb-true, eq-eqb}
use Rattle.model.specs.Bytes.{Bytes, same, one_of}
use Rattle.model.specs.Attributes.{Source, source_word, sources, AtomType, type_word, types}
use Rattle.model.specs.Atoms.{bool_word}
use Rattle.model.specs.Keys.{Key, key_word, keys}
use Rattle.model.specs.Declarations.{Sort, sort_word}
use Rattle.model.specs.Truth.{Truth, truth_word}
use Rattle.model.specs.Tokens.{Operator, operator_word, Mark, mark_word}

-- two constructors are never equal
pub false-is-true : {C : Type 0} → false ≡ true → C
false-is-true e = let z : ◌≡◌ {A = ℕ} 0 1 = cc in absurd (omega (arith, z))

pub none-is-some : {A C : Type 0} {a : A} → none ≡ some a → C
none-is-some e = let z : ◌≡◌ {A = ℕ} 0 1 = cc in absurd (omega (arith, z))

pub same-eq : (s t : Bytes) → same s t ≡ true → s ≡ t
same-eq [] [] e = refl
same-eq [] (y ∷ ys) e = false-is-true e
same-eq (x ∷ xs) [] e = false-is-true e
same-eq (x ∷ xs) (y ∷ ys) e = go (eqb x y) refl e (same-eq xs ys)
  where
    go : (b : Bool) → eqb x y ≡ b → elim b as (λ _. Bool) [ true ↦ same xs ys | false ↦ false ] ≡ true
        → (same xs ys ≡ true → xs ≡ ys) → x ∷ xs ≡ y ∷ ys
    go true h f more = ap₂ ◌∷◌ (eqb-true x y h) (more f)
    go false h f more = false-is-true f

pub same_refl : (s : Bytes) → same s s ≡ true
same_refl [] = refl
same_refl (x ∷ xs) =
    ap (λ (b : Bool). elim b as (λ _. Bool) [ true ↦ same xs xs | false ↦ false ]) (eq-eqb x x refl) ∙ same_refl xs

-- a table of words: what is read has these bytes for its word
module _ {A : Type 0} (word : A → Bytes) where
  pub one-of-word : (table : List A) (s : Bytes) (a : A) → one_of word table s ≡ some a → word a ≡ s
  one-of-word [] s a e = none-is-some e
  one-of-word (b ∷ rest) s a e = go (same (word b) s) refl e (one-of-word rest s a)
    where
      go : (t : Bool) → same (word b) s ≡ t → elim t as (λ _. Option A) [ true ↦ some b | false ↦ one_of word rest s ] ≡ some a
          → (one_of word rest s ≡ some a → word a ≡ s) → word a ≡ s
      go true h f more = ap word (sym (some-injective b a f)) ∙ same-eq (word b) s h
      go false h f more = more f

  -- a table that reads back each of its words: values of one word are equal
  module _ (table : List A) (reads : (a : A) → one_of word table (word a) ≡ some a) where
    pub word-injective : (a b : A) → word a ≡ word b → a ≡ b
    word-injective a b e = some-injective a b (sym (reads a) ∙ ap (one_of word table) e ∙ reads b)

    pub same_word : (a b : A) → same (word a) (word b) ≡ true → a ≡ b
    same_word a b e = word-injective a b (same-eq (word a) (word b) e)

-- the tables of the specification, and those that it does not need to write down
abbrev pub bools : List Bool
bools = true ∷ false ∷ []

abbrev pub sorts : List Sort
sorts = Sort.admin ∷ Sort.ugroup ∷ Sort.ogroup ∷ Sort.user ∷ Sort.object ∷ []

abbrev pub truths : List Truth
truths = Truth.FALSE ∷ Truth.UNDEF ∷ Truth.TRUE ∷ []

abbrev pub operators : List Operator
operators =
    Operator.equal ∷ Operator.unequal ∷ Operator.less ∷ Operator.at_most ∷ Operator.greater ∷ Operator.at_least ∷ Operator.IN ∷ Operator.SUBSET ∷ []

abbrev pub marks : List Mark
marks = Mark.AND ∷ Mark.OR ∷ Mark.NOT ∷ Mark.lparen ∷ Mark.rparen ∷ Mark.lbrace ∷ Mark.rbrace ∷ Mark.comma ∷ []

-- each reads back its words
pub reads-source : (s : Source) → one_of source_word sources (source_word s) ≡ some s
reads-source Source.user = refl
reads-source Source.object = refl
reads-source Source.admin = refl
reads-source Source.env = refl
reads-source Source.connect = refl

pub reads_type : (t : AtomType) → one_of type_word types (type_word t) ≡ some t
reads_type AtomType.int = refl
reads_type AtomType.str = refl
reads_type AtomType.bool = refl

pub reads-bool : (b : Bool) → one_of bool_word bools (bool_word b) ≡ some b
reads-bool true = refl
reads-bool false = refl

pub reads-key : (k : Key) → one_of key_word keys (key_word k) ≡ some k
reads-key Key.attr = refl
reads-key Key.op = refl
reads-key Key.atom = refl
reads-key Key.ugroup = refl
reads-key Key.ogroup = refl
reads-key Key.user = refl
reads-key Key.object = refl
reads-key Key.parent = refl
reads-key Key.member = refl
reads-key Key.value = refl
reads-key Key.rule = refl

pub reads-sort : (s : Sort) → one_of sort_word sorts (sort_word s) ≡ some s
reads-sort Sort.admin = refl
reads-sort Sort.ugroup = refl
reads-sort Sort.ogroup = refl
reads-sort Sort.user = refl
reads-sort Sort.object = refl

pub reads-truth : (t : Truth) → one_of truth_word truths (truth_word t) ≡ some t
reads-truth Truth.FALSE = refl
reads-truth Truth.UNDEF = refl
reads-truth Truth.TRUE = refl

pub reads-operator : (o : Operator) → one_of operator_word operators (operator_word o) ≡ some o
reads-operator Operator.equal = refl
reads-operator Operator.unequal = refl
reads-operator Operator.less = refl
reads-operator Operator.at_most = refl
reads-operator Operator.greater = refl
reads-operator Operator.at_least = refl
reads-operator Operator.IN = refl
reads-operator Operator.SUBSET = refl

pub reads-mark : (m : Mark) → one_of mark_word marks (mark_word m) ≡ some m
reads-mark Mark.AND = refl
reads-mark Mark.OR = refl
reads-mark Mark.NOT = refl
reads-mark Mark.lparen = refl
reads-mark Mark.rparen = refl
reads-mark Mark.lbrace = refl
reads-mark Mark.rbrace = refl
reads-mark Mark.comma = refl
