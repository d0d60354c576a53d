-- The grammar of policies, over tokens: what is a policy (`Obeys`), and the reading of a token list as one (`read_policy`).
use Rattle.std.specs.Prelude.{ℕ, zero, suc, ◌+◌, ◌*◌, max, ◌≡◌, Bool, true, ◌||◌, List, [], ◌∷◌, ◌++◌, length, ltb}
use Rattle.std.proofs.Math.Option.{Option, none, some}
use Rattle.model.specs.Notation.{◌>>=◌, ◌or_else◌, only_if, all_of}
use Rattle.model.specs.Limits.{term_limit, depth_limit, set_limit}
use Rattle.model.specs.Bytes.{Bytes, same}
use Rattle.model.specs.Attributes.{Source, same_type}
use Rattle.model.specs.Atoms.{Atom, type_of}
use Rattle.model.specs.Truth.{Truth}
use Rattle.model.specs.Tokens.{Token, Operator, Mark, mark_word, as_name, as_constant, as_truth, as_operator, as_mark}

-- "var: int or str constant, set, attribute"; "A constant is a set of one"
pub data Var : Type 0 where
  constants : List Atom → Var
  attribute : Source → Bytes → Var

-- "A term is `var op var` …, or an optional NOT before TRUE, FALSE, UNDEF, an attribute or a parenthesised policy. Terms join by AND and OR"
pub data Policy : Type 0 where
  constant : Truth → Policy
  lone : Source → Bytes → Policy
  compare : Operator → Var → Var → Policy
  not : Policy → Policy
  and or : Policy → Policy → Policy
  parenthesised : Policy → Policy

-- "atoms of one type"
abbrev pub one_type : List Atom → Bool
one_type [] = true
one_type (a ∷ l) = all_of (λ b. same_type (type_of a) (type_of b)) l

-- Items ts l: the tokens ts are the constants l, parted by commas
pub data Items : List Token → List Atom → Type 0 where
  last : {t : Token} {a : Atom} → as_constant t ≡ some a → Items (t ∷ []) (a ∷ [])
  next : {t : Token} {a : Atom} {ts : List Token} {l : List Atom} → as_constant t ≡ some a → Items ts l
      → Items (t ∷ Token.mark Mark.comma ∷ ts) (a ∷ l)

-- IsVar ts v: the tokens ts are the var v
pub data IsVar : List Token → Var → Type 0 where
  a-constant : {t : Token} {a : Atom} → as_constant t ≡ some a → IsVar (t ∷ []) (constants (a ∷ []))
  a-set : {ts : List Token} {l : List Atom} → Items ts l → one_type l ≡ true
      → IsVar (Token.mark Mark.lbrace ∷ ts ++ Token.mark Mark.rbrace ∷ []) (constants l)
  an-attribute : (s : Source) (n : Bytes) → IsVar (Token.name s n ∷ []) (attribute s n)

-- what a part of a policy is: what NOT may stand before, a term, terms joined by AND, these joined by OR
pub data Part : Type 0 where
  simple term conjunction policy : Part

-- Obeys part ts p: the tokens ts are such a part of a policy, namely p
pub data Obeys : Part → List Token → Policy → Type 0 where
  -- "TRUE, FALSE, UNDEF, an attribute or a parenthesised policy"
  a-truth : (t : Truth) → Obeys simple (Token.truth t ∷ []) (constant t)
  a-lone : (s : Source) (n : Bytes) → Obeys simple (Token.name s n ∷ []) (lone s n)
  in-parentheses : {ts : List Token} {p : Policy} → Obeys policy ts p
      → Obeys simple (Token.mark Mark.lparen ∷ ts ++ Token.mark Mark.rparen ∷ []) (parenthesised p)
  -- "A term is `var op var` …, or an optional NOT before" these
  plain : {ts : List Token} {p : Policy} → Obeys simple ts p → Obeys term ts p
  negation : {ts : List Token} {p : Policy} → Obeys simple ts p → Obeys term (Token.mark Mark.NOT ∷ ts) (not p)
  comparison : {ts us : List Token} {v w : Var} (o : Operator) → IsVar ts v → IsVar us w
      → Obeys term (ts ++ Token.operator o ∷ us) (compare o v w)
  -- "Terms join by AND and OR; AND binds tighter"
  one-term : {ts : List Token} {p : Policy} → Obeys term ts p → Obeys conjunction ts p
  joined-by-and : {ts us : List Token} {p q : Policy} → Obeys term ts p → Obeys conjunction us q
      → Obeys conjunction (ts ++ Token.mark Mark.AND ∷ us) (and p q)
  one-conjunction : {ts : List Token} {p : Policy} → Obeys conjunction ts p → Obeys policy ts p
  joined-by-or : {ts us : List Token} {p q : Policy} → Obeys conjunction ts p → Obeys policy us q
      → Obeys policy (ts ++ Token.mark Mark.OR ∷ us) (or p q)

-- whether two marks are the same
abbrev pub is_mark : Mark → Mark → Bool
is_mark a b = same (mark_word a) (mark_word b)

-- the tokens behind a mark at the front
abbrev pub behind_mark : Mark → List Token → Option (List Token)
behind_mark m [] = none
behind_mark m (t ∷ ts) = as_mark t >>= λ k. only_if (is_mark m k) ts

-- an operator at the front, and the tokens behind it
abbrev pub read_operator : List Token → Option (Operator × List Token)
read_operator [] = none
read_operator (t ∷ ts) = as_operator t >>= λ o. some (o, ts)

-- constants parted by commas up to the brace that ends their set, and the tokens behind it
abbrev pub read_items : List Token → Option (List Atom × List Token)
read_items [] = none
read_items (t ∷ []) = none
read_items (t ∷ u ∷ ts) =
    as_constant t >>= λ a.
    elim (behind_mark Mark.rbrace (u ∷ ts)) [
      | some rest ↦ some (a ∷ [], rest)
      | none ↦ behind_mark Mark.comma (u ∷ ts) >>= λ rest. read_items ts >>= λ (l, rest'). some (a ∷ l, rest')
    ]

-- a set, behind its first brace
unfoldable pub read_set : List Token → Option (Var × List Token)
read_set ts = read_items ts >>= λ (l, rest). only_if (one_type l) (constants l, rest)

-- a var at the front
abbrev pub read_var : List Token → Option (Var × List Token)
read_var [] = none
read_var (t ∷ ts) =
    (as_name t >>= λ (s, n). some (attribute s n, ts))
    or_else (as_constant t >>= λ a. some (constants (a ∷ []), ts))
    or_else (behind_mark Mark.lbrace (t ∷ ts) >>= read_set)

-- a policy read at the front, and the tokens behind it
abbrev pub Reading : Type 0
Reading = Option (Policy × List Token)

-- "`var op var`"
unfoldable pub read_comparison : List Token → Reading
read_comparison ts = do
  (v, behind-v) ← read_var ts
  (o, behind-o) ← read_operator behind-v
  (w, rest) ← read_var behind-o
  some (compare o v w, rest)

-- the parenthesis that ends a policy
abbrev pub closed : Policy × List Token → Reading
closed (p, ts) = behind_mark Mark.rparen ts >>= λ rest. some (parenthesised p, rest)

-- "TRUE, FALSE, UNDEF, an attribute or a parenthesised policy"; `inner` reads the policy in parentheses
abbrev pub read_simple : (List Token → Reading) → List Token → Reading
read_simple inner [] = none
read_simple inner (t ∷ ts) =
    (as_truth t >>= λ v. some (constant v, ts))
    or_else (as_name t >>= λ (s, n). some (lone s n, ts))
    or_else (behind_mark Mark.lparen (t ∷ ts) >>= inner >>= closed)

-- "A term is `var op var` …, or an optional NOT before" a simple one
unfoldable pub read_term : (List Token → Reading) → List Token → Reading
read_term inner ts =
    elim (behind_mark Mark.NOT ts) [
      | some rest ↦ read_simple inner rest >>= λ (p, rest'). some (not p, rest')
      | none ↦ read_comparison ts or_else read_simple inner ts
    ]

-- what stands behind a part: the mark that joins, and more; or nothing
abbrev pub joined_by : Mark → (Policy → Policy → Policy) → (List Token → Reading) → Policy × List Token → Reading
joined_by m join more (p, ts) =
    elim (behind_mark m ts) [
      | some rest ↦ more rest >>= λ (q, rest'). some (join p q, rest')
      | none ↦ some (p, ts)
    ]

-- "Terms join by AND and OR; AND binds tighter". The first number bounds the calls
unfoldable mutual
  pub policy_within : ℕ → List Token → Reading
  policy_within zero ts = none
  policy_within (suc n) ts = conjunction_within n ts >>= joined_by Mark.OR or (λ rest. policy_within n rest)

  pub conjunction_within : ℕ → List Token → Reading
  conjunction_within zero ts = none
  conjunction_within (suc n) ts = term_within n ts >>= joined_by Mark.AND and (λ rest. conjunction_within n rest)

  pub term_within : ℕ → List Token → Reading
  term_within zero ts = none
  term_within (suc n) ts = read_term (λ rest. policy_within n rest) ts

-- a policy, and nothing behind it
abbrev pub wholly : Policy × List Token → Option Policy
wholly (p, []) = some p
wholly (p, t ∷ ts) = none

-- the policy that the tokens are; none where they are none. Each token is passed by at most three calls
unfoldable pub read_policy : List Token → Option Policy
unfolding policy_within
read_policy ts = policy_within (3 * length ts + 3) ts >>= wholly

-- "At most 16 terms not counting parenthesised ones": what stands in parentheses is counted, a parenthesised policy itself is not
abbrev pub terms : Policy → ℕ
terms (constant t) = 1
terms (lone s n) = 1
terms (compare o v w) = 1
terms (not p) = terms p
terms (and p q) = terms p + terms q
terms (or p q) = terms p + terms q
terms (parenthesised p) = terms p

-- "parentheses at most 8 deep"
abbrev pub depth : Policy → ℕ
depth (constant t) = 0
depth (lone s n) = 0
depth (compare o v w) = 0
depth (not p) = depth p
depth (and p q) = max (depth p) (depth q)
depth (or p q) = max (depth p) (depth q)
depth (parenthesised p) = suc (depth p)

-- the atoms of a var, counted as written
abbrev pub atoms_in : Var → ℕ
atoms_in (constants l) = length l
atoms_in (attribute s n) = 0

-- "set `{a, b}` of 1 to 8 atoms": the atoms of the largest set
abbrev pub largest_set : Policy → ℕ
largest_set (constant t) = 0
largest_set (lone s n) = 0
largest_set (compare o v w) = max (atoms_in v) (atoms_in w)
largest_set (not p) = largest_set p
largest_set (and p q) = max (largest_set p) (largest_set q)
largest_set (or p q) = max (largest_set p) (largest_set q)
largest_set (parenthesised p) = largest_set p

-- "more than 16 terms, depth over 8 or a set over 8"
unfoldable pub too_large : Policy → Bool
too_large p = ltb term_limit (terms p) || ltb depth_limit (depth p) || ltb set_limit (largest_set p)
