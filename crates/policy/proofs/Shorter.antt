-- What is read at the front of the tokens leaves fewer of them.
use Prim.Native.Nat.{ℕ, zero, suc, ◌<◌}
use mathlib.Core.List.{List, [], ◌∷◌}
use mathlib.Core.Option.{Option, none, some}
use native.Mathlib.Omega.{arith}
use lib.ListN.{length}
use Rattle.model.specs.Notation.{◌>>=◌}
use Rattle.model.specs.Tokens.{Token, Mark, as_constant}
use Rattle.model.specs.Grammar.{Policy, and, or, one_type, is_mark, behind_mark, read_operator, read_items, read_set, read_var, Reading, read_comparison, read_simple, read_term, joined_by, policy_within, conjunction_within, term_within}
use Rattle.model.proofs.Results.{Whenever, bind-so, case-so, map-so, only_so, else-so}

abbrev pub Fewer : {A : Type 0} → List Token → A × List Token → Type 0
Fewer ts x = length x.1 < length ts

pub mark-fewer : (m : Mark) (ts : List Token) → Whenever (λ rest. length rest < length ts) (behind_mark m ts)
mark-fewer m [] = tt
mark-fewer m (Token.name s n ∷ ts) = tt
mark-fewer m (Token.int n ∷ ts) = tt
mark-fewer m (Token.str s ∷ ts) = tt
mark-fewer m (Token.truth t ∷ ts) = tt
mark-fewer m (Token.operator o ∷ ts) = tt
mark-fewer m (Token.mark k ∷ ts) = only_so (λ rest. length rest < length (Token.mark k ∷ ts)) (is_mark m k) ts (λ e. omega arith)

operator-fewer : (ts : List Token) → Whenever (Fewer ts) (read_operator ts)
operator-fewer [] = tt
operator-fewer (Token.name s n ∷ ts) = tt
operator-fewer (Token.int n ∷ ts) = tt
operator-fewer (Token.str s ∷ ts) = tt
operator-fewer (Token.truth t ∷ ts) = tt
operator-fewer (Token.operator o ∷ ts) = omega arith
operator-fewer (Token.mark m ∷ ts) = tt

items-fewer : (ts : List Token) → Whenever (Fewer ts) (read_items ts)
items-fewer [] = tt
items-fewer (t ∷ []) = tt
items-fewer (t ∷ u ∷ ts) =
    let Q = Fewer (t ∷ u ∷ ts) in
    let more = items-fewer ts in
    bind-so (λ _. Unit {0}) Q _ (as_constant t) (unit (as_constant t)) λ a _.
    case-so (λ rest. length rest < length (u ∷ ts)) (Whenever Q) _ _ (behind_mark Mark.rbrace (u ∷ ts)) (mark-fewer Mark.rbrace (u ∷ ts))
    (λ rest f. omega arith)
    (bind-so (λ rest. length rest < length (u ∷ ts)) Q _ (behind_mark Mark.comma (u ∷ ts)) (mark-fewer Mark.comma (u ∷ ts)) λ rest f.
    bind-so (Fewer ts) Q _ (read_items ts) more λ x h. omega arith)
  where
    unit : {A : Type 0} (o : Option A) → Whenever (λ _. Unit {0}) o
    unit none = tt
    unit (some a) = tt

var-fewer : (ts : List Token) → Whenever (Fewer ts) (read_var ts)
unfolding read_set
var-fewer [] = tt
var-fewer (Token.name s n ∷ ts) = omega arith
var-fewer (Token.int n ∷ ts) = omega arith
var-fewer (Token.str s ∷ ts) = omega arith
var-fewer (Token.truth t ∷ ts) = tt
var-fewer (Token.operator o ∷ ts) = tt
var-fewer (Token.mark m ∷ ts) =
    let Q = Fewer (Token.mark m ∷ ts) in
    bind-so (λ rest. length rest < length (Token.mark m ∷ ts)) Q _ (behind_mark Mark.lbrace (Token.mark m ∷ ts)) (mark-fewer Mark.lbrace (Token.mark m ∷ ts)) λ rest e.
    bind-so (Fewer rest) Q _ (read_items rest) (items-fewer rest) λ x h. only_so Q (one_type x.0) _ λ _. omega arith

comparison-fewer : (ts : List Token) → Whenever (Fewer ts) (read_comparison ts)
unfolding read_comparison
comparison-fewer ts =
    let Q = Fewer ts in
    bind-so (Fewer ts) Q _ (read_var ts) (var-fewer ts) λ x f.
    bind-so (Fewer x.1) Q _ (read_operator x.1) (operator-fewer x.1) λ y g.
    bind-so (Fewer y.1) Q _ (read_var y.1) (var-fewer y.1) λ z h. omega arith

module _ (inner : List Token → Reading) (inner-fewer : (ts : List Token) → Whenever (Fewer ts) (inner ts)) where
  simple-fewer : (ts : List Token) → Whenever (Fewer ts) (read_simple inner ts)
  simple-fewer [] = tt
  simple-fewer (Token.name s n ∷ ts) = omega arith
  simple-fewer (Token.int n ∷ ts) = tt
  simple-fewer (Token.str s ∷ ts) = tt
  simple-fewer (Token.truth t ∷ ts) = omega arith
  simple-fewer (Token.operator o ∷ ts) = tt
  simple-fewer (Token.mark m ∷ ts) =
      let Q = Fewer (Token.mark m ∷ ts) in
      bind-so Q Q _ (behind_mark Mark.lparen (Token.mark m ∷ ts) >>= inner)
      (bind-so (λ rest. length rest < length (Token.mark m ∷ ts)) Q _ (behind_mark Mark.lparen (Token.mark m ∷ ts)) (mark-fewer Mark.lparen (Token.mark m ∷ ts)) λ rest e.
      map-so (Fewer rest) Q (inner rest) (inner-fewer rest) λ x f. omega arith) λ x f.
      bind-so (λ rest. length rest < length x.1) Q _ (behind_mark Mark.rparen x.1) (mark-fewer Mark.rparen x.1) λ rest g. omega arith

  term-fewer : (ts : List Token) → Whenever (Fewer ts) (read_term inner ts)
  unfolding read_term
  term-fewer ts =
      let Q = Fewer ts in
      case-so (λ rest. length rest < length ts) (Whenever Q) _ _ (behind_mark Mark.NOT ts) (mark-fewer Mark.NOT ts)
      (λ rest e. bind-so (Fewer rest) Q _ (read_simple inner rest) (simple-fewer rest) λ x f. omega arith)
      (else-so Q (read_comparison ts) (read_simple inner ts) (comparison-fewer ts) (simple-fewer ts))

joined-fewer : (m : Mark) (join : Policy → Policy → Policy) (first more : List Token → Reading)
    → ((ts : List Token) → Whenever (Fewer ts) (first ts)) → ((ts : List Token) → Whenever (Fewer ts) (more ts))
    → (ts : List Token) → Whenever (Fewer ts) (first ts >>= joined_by m join more)
joined-fewer m join first more first-fewer more-fewer ts =
    let Q = Fewer ts in
    bind-so (Fewer ts) Q _ (first ts) (first-fewer ts) λ x f.
    case-so (λ rest. length rest < length x.1) (Whenever Q) _ _ (behind_mark m x.1) (mark-fewer m x.1)
    (λ rest g. bind-so (Fewer rest) Q _ (more rest) (more-fewer rest) λ y h. omega arith)
    (omega arith)

mutual
  unfolding policy_within

  pub policy-within : (n : ℕ) (ts : List Token) → Whenever (Fewer ts) (policy_within n ts)
  policy-within zero ts = tt
  policy-within (suc n) ts =
      joined-fewer Mark.OR or (λ us. conjunction_within n us) (λ us. policy_within n us) (λ us. conjunction-within n us) (λ us. policy-within n us) ts

  pub conjunction-within : (n : ℕ) (ts : List Token) → Whenever (Fewer ts) (conjunction_within n ts)
  conjunction-within zero ts = tt
  conjunction-within (suc n) ts =
      joined-fewer Mark.AND and (λ us. term_within n us) (λ us. conjunction_within n us) (λ us. term-within n us) (λ us. conjunction-within n us) ts

  pub term-within : (n : ℕ) (ts : List Token) → Whenever (Fewer ts) (term_within n ts)
  term-within zero ts = tt
  term-within (suc n) ts = term-fewer (λ us. policy_within n us) (λ us. policy-within n us) ts
