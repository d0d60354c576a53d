-- What the grammar makes of the tokens where a term is expected, by how the term begins.
use Prim.Native.Nat.{ℕ, suc, ◌+◌, min, max}
use mathlib.Core.Path.{◌≡◌, refl, sym, ap, ◌∙◌}
use mathlib.Core.Bool.{Bool, true, false}
use mathlib.Core.List.{List, [], ◌∷◌}
use mathlib.Core.Option.{Option, none, some}
use native.Mathlib.Omega.{arith}
use Rattle.model.specs.Notation.{◌>>=◌}
use Rattle.model.specs.Tokens.{Token, Mark, Operator}
use Rattle.model.specs.Grammar as grammar
use Rattle.model.specs.Grammar.{Policy, and, or, parenthesised, compare, terms, depth, largest_set, Var, is_mark, behind_mark, read_comparison, read_var, read_operator, joined_by, wholly, read_policy}
use Rattle.model.proofs.Results.{Whenever, case-so}
use Rattle.policy.specs.Starts.{Start, whole, opened, neither, simple_start, negated_start, read_or, plain_start, term_start, negated_if, closed_by}
use Rattle.policy.specs.Scans.{Counts, counts, with_policy, counts_of, policy_at, expected, joined, after_conjunction, after_term, after_policy, before_term, behind_term}
use Rattle.policy.proofs.Heads.{finished}
use Rattle.policy.proofs.Bounds.{conjunction_at, policy-is, conjunction-is}

-- ---- counts

pub same-counts : {t u d e l m : ℕ} → t ≡ u → d ≡ e → l ≡ m → counts t d l ≡ counts u e m
same-counts p q r = λ i. counts (p i) (q i) (r i)

min-max : (k a b : ℕ) → min k (max a b) ≡ max (min k a) (min k b)
min-max k a b = omega arith

max_assoc : (x y z : ℕ) → max x (max y z) ≡ max (max x y) z
max_assoc x y z = omega arith

-- the larger of two, capped, beside a third
capped-larger : (k x a b : ℕ) → max x (min k (max a b)) ≡ max (max x (min k a)) (min k b)
capped-larger k x a b = ap (max x) (min-max k a b) ∙ max_assoc x (min k a) (min k b)

larger-by : (d a b : ℕ) → d + max a b ≡ max (d + a) (d + b)
larger-by d a b = omega arith

terms-by : (t a b : ℕ) → min 17 (t + (a + b)) ≡ min 17 (min 17 (t + a) + b)
terms-by t a b = omega arith

module _ (d : ℕ) (c : Counts) where
  -- a policy and one joined to it, by AND or by OR
  and-counts : (p q : Policy) → with_policy d c (and p q) ≡ with_policy d (with_policy d c p) q
  and-counts p q =
      same-counts (terms-by c.terms (terms p) (terms q))
      (ap (λ (k : ℕ). max c.depth (min 9 k)) (larger-by d (depth p) (depth q)) ∙ capped-larger 9 c.depth (d + depth p) (d + depth q))
      (capped-larger 9 c.largest (largest_set p) (largest_set q))

  or-counts : (p q : Policy) → with_policy d c (or p q) ≡ with_policy d (with_policy d c p) q
  or-counts p q = and-counts p q

  -- a policy in parentheses, after NOT or not
  closed-counts : (b : Bool) (p : Policy) → with_policy d c (negated_if b (parenthesised p)) ≡ with_policy (suc d) c p
  closed-counts true p = same-counts refl (omega arith) refl
  closed-counts false p = same-counts refl (omega arith) refl

-- ---- levels

-- parts joined by a mark: what K makes of the counts and of the tokens behind them all
module _ (m : Mark) (join : Policy → Policy → Policy) (more : List Token → grammar.Reading) (d : ℕ) (c : Counts) (K : Counts → List Token → Option Counts)
    (joins : (p q : Policy) → with_policy d c (join p q) ≡ with_policy d (with_policy d c p) q) where
  abbrev onward : Counts → List Token → Option Counts
  onward e us = more us >>= λ (q, left). K (with_policy d e q) left

  level : (o : grammar.Reading)
      → (o >>= joined_by m join more >>= λ (p, left). K (with_policy d c p) left) ≡ (o >>= λ (p, us). joined m (onward (with_policy d c p)) (K (with_policy d c p)) us)
  level none = refl
  level (some (p, us)) = go (behind_mark m us)
    where
      inner : (o : grammar.Reading) → (o >>= (λ (q, left). some (join p q, left)) >>= λ (p, left). K (with_policy d c p) left)
          ≡ (o >>= λ (q, left). K (with_policy d (with_policy d c p) q) left)
      inner none = refl
      inner (some (q, left)) = ap (λ (e : Counts). K e left) (joins p q)

      parted : Option (List Token) → grammar.Reading
      parted w = elim w [ some rest ↦ more rest >>= λ (q, left). some (join p q, left) | none ↦ some (p, us) ]

      counted : Option (List Token) → Option Counts
      counted w = elim w [ some rest ↦ onward (with_policy d c p) rest | none ↦ K (with_policy d c p) us ]

      go : (w : Option (List Token)) → (parted w >>= λ (p, left). K (with_policy d c p) left) ≡ counted w
      go none = refl
      go (some rest) = inner (more rest)

module _ (K : Counts → List Token → Option Counts) (d : ℕ) where
  by-conjunction : (c : Counts) (ts : List Token) → expected K d c ts ≡ (conjunction_at ts >>= λ (p, us). after_conjunction K d (with_policy d c p) us)
  by-conjunction c ts =
      ap (λ (o : grammar.Reading). o >>= λ (p, left). K (with_policy d c p) left) (policy-is ts)
      ∙ level Mark.OR or policy_at d c K (or-counts d c) (conjunction_at ts)

  by-term : (c : Counts) (ts : List Token) → expected K d c ts ≡ (finished policy_at (term_start ts) >>= λ (p, us). after_term K d (with_policy d c p) us)
  by-term c ts =
      by-conjunction c ts
      ∙ ap (λ (o : grammar.Reading). o >>= λ (p, us). after_conjunction K d (with_policy d c p) us) (conjunction-is ts)
      ∙ level Mark.AND and conjunction_at d c (after_conjunction K d) (and-counts d c) (finished policy_at (term_start ts))
      ∙ λ i. finished policy_at (term_start ts) >>= λ (p, us). joined Mark.AND (λ vs. sym (by-conjunction (with_policy d c p) vs) i) (after_conjunction K d (with_policy d c p)) us

-- ---- a term that is expected, by how it begins

module _ (d : ℕ) (c : Counts) (ts : List Token) where
  pub by-start : (x : Start) → term_start ts ≡ x → before_term d c ts ≡ (finished policy_at x >>= λ (p, us). behind_term d (with_policy d c p) us)
  unfolding before_term behind_term
  by-start x e =
      by-term (λ f us. after_policy d f us) d c ts
      ∙ ap (λ (y : Start). finished policy_at y >>= λ (p, us). after_term (λ f us. after_policy d f us) d (with_policy d c p) us) e

  pub before-opened : (b : Bool) (rest : List Token) → term_start ts ≡ opened b rest → before_term d c ts ≡ before_term (suc d) c rest
  unfolding before_term behind_term after_policy
  before-opened b rest e = by-start (opened b rest) e ∙ go (policy_at rest)
    where
      ending : (p : Policy) (w : Option (List Token))
          → (w >>= (λ left. some (parenthesised p, left)) >>= (λ (p, left). some (negated_if b p, left)) >>= λ (p, us). behind_term d (with_policy d c p) us)
          ≡ (w >>= λ left. behind_term d (with_policy (suc d) c p) left)
      ending p none = refl
      ending p (some left) = ap (λ (f : Counts). behind_term d f left) (closed-counts d c b p)

      go : (o : grammar.Reading) → (closed_by b o >>= λ (p, us). behind_term d (with_policy d c p) us)
          ≡ (o >>= λ (p, left). after_policy (suc d) (with_policy (suc d) c p) left)
      go none = refl
      go (some (p, us)) = ending p (behind_mark Mark.rparen us)

-- ---- a term without parentheses is one, and has none

abbrev pub OneTerm : Policy → Type 0
OneTerm p = (terms p ≡ 1) × (depth p ≡ 0)

abbrev pub Flat : Start → Type 0
Flat (whole p rest) = OneTerm p
Flat (opened b rest) = Unit {0}
Flat neither = Unit {0}

simple-flat : (ts : List Token) → Flat (simple_start ts)
simple-flat [] = tt
simple-flat (Token.name s n ∷ ts) = (refl, refl)
simple-flat (Token.int n ∷ ts) = tt
simple-flat (Token.str s ∷ ts) = tt
simple-flat (Token.truth t ∷ ts) = (refl, refl)
simple-flat (Token.operator o ∷ ts) = tt
simple-flat (Token.mark m ∷ ts) = go (is_mark Mark.lparen m)
  where
    go : (b : Bool) → Flat (elim b as (λ _. Start) [ true ↦ opened false ts | false ↦ neither ])
    go true = tt
    go false = tt

not-flat : (x : Start) → Flat x → Flat (negated_start x)
not-flat (whole p rest) f = f
not-flat (opened b rest) f = tt
not-flat neither f = tt

comparison-flat : (ts : List Token) → Whenever (λ (y : Policy × List Token). OneTerm y.0) (read_comparison ts)
unfolding read_comparison
comparison-flat ts = go (read_var ts)
  where
    third : (v : Var) (o : Operator) (r : Option (Var × List Token))
        → Whenever (λ (y : Policy × List Token). OneTerm y.0) (r >>= λ (w, rest). some (compare o v w, rest))
    third v o none = tt
    third v o (some y) = (refl, refl)

    second : (v : Var) (r : Option (Operator × List Token))
        → Whenever (λ (y : Policy × List Token). OneTerm y.0) (r >>= λ (o, behind). read_var behind >>= λ (w, rest). some (compare o v w, rest))
    second v none = tt
    second v (some (o, behind)) = third v o (read_var behind)

    go : (r : Option (Var × List Token))
        → Whenever (λ (y : Policy × List Token). OneTerm y.0) (r >>= λ (v, us). read_operator us >>= λ (o, behind). read_var behind >>= λ (w, rest). some (compare o v w, rest))
    go none = tt
    go (some (v, us)) = second v (read_operator us)

pub start-flat : (ts : List Token) → Flat (term_start ts)
unfolding term_start plain_start
start-flat ts =
    case-so (λ (rest : List Token). Unit {0}) Flat (λ rest. negated_start (simple_start rest)) (read_or (simple_start ts) (read_comparison ts))
    (behind_mark Mark.NOT ts) (any (behind_mark Mark.NOT ts))
    (λ rest _. not-flat (simple_start rest) (simple-flat rest)) (other (read_comparison ts) (comparison-flat ts))
  where
    any : (w : Option (List Token)) → Whenever (λ (rest : List Token). Unit {0}) w
    any none = tt
    any (some rest) = tt

    other : (r : grammar.Reading) → Whenever (λ (y : Policy × List Token). OneTerm y.0) r → Flat (read_or (simple_start ts) r)
    other none f = simple-flat ts
    other (some y) f = f

-- ---- all tokens

abbrev pub scanned : List Token → Option Counts
scanned ts = read_policy ts >>= λ p. some (counts_of p)

pub all_left : (ts : List Token) → before_term 0 (counts 0 0 0) ts ≡ scanned ts
unfolding before_term after_policy policy_at read_policy
all_left ts = go (policy_at ts)
  where
    go : (o : grammar.Reading) → (o >>= λ (p, left). after_policy 0 (counts_of p) left) ≡ (o >>= wholly >>= λ p. some (counts_of p))
    go none = refl
    go (some (p, [])) = refl
    go (some (p, t ∷ us)) = refl
