-- What the loop over a policy leaves to read: at each place, what the grammar makes of the tokens from there on, where so many parentheses are open.
use Rattle.std.specs.Prelude.{ℕ, zero, suc, ◌+◌, ◌-◌, ◌*◌, ◌≤◌, ◌<◌, min, max, ◌≡◌, Bool, true, false, List, [], ◌∷◌, length}
use Rattle.std.specs.Prelude as std
use Rattle.std.specs.Prelude.{Some, None}
use Rattle.std.proofs.Math.Option.{Option, none, some}
use Rattle.model.specs.Notation.{◌>>=◌}
use Rattle.model.specs.Bytes.{Bytes}
use Rattle.model.specs.Tokens.{Token, Mark}
use Rattle.model.specs.Grammar as grammar
use Rattle.model.specs.Grammar.{Policy, behind_mark, policy_within, read_policy, largest_set}
use Rattle.policy.specs.declared.Head.{Head}
use Rattle.policy.specs.declared.Head.TheVariants.{Leaf, Open}
use Rattle.policy.specs.declared.scan.Reached.{Reached}
use Rattle.policy.specs.declared.scan.Stand.{Stand}
use Rattle.policy.specs.declared.scan.Stand.TheVariants.{Before, Behind, Whole, Failed}
use Rattle.policy.specs.Readers.{Asked, From}
use Rattle.policy.specs.Judgements.{Counted}

-- ---- on tokens

-- the counts of a policy, no further than is needed to see that a limit is passed
pub record Counts : Type 0 where
  pub terms : ℕ
  pub depth : ℕ
  pub largest : ℕ

abbrev pub counts : ℕ → ℕ → ℕ → Counts
counts t d l = record { terms = t; depth = d; largest = l }

-- c, and the policy p within d open parentheses
abbrev pub with_policy : ℕ → Counts → Policy → Counts
with_policy d c p = counts (min 17 (c.terms + grammar.terms p)) (max c.depth (min 9 (d + grammar.depth p))) (max c.largest (min 9 (largest_set p)))

-- the counts of a whole policy
abbrev pub counts_of : Policy → Counts
counts_of p = with_policy 0 (counts 0 0 0) p

-- the policy at the front of the tokens, and the tokens behind it
unfoldable pub policy_at : List Token → grammar.Reading
policy_at ts = policy_within (3 * length ts + 3) ts

-- a policy is expected within d open parentheses; `rest` says what may stand behind it
abbrev pub expected : (Counts → List Token → Option Counts) → ℕ → Counts → List Token → Option Counts
expected rest d c ts = policy_at ts >>= λ (p, left). rest (with_policy d c p) left

-- what stands behind a conjunction, and behind a term: the mark that joins, and more; or what may stand behind a policy
abbrev pub joined : Mark → (List Token → Option Counts) → (List Token → Option Counts) → List Token → Option Counts
joined m more rest ts = elim (behind_mark m ts) [ some left ↦ more left | none ↦ rest ts ]

abbrev pub after_conjunction : (Counts → List Token → Option Counts) → ℕ → Counts → List Token → Option Counts
after_conjunction rest d c = joined Mark.OR (expected rest d c) (rest c)

abbrev pub after_term : (Counts → List Token → Option Counts) → ℕ → Counts → List Token → Option Counts
after_term rest d c = joined Mark.AND (expected rest d c) (after_conjunction rest d c)

-- what stands behind a policy: the end of the parenthesis that it stands in, if one is open, and what stands behind that term
unfoldable pub after_policy : ℕ → Counts → List Token → Option Counts
after_policy zero c [] = some c
after_policy zero c (t ∷ ts) = none
after_policy (suc d) c ts = behind_mark Mark.rparen ts >>= λ left. after_term (λ e us. after_policy d e us) d c left

-- the counts of the whole policy, from tokens on where a term is expected, and from tokens on that stand behind one
unfoldable pub before_term : ℕ → Counts → List Token → Option Counts
before_term d c ts = expected (λ e us. after_policy d e us) d c ts

unfoldable pub behind_term : ℕ → Counts → List Token → Option Counts
behind_term d c ts = after_term (λ e us. after_policy d e us) d c ts

-- ---- on the code

abbrev pub counts_at : Reached → Counts
counts_at x = counts x.terms x.depth x.largest

-- what is left to read comes to the counts o
abbrev pub Left : Bytes → Asked → Stand → Option Counts → Type 0
Left code A (Before x) o = (ts : List Token) × From code A x.at ts × (before_term x.unclosed (counts_at x) ts ≡ o)
Left code A (Behind x) o = (ts : List Token) × From code A x.at ts × (behind_term x.unclosed (counts_at x) ts ≡ o)
Left code A (Whole x) o = some (counts_at x) ≡ o
Left code A Failed o = none ≡ o

abbrev pub goes : Stand → Bool
goes (Before x) = true
goes (Behind x) = true
goes (Whole x) = false
goes Failed = false

-- each open parenthesis has a byte
abbrev pub OpenWithin : Stand → Type 0
OpenWithin (Before x) = x.unclosed ≤ x.at
OpenWithin (Behind x) = x.unclosed ≤ x.at
OpenWithin (Whole x) = Unit {0}
OpenWithin Failed = Unit {0}

-- the turns that are left at most
abbrev pub turns_left : Bytes → Stand → ℕ
turns_left code (Before x) = 2 * (length code - x.at) + 2
turns_left code (Behind x) = 2 * (length code - x.at) + 1
turns_left code (Whole x) = 0
turns_left code Failed = 0

-- a turn of the loop, from s to r
pub record Turns (code : Bytes) (s r : Stand) : Type 0 where
  pub left : (A : Asked) (o : Option Counts) → Left code A s o → Left code A r o
  pub within : OpenWithin r
  pub fewer : goes s ≡ true → turns_left code r < turns_left code s

-- the same counts, at another place
abbrev pub moved_to : Reached → ℕ → ℕ → Reached
moved_to x n k = record { at = n; unclosed = k; terms = x.terms; depth = x.depth; largest = x.largest }

-- one term more, without parentheses, that ends before n and whose largest set has l atoms
abbrev pub with_leaf : Reached → ℕ → ℕ → Reached
with_leaf x n l =
    record { at = n; unclosed = x.unclosed; terms = min 17 (x.terms + 1); depth = max x.depth (min 9 x.unclosed); largest = max x.largest l }

-- by the head of a term
abbrev pub stand_by : Reached → std.Option Head → Stand
stand_by x (Some (Leaf n l)) = Behind (with_leaf x n l)
stand_by x (Some (Open n)) = Before (moved_to x n (x.unclosed + 1))
stand_by x None = Failed

abbrev pub OpenBefore : Reached → std.Option Head → Type 0
OpenBefore x (Some (Leaf n l)) = Unit {0}
OpenBefore x (Some (Open n)) = x.unclosed < n
OpenBefore x None = Unit {0}

-- where the loop ends says whether the tokens that the code holds are a policy, and its counts
abbrev pub Scans : Bytes → Stand → Type 0
Scans code r = (A : Asked) (ts : List Token) → From code A 0 ts → Counted r (read_policy ts)
