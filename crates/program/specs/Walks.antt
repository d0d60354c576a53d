-- The verdict on a policy by one walk over its tokens: what the conjunctions and terms passed so far come to, for the policy that is walked over and for
-- each one around it whose parenthesis is open.
use Rattle.std.specs.Prelude.{ℕ, ◌+◌, ◌*◌, ◌≤◌, ◌≡◌, Bool, true, false, ◌&&◌, ◌||◌, List, [], ◌∷◌, eqb, leb, length}
use Rattle.std.proofs.Math.Option.{none, some}
use Rattle.model.specs.Notation.{◌or_else◌, if◌then◌otherwise◌}
use Rattle.model.specs.Limits.{depth_limit}
use Rattle.model.specs.Truth.{TRUE, FALSE}
use Rattle.model.specs.Tokens.{Token, Mark}
use Rattle.model.specs.Grammar.{Policy, constant, lone, Reading, read_comparison}
use Rattle.model.specs.Meaning.{Values}
use Rattle.codes.specs.Codes.{mark_code}
use Rattle.truth.specs.Truths.{truth_of}
use Rattle.truth.specs.Verdicts.{Verdict, verdict, policy_verdict, both, either, signed, flag_number, verdict_number}
use Rattle.program.specs.declared.Walk as code

-- the conjunctions before, joined by OR; the terms of this one, joined by AND; and whether NOT stands before what comes next
pub record Level : Type 0 where
  pub either : Verdict
  pub both : Verdict
  pub negated : Bool

abbrev pub level : Verdict → Verdict → Bool → Level
level before this negated = record { either = before; both = this; negated = negated }

-- no conjunction so far, and no term
abbrev pub no_conjunction : Verdict
no_conjunction = verdict FALSE false

abbrev pub no_term : Verdict
no_term = verdict TRUE false

abbrev pub fresh : Level
fresh = level no_conjunction no_term false

-- what a policy comes to
abbrev pub comes_to : Level → Verdict
comes_to l = either l.either l.both

-- the same with a term of the verdict v
abbrev pub with_term : Verdict → Level → Level
with_term v l = level l.either (both l.both (signed l.negated v)) false

-- the innermost policy, and those around it, from the inside out
pub record Walk : Type 0 where
  pub inner : Level
  pub outer : List Level

abbrev pub walk : Level → List Level → Walk
walk inner outer = record { inner = inner; outer = outer }

-- the policy around the innermost one; where no parenthesis is open, one that decides nothing
abbrev pub around : List Level → Walk
around [] = walk (level no_conjunction no_conjunction false) []
around (l ∷ ls) = walk l ls

-- a term of the verdict v more
abbrev pub termed : Verdict → Walk → Walk
termed v w = walk (with_term v w.inner) w.outer

-- a mark passed, by its number: NOT, the parentheses, OR; AND changes nothing
unfoldable pub passed : ℕ → Walk → Walk
passed kind w =
    if eqb kind 12 then walk (level w.inner.either w.inner.both true) w.outer
    otherwise (if eqb kind 5 then walk fresh (w.inner ∷ w.outer)
    otherwise (if eqb kind 6 then termed (comes_to w.inner) (around w.outer)
    otherwise (if eqb kind 11 then walk (level (comes_to w.inner) no_term w.inner.negated) w.outer
    otherwise w)))

-- the numbers of these marks
unfoldable pub is_passed : ℕ → Bool
is_passed kind = (leb 5 kind && leb kind 6) || (leb 10 kind && leb kind 12)

-- a term without parentheses and NOT at the front: "`var op var`", or else "TRUE, FALSE, UNDEF, an attribute"
abbrev pub read_bare : List Token → Reading
read_bare [] = none
read_bare (Token.name s n ∷ ts) = some (lone s n, ts)
read_bare (Token.int n ∷ ts) = none
read_bare (Token.str s ∷ ts) = none
read_bare (Token.truth t ∷ ts) = some (constant t, ts)
read_bare (Token.operator o ∷ ts) = none
read_bare (Token.mark m ∷ ts) = none

unfoldable pub read_leaf : List Token → Reading
read_leaf ts = read_comparison ts or_else read_bare ts

-- the walk from w over the tokens ts passes n terms and comes to t
pub data Ends (read : Values) : Walk → List Token → ℕ → Verdict → Type 0 where
  done : {w : Walk} → Ends read w [] 0 (comes_to w.inner)
  past : {w : Walk} {m : Mark} {ts : List Token} {n : ℕ} {t : Verdict} → is_passed (mark_code m) ≡ true → length (passed (mark_code m) w).outer ≤ depth_limit
      → Ends read (passed (mark_code m) w) ts n t → Ends read w (Token.mark m ∷ ts) n t
  term : {w : Walk} {ts : List Token} {n : ℕ} {t : Verdict} (x : Policy × List Token) → read_leaf ts ≡ some x
      → Ends read (termed (policy_verdict read x.0) w) x.1 n t → Ends read w ts (1 + n) t

-- ---- the walk as the code has it

-- seven bits for each level
abbrev pub level_number : Level → ℕ
level_number l = verdict_number l.either + 8 * verdict_number l.both + 64 * flag_number l.negated

abbrev pub levels : List Level → ℕ
levels [] = 0
levels (l ∷ ls) = level_number l + 128 * levels ls

-- its verdicts
abbrev pub either_of : code.Walk → Verdict
either_of c = verdict (truth_of c.either) c.absent

abbrev pub both_of : code.Walk → Verdict
both_of c = verdict (truth_of c.both) c.lacking

pub record WalkIs (c : code.Walk) (w : Walk) : Type 0 where
  pub either_is : either_of c ≡ w.inner.either
  pub both_is : both_of c ≡ w.inner.both
  pub negated-is : c.negated ≡ w.inner.negated
  pub outer-is : c.outer ≡ levels w.outer

-- r is c with a term of the verdict v more, whatever walk it is
abbrev pub Termed : code.Walk → Verdict → code.Walk → Type 0
Termed c v r = (w : Walk) → WalkIs c w → WalkIs r (termed v w)

-- r is c with a mark passed
abbrev pub Passed : ℕ → code.Walk → code.Walk → Type 0
Passed kind c r = (w : Walk) → WalkIs c w → length (passed kind w).outer ≤ depth_limit → WalkIs r (passed kind w)

-- r is the policy around the innermost one, whatever policies the number is that of
abbrev pub Around : ℕ → code.Walk → Type 0
Around n r = (ls : List Level) → n ≡ levels ls → WalkIs r (around ls)

-- r is the start of a policy, whatever policies around it the number is that of
abbrev pub Fresh : ℕ → code.Walk → Type 0
Fresh n r = (ls : List Level) → n ≡ levels ls → WalkIs r (walk fresh ls)
