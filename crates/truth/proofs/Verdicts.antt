-- Verdicts: that of a rule, and the numbers of their parts. Assumes nothing.
use Prim.Native.Nat.{ℕ, ◌≤◌}
use mathlib.Core.Path.{◌≡◌, ap}
use mathlib.Core.Bool.{Bool, true, false}
use mathlib.Core.List.{List}
use mathlib.Core.Option.{Option, none, some}
use native.Mathlib.Omega.{arith}
use borrow.Author.Tests.{eq-eqb, ne_eqb}
use lib.Dec.{eqb}
use Rattle.model.specs.Truth as model
use Rattle.model.specs.Truth.{FALSE, UNDEF, TRUE, NOT, is_undef}
use Rattle.model.specs.Tokens.{Token}
use Rattle.model.specs.Grammar.{Policy, read_policy}
use Rattle.model.specs.Meaning.{Values, meaning, meaning_of}
use Rattle.model.specs.Causes.{is_absent, absent_of}
use Rattle.truth.specs.Verdicts.{Verdict, verdict, policy_verdict, rule_verdict, flag_number, truth_number, verdict_number}

-- ---- a rule

-- whose tokens are a policy
pub rule-read : (read : Values) (ts : List Token) (p : Policy) → read_policy ts ≡ some p → rule_verdict read ts ≡ policy_verdict read p
unfolding meaning_of absent_of
rule-read read ts p e =
    ap (λ (o : Option Policy). verdict (elim o [ some q ↦ meaning read q | none ↦ UNDEF ]) (elim o [ some q ↦ is_absent read q | none ↦ false ])) e

-- ---- numbers

pub truth-few : (t : model.Truth) → truth_number t ≤ 2
truth-few FALSE = omega arith
truth-few UNDEF = omega arith
truth-few TRUE = omega arith

pub flag-few : (b : Bool) → flag_number b ≤ 1
flag-few true = omega arith
flag-few false = omega arith

pub verdict-few : (v : Verdict) → verdict_number v ≤ 7
verdict-few v = omega (arith, truth-few v.value, flag-few v.absent)

pub flag-test : (x : ℕ) (b : Bool) → x ≡ flag_number b → eqb x 1 ≡ b
flag-test x true e = eq-eqb x 1 e
flag-test x false e = ne_eqb x 1 (λ z. omega arith)
