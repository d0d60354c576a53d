-- Corners of causes (document 02, E2): of the value and the cause of a policy, and of decisions by several rules. By computation; assumes nothing.
use Prim.Native.Nat.{ℕ}
use Prim.Native.String.{String}
use mathlib.Core.Path.{refl}
use mathlib.Core.Bool.{Bool, true, false}
use mathlib.Core.List.{List, [], ◌∷◌}
use mathlib.Core.Option.{Option, some}
use Rattle.model.specs.Notation.{◌>>=◌}
use Rattle.model.specs.Bytes.{Bytes, bytes}
use Rattle.model.specs.Tokens.{tokens_of}
use Rattle.model.specs.Grammar.{read_policy}
use Rattle.model.specs.Truth.{Truth, TRUE, FALSE, UNDEF}
use Rattle.model.specs.Meaning.{meaning}
use Rattle.model.specs.Causes.{absent, unlike, is_absent}
use Rattle.model.specs.Load.{load}
use Rattle.model.specs.Decision.{Decision, permit, deny, undefined, decide}
use Rattle.model.specs.Valley.{lines}
use Rattle.model.proofs.Computing.{computing}
use Rattle.model.proofs.Cases.{Agree, ◌yields◌}
use Rattle.model.proofs.CornersOfPolicies.{values}

-- the value of a policy, and whether it is absent: user.zones, env.snow, user.both and user.kind have values, all others have none
abbrev pub told : String → Option (Truth × Bool)
told text = tokens_of (bytes text) >>= read_policy >>= λ p. some (meaning values p, is_absent values p)

abbrev as_absent : Option (Truth × Bool)
as_absent = some (UNDEF, true)

abbrev as_unlike : Option (Truth × Bool)
as_unlike = some (UNDEF, false)

-- "absent (an operand or that attribute lacks values, even if types differ too) or unlike (all other UNDEF, the constant too)"
abbrev pub leaves : List (String × Option (Truth × Bool))
leaves =
    "user.none = 5" yields as_absent
    ∷ "5 IN user.none" yields as_absent
    ∷ "user.none SUBSET env.none" yields as_absent
    ∷ "user.zones < user.none" yields as_absent
    ∷ "user.none < \"c\"" yields as_absent
    ∷ "\"b\" < \"c\"" yields as_unlike
    ∷ "user.kind = 1" yields as_unlike
    ∷ "user.both < user.both" yields as_unlike
    ∷ "env.none" yields as_absent
    ∷ "user.kind" yields as_unlike
    ∷ "UNDEF" yields as_unlike
    ∷ "env.snow" yields some (FALSE, false)
    ∷ "user.zones = 1" yields some (TRUE, false)
    ∷ []

pub leaves-agree : Agree told leaves
unfolding computing
leaves-agree = refl

-- "An UNDEF built by AND, OR or NOT is absent if one of its UNDEF operands is": what FALSE AND, or TRUE OR, swallows is none of these
abbrev pub built : List (String × Option (Truth × Bool))
built =
    "NOT env.none" yields as_absent
    ∷ "NOT UNDEF" yields as_unlike
    ∷ "env.none AND UNDEF" yields as_absent
    ∷ "UNDEF AND env.none" yields as_absent
    ∷ "UNDEF OR env.none" yields as_absent
    ∷ "env.none OR UNDEF OR UNDEF" yields as_absent
    ∷ "UNDEF AND (UNDEF AND env.none)" yields as_absent
    ∷ "UNDEF AND UNDEF" yields as_unlike
    ∷ "UNDEF AND TRUE" yields as_unlike
    ∷ "FALSE AND env.none" yields some (FALSE, false)
    ∷ "FALSE AND env.none OR UNDEF" yields as_unlike
    ∷ "UNDEF AND (TRUE OR env.none)" yields as_unlike
    ∷ "NOT (env.none AND FALSE) AND UNDEF" yields as_unlike
    ∷ []

pub built-agree : Agree told built
unfolding computing
built-agree = refl

-- "A decision is undefined-absent if one of its UNDEF rules is absent": rules of the operation alone
abbrev pub cause_file : Bytes
cause_file =
    lines ("rights=1" ∷ "attr=env,snow,bool" ∷ "attr=env,hour,int" ∷ "op=both" ∷ "op=one" ∷ "op=none" ∷ "op=shut" ∷ "user=u" ∷ "object=o"
    ∷ "rule=both,env.hour = 10" ∷ "rule=both,\"b\" < \"c\"" ∷ "rule=one,UNDEF" ∷ "rule=one,env.hour = \"b\" AND FALSE" ∷ "rule=none,\"b\" < \"c\"" ∷ "rule=none,env.snow" ∷ "rule=none,TRUE AND UNDEF" ∷ [])

-- of user 1 at object 2: by the operation, without entries and with hour 10
abbrev pub asked : ℕ → List ℕ → Decision
asked operation entries = decide (load cause_file).state (1 ∷ 1 ∷ 2 ∷ operation ∷ 0 ∷ 0 ∷ 0 ∷ 0 ∷ entries)

abbrev pub rules : List ((ℕ × List ℕ) × Decision)
rules =
    (0, 0 ∷ 0 ∷ []) yields undefined absent
    ∷ (0, 1 ∷ 0 ∷ 1 ∷ 10 ∷ 0 ∷ 0 ∷ 0 ∷ []) yields permit 0
    ∷ (0, 1 ∷ 0 ∷ 1 ∷ 11 ∷ 0 ∷ 0 ∷ 0 ∷ []) yields undefined unlike
    ∷ (1, 0 ∷ 0 ∷ []) yields undefined unlike
    ∷ (2, 0 ∷ 0 ∷ []) yields undefined absent
    ∷ (2, 1 ∷ 0 ∷ 0 ∷ 0 ∷ 0 ∷ 0 ∷ 0 ∷ []) yields undefined unlike
    ∷ (3, 0 ∷ 0 ∷ []) yields deny
    ∷ []

pub rules-agree : Agree (λ (operation, entries). asked operation entries) rules
unfolding computing
rules-agree = refl
