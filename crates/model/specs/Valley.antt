-- The valley file, its session, and the valley cases A to L.
use Rattle.std.specs.Prelude.{ℕ, ◌*◌, ◌/◌, ◌≡◌, List, [], ◌∷◌, ◌++◌, length, get_or}
use Prim.Native.String.{String}
use Rattle.std.proofs.Math.Option.{Option, none, some}
use Rattle.model.specs.Notation.{◌>>=◌, each, map, below}
use Rattle.model.specs.Bytes.{Bytes, bytes}
use Rattle.model.specs.Table.{table}
use Rattle.model.specs.Tokens.{tokens_of}
use Rattle.model.specs.Grammar.{read_policy}
use Rattle.model.specs.Truth.{Truth, TRUE, UNDEF}
use Rattle.model.specs.Meaning.{meaning}
use Rattle.model.specs.State.{State}
use Rattle.model.specs.Refusals.{line_refusal}
use Rattle.model.specs.Causes.{Cause, absent, unlike, is_absent, cause_by}
use Rattle.model.specs.Decision.{Decision, permit, undefined, refused, decide}
use Rattle.model.specs.Load.{load}
use Rattle.model.specs.Edits.{edit}

-- texts, each with byte 10 behind it
abbrev pub lines : List String → Bytes
lines l = each (λ s. bytes s ++ bytes "\n") l

-- "Valley file, 27 lines"
abbrev pub valley_lines : List String
valley_lines =
    "rights=1"
    ∷ "attr=user,kind,str" ∷ "attr=user,zone,int" ∷ "attr=user,staff,bool" ∷ "attr=object,zone,int" ∷ "attr=env,hour,int"
    ∷ "op=pass"
    ∷ "atom=user.kind,\"day\"" ∷ "atom=user.kind,\"season\"" ∷ "atom=user.zone,1" ∷ "atom=user.zone,2" ∷ "atom=object.zone,2"
    ∷ "ugroup=day" ∷ "ugroup=season" ∷ "ogroup=upper" ∷ "user=p17" ∷ "object=g2"
    ∷ "parent=season,day" ∷ "member=p17,season" ∷ "member=g2,upper"
    ∷ "value=day,kind,\"day\"" ∷ "value=day,zone,1" ∷ "value=season,kind,\"season\"" ∷ "value=season,zone,2" ∷ "value=upper,zone,2"
    ∷ "rule=pass,user.zone = object.zone AND env.hour < 17" ∷ "rule=pass,user.staff" ∷ []

abbrev pub valley_file : Bytes
valley_file = lines valley_lines

-- "Then `end=`, `try=01040500030000000100` `040a000000` (one line), `-parent=season,day`"
abbrev pub valley_input : Bytes
valley_input = valley_file ++ lines ("end=" ∷ "try=01040500030000000100040a000000" ∷ "-parent=season,day" ∷ [])

-- "prints `load=0,27`, `try=permit,0`, `edit=0,2`", and by document 02, E3, a third number on the last: season joins once, p17 once and for its one group
abbrev pub valley_printed : Bytes
valley_printed = lines ("load=0,27" ∷ "try=permit,0" ∷ "edit=0,2,3" ∷ [])

-- what a definition gives, and what the document says that it gives
infix 70 ◌gives◌
pub data Case : Type 1 where
  ◌gives◌ : {A : Type 0} → A → A → Case

-- each case of a list holds
infixr 5 ◌also◌
pub data EachHolds : List Case → Type 1 where
  end : EachHolds []
  ◌also◌ : {A : Type 0} {x y : A} {rest : List Case} → x ≡ y → EachHolds rest → EachHolds ((x gives y) ∷ rest)

-- the state that the valley file leaves
abbrev pub valley : State
valley = (load valley_file).state

-- a pass of p17 (holder 4) at g2 (holder 5), with an activation mask and entries
abbrev pub pass : ℕ → List ℕ → Decision
pass mask entries = decide valley (1 ∷ 4 ∷ 5 ∷ 0 ∷ mask ∷ 0 ∷ 0 ∷ 0 ∷ length entries / 5 ∷ 0 ∷ entries)

-- an entry of env.hour (attribute 4)
abbrev pub hour : ℕ → List ℕ
hour h = 4 ∷ h ∷ 0 ∷ 0 ∷ 0 ∷ []

-- the number of an edit, its count and its joins, and the state behind it
abbrev pub answer_to : State → String → ℕ × ℕ × ℕ
answer_to S line = let e = edit S (lines (line ∷ [])) in (e.number, e.changed, e.joins)

abbrev pub behind_edit : State → String → State
behind_edit S line = (edit S (lines (line ∷ []))).state

-- the value of a policy where every attribute is absent, and the cause if it is UNDEF; none where it is malformed
abbrev pub alone : String → Option Truth
alone text = tokens_of (bytes text) >>= read_policy >>= λ p. some (meaning (λ s n. []) p)

abbrev pub alone_cause : String → Option Cause
alone_cause text = tokens_of (bytes text) >>= read_policy >>= λ p. some (cause_by (is_absent (λ s n. []) p))

-- cases A to L "On the valley file", in order, a line each; G has two, and K, with its cause. Edits have the joins of document 02, E3, too
abbrev pub cases : List Case
cases =
    map (λ k. get_or (table valley.declared valley.ties) (4 * k) 0) (below 6) gives (0 ∷ 5 ∷ 15 ∷ 16 ∷ 15 ∷ 16 ∷ [])
    ∷ pass 3 (hour 16) gives permit 0
    ∷ pass 3 (hour 17) gives undefined absent
    ∷ pass 3 [] gives undefined absent
    ∷ pass 4 (hour 16) gives refused 17
    ∷ answer_to valley "+parent=day,season" gives (12, 0, 0)
    ∷ answer_to valley "+value=day,zone,2" gives (0, 1, 5)
    ∷ answer_to (behind_edit valley "+value=day,zone,2") "-value=season,zone,2" gives (0, 0, 4)
    ∷ answer_to valley "+member=p17,upper" gives (9, 0, 0)
    ∷ answer_to valley "-member=p17,day" gives (14, 0, 0)
    ∷ alone "FALSE AND TRUE OR TRUE" gives some TRUE
    ∷ alone "\"b\" < \"c\"" gives some UNDEF
    ∷ alone_cause "\"b\" < \"c\"" gives some unlike
    ∷ line_refusal valley none (lines ("rule=pass,NOT user.kind = \"day\"" ∷ [])) gives 6
    ∷ []
