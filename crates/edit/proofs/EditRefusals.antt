-- An edit's refusal: that of the line behind the sign, or else that of its tie. Assumes nothing.
use Prim.Native.Nat.{◌-◌}
use mathlib.Core.Path.{◌≡◌, refl, sym, ap, ap₂, ◌∙◌}
use mathlib.Core.Bool.{Bool, true, false, ◌||◌, not}
use mathlib.Core.List.{List, [], ◌∷◌, ◌++◌}
use mathlib.Core.Option.{Option, some}
use Rattle.std.proofs.Common.{Result, Ok, Err, None, Some}
use lib.ListN.{length, take, drop}
use Rattle.model.specs.Notation.{◌>>=◌, ◌or_else◌, ◌is◌, is_none, only_if}
use Rattle.model.specs.Numbers as refusal
use Rattle.model.specs.Bytes.{Bytes}
use Rattle.model.specs.Lines.{read_line}
use Rattle.model.specs.State as state
use Rattle.model.specs.State.{State}
use Rattle.model.specs.Refusals.{Test, ◌if◌, first, unframed, other_key, malformed, undeclared, wrong_sort, repeated, circular, plus_line, minus_line, not_standing, edit_refusal}
use Rattle.model.specs.Edits.{edited_tie, adds}
use Rattle.text.proofs.LoopPlaces.{tail-part}
use Rattle.codes.specs.declared.Refusal.{Refusal}
use Rattle.codes.specs.Enums.{refusal_number}
use denote.Enum.Bare.{sameb}
use Rattle.fields.specs.contracts.Sign.{the_type}
use Rattle.fields.specs.declared.Sign.{Sign}
use Rattle.fields.specs.declared.Sign.TheVariants.{Plus, Minus}
use Rattle.fields.specs.Frames.{Signed, is_plus, is_minus}
use Rattle.tielines.specs.declared.Tie.{Tie}
use Rattle.tielines.specs.TieReading.{tie_of, ReadTie}
use Rattle.tielines.specs.TieSteps.{sign_tests}
use Rattle.tielines.proofs.TieRefusals.{line_tie_tests, line_refused, line-passed}
use Rattle.edit.specs.EditSteps.{behind_sign_tests}

-- ---- the sign

-- the tests of an edit whose lines behind `+` and `-` are p and m
abbrev tests_of : State → Option Bytes → Option Bytes → List Test
tests_of S p m =
    let line = p or_else m in
    let l = line >>= read_line in
    (refusal.unframed if (is_none line || (line is unframed))
    ∷ refusal.other_key if (line is other_key)
    ∷ refusal.malformed if (line is malformed)
    ∷ refusal.undeclared if (l is undeclared S.declared)
    ∷ refusal.wrong_sort if (l is wrong_sort S.declared)
    ∷ refusal.repeated if ((p >>= read_line) is repeated S)
    ∷ refusal.circular if ((p >>= read_line) is circular S)
    ∷ refusal.not_standing if ((m >>= read_line) is not_standing S)
    ∷ [])

refusal-of : (S : State) (edit : Bytes) {p m : Option Bytes} → plus_line edit ≡ p → minus_line edit ≡ m → edit_refusal S edit ≡ first (tests_of S p m)
unfolding edit_refusal
refusal-of S edit e f = ap₂ (λ (p m : Option Bytes). first (tests_of S p m)) e f

pub unsigned : (S : State) (edit : Bytes) → Signed edit None → edit_refusal S edit ≡ refusal.unframed
unsigned S edit signed = refusal-of S edit signed.plus signed.minus

-- the line behind the sign, of an edit that adds or removes
pub record SignedLine (edit : Bytes) (plus : Bool) (line : Bytes) : Type 0 where
  pub plus-is : plus_line edit ≡ only_if plus line
  pub minus_is : minus_line edit ≡ only_if (not plus) line

-- whether an edit adds
pub plus-is : (s : Sign) → sameb the_type s Plus ≡ is_plus (Some s)
plus-is Plus = refl
plus-is Minus = refl

-- the line as it is lent
abbrev pub line_of : Bytes → Bytes
line_of edit = take (length edit - 1) (drop 1 edit)

pub signed-line : (edit : Bytes) {s : Sign} {plus : Bool} → Signed edit (Some s) → plus ≡ is_plus (Some s) → SignedLine edit plus (line_of edit)
signed-line edit {s} signed e = record {
  plus-is = signed.plus ∙ ap₂ only_if (sym e) (sym (tail-part 1 edit));
  minus_is = signed.minus ∙ ap₂ only_if (one s ∙ ap not (sym e)) (sym (tail-part 1 edit));
}
  where
    one : (s : Sign) → is_minus (Some s) ≡ not (is_plus (Some s))
    one Plus = refl
    one Minus = refl

-- ---- the whole

module _ (S : State) (edit : Bytes) (plus : Bool) (line : Bytes) (signed : SignedLine edit plus line) where
  line-and-tie : edit_refusal S edit ≡ first (behind_sign_tests line S ++ line_tie_tests S (read_line line) plus)
  line-and-tie = refusal-of S edit signed.plus-is signed.minus_is ∙ go plus
    where
      go : (b : Bool) → first (tests_of S (only_if b line) (only_if (not b) line)) ≡ first (behind_sign_tests line S ++ line_tie_tests S (read_line line) b)
      go true = refl
      go false = refl

  module _ {r : Result Tie Refusal} (read : ReadTie S (behind_sign_tests line S) (read_line line) r) where
    pub edit-refused : {n : Refusal} → r ≡ Err n → edit_refusal S edit ≡ refusal_number n
    edit-refused e = line-and-tie ∙ line_refused read (line_tie_tests S (read_line line) plus) e

    module _ {t : Tie} (e : r ≡ Ok t) where
      pub tie-refusal : edit_refusal S edit ≡ first (sign_tests S (tie_of t) plus)
      tie-refusal = line-and-tie ∙ line-passed read refl e plus

      pub edited-tie : edited_tie S edit ≡ some (tie_of t)
      unfolding edited_tie
      edited-tie = ap₂ (λ (p m : Option Bytes). (p or_else m) >>= read_line >>= state.tie_of S.declared) signed.plus-is signed.minus_is ∙ go plus
        where
          go : (b : Bool) → ((only_if b line or_else only_if (not b) line) >>= read_line >>= state.tie_of S.declared) ≡ some (tie_of t)
          go true = read.tie t e
          go false = read.tie t e

  pub adds-is : adds edit ≡ plus
  adds-is = ap (λ (p : Option Bytes). not (is_none p)) signed.plus-is ∙ go plus
    where
      go : (b : Bool) → not (is_none (only_if b line)) ≡ b
      go true = refl
      go false = refl
