-- What a tie is refused for, and a line with its tie: the tests of its tie stand behind those of its bytes, names and sorts. Assumes nothing.
use Rattle.std.proofs.Common.{◌≡◌, refl, sym, ap, ◌∙◌, ℕ, Bool, true, false, ◌&&◌, not, List, [], ◌∷◌, ◌++◌, Result, Ok, Err, ltb, arith}
use mathlib.Core.Path.{ap₂}
use borrow.Author.Tests.{ltb-true, not-false}
use Rattle.std.proofs.Math.Option as math
use Rattle.std.proofs.Math.Option.{some}
use Rattle.model.specs.Notation.{◌>>=◌, ◌is◌}
use Rattle.model.specs.Numbers as refusal
use Rattle.model.specs.Lines.{Line}
use Rattle.model.specs.Declarations.{holder_numbers_of}
use Rattle.model.specs.Ties as ties
use Rattle.model.specs.State as state
use Rattle.model.specs.State.{State}
use Rattle.model.specs.Refusals.{Test, ◌if◌, first, stands, repeated, tie_closes, circular, not_standing}
use Rattle.model.proofs.WordTables.{none-is-some}
use Rattle.model.proofs.Options.{parts, bind-some}
use Rattle.model.proofs.Tests.{all_numbered, none-holds}
use Rattle.codes.specs.declared.Refusal.{Refusal}
use Rattle.codes.specs.declared.Refusal.TheVariants as why
use Rattle.codes.specs.Enums.{refusal_number, number_in}
use Rattle.tielines.specs.declared.Tie.{Tie}
use Rattle.tielines.specs.TieReading.{tie_of, ReadTie}
use Rattle.tielines.specs.TieSteps.{sign_tests}

-- ---- a tie

abbrev closes : State → ties.Tie → Bool
closes S t = tie_closes (holder_numbers_of S.declared) S.ties t

module _ (S : State) (t : ties.Tie) {plus : Bool} where
  pub plus-stands : plus ≡ true → S.ties t ≡ true → refusal.repeated ≡ first (sign_tests S t plus)
  plus-stands p s = rw (p, s)

  pub plus-closes : plus ≡ true → S.ties t ≡ false → closes S t ≡ true → refusal.circular ≡ first (sign_tests S t plus)
  plus-closes p s k = rw (p, s, k)

  pub plus-free : plus ≡ true → S.ties t ≡ false → closes S t ≡ false → 0 ≡ first (sign_tests S t plus)
  plus-free p s k = rw (p, s, k)

  pub minus-stands : plus ≡ false → S.ties t ≡ true → 0 ≡ first (sign_tests S t plus)
  minus-stands p s = rw (p, s)

  pub minus-gone : plus ≡ false → S.ties t ≡ false → refusal.not_standing ≡ first (sign_tests S t plus)
  minus-gone p s = rw (p, s)

-- a tie that is refused for nothing does not stand behind `+`, and stands behind `-`
pub stood : (S : State) (t : ties.Tie) (plus : Bool) → 0 ≡ first (sign_tests S t plus) → S.ties t ≡ not plus
stood S t true e = (none-holds (sign_tests S t true) refl (sym e)).0
stood S t false e = not-false (S.ties t) (none-holds (sign_tests S t false) refl (sym e)).1.1.0

-- ---- a line

-- the tests of the tie of a line, by the line
abbrev pub line_tie_tests : State → math.Option Line → Bool → List Test
line_tie_tests S l plus =
    refusal.repeated if (plus && (l is repeated S))
    ∷ refusal.circular if (plus && (l is circular S))
    ∷ refusal.not_standing if (not plus && (l is not_standing S))
    ∷ []

stands-tie : (S : State) (l : Line) (t : ties.Tie) → state.tie_of S.declared l ≡ some t → stands S l ≡ S.ties t
unfolding stands
stands-tie S l t e = ap (λ (o : math.Option ties.Tie). o is S.ties) e

circular-tie : (S : State) (l : Line) (t : ties.Tie) → state.tie_of S.declared l ≡ some t → circular S l ≡ closes S t
unfolding circular
circular-tie S l t e = ap (λ (o : math.Option ties.Tie). o is closes S) e

not-standing-tie : (S : State) (l : Line) (t : ties.Tie) → state.tie_of S.declared l ≡ some t → not_standing S l ≡ not (S.ties t)
unfolding not_standing
not-standing-tie S l t e = ap not (stands-tie S l t e)

repeated-tie : (S : State) (l : Line) (t : ties.Tie) → state.tie_of S.declared l ≡ some t → repeated S l ≡ S.ties t
repeated-tie S (Line.attr s n y) t e = none-is-some e
repeated-tie S (Line.op n) t e = none-is-some e
repeated-tie S (Line.atom s n a) t e = none-is-some e
repeated-tie S (Line.holder s n) t e = none-is-some e
repeated-tie S (Line.parent c g) t e = stands-tie S (Line.parent c g) t e
repeated-tie S (Line.member p g) t e = stands-tie S (Line.member p g) t e
repeated-tie S (Line.value h n a) t e = stands-tie S (Line.value h n a) t e
repeated-tie S (Line.rule o ts) t e = none-is-some e

by_tie : (S : State) (l : math.Option Line) (t : ties.Tie) → (l >>= state.tie_of S.declared) ≡ some t → (plus : Bool) → first (line_tie_tests S l plus) ≡ first (sign_tests S t plus)
by_tie S l t e plus =
    let (read, r, its) = bind-some l (state.tie_of S.declared) e in
    ap (λ (o : math.Option Line). first (line_tie_tests S o plus)) r
    ∙ ap₂ (λ (a b : Bool). tests a b (not_standing S read)) (repeated-tie S read t its) (circular-tie S read t its)
    ∙ ap (tests (S.ties t) (closes S t)) (not-standing-tie S read t its)
  where
    tests : Bool → Bool → Bool → ℕ
    tests a b c = first (refusal.repeated if (plus && a) ∷ refusal.circular if (plus && b) ∷ refusal.not_standing if (not plus && c) ∷ [])

-- tests one after another
first-refused : (tests more : List Test) (n : ℕ) → n ≡ first tests → (n ≡ 0 → ⊥) → first (tests ++ more) ≡ n
first-refused [] more n e z = absurd (z e)
first-refused ((m if true) ∷ tests) more n e z = sym e
first-refused ((m if false) ∷ tests) more n e z = first-refused tests more n e z

first-passed : (tests more : List Test) → all_numbered tests ≡ true → first tests ≡ 0 → first (tests ++ more) ≡ first more
first-passed [] more p e = refl
first-passed ((m if true) ∷ tests) more p e = absurd (omega (arith, e, ltb-true 0 m (parts (ltb 0 m) (all_numbered tests) p).0))
first-passed ((m if false) ∷ tests) more p e = first-passed tests more (parts (ltb 0 m) (all_numbered tests) p).1 e

-- a line that is refused is refused for that, and else for what its tie is refused for
pub refused_for : (e : Refusal) → refusal_number e ≡ 0 → ⊥
refused_for why.WrongTable e = omega arith
refused_for why.TooLong e = omega arith
refused_for why.WrongFirstLine e = omega arith
refused_for why.Unframed e = omega arith
refused_for why.OutOfOrder e = omega arith
refused_for why.Malformed e = omega arith
refused_for why.OverLimits e = omega arith
refused_for why.Undeclared e = omega arith
refused_for why.WrongSort e = omega arith
refused_for why.Repeated e = omega arith
refused_for why.Full e = omega arith
refused_for why.Circular e = omega arith
refused_for why.OtherKey e = omega arith
refused_for why.NotStanding e = omega arith
refused_for why.BadBlock e = omega arith
refused_for why.WrongNumber e = omega arith
refused_for why.NotHeld e = omega arith
refused_for why.DoesNotFit e = omega arith

module _ {S : State} {tests : List Test} {l : math.Option Line} {r : Result Tie Refusal} (read : ReadTie S tests l r) where
  pub line_refused : (more : List Test) {e : Refusal} → r ≡ Err e → first (tests ++ more) ≡ refusal_number e
  line_refused more {e} z = first-refused tests more (refusal_number e) (sym (ap number_in z) ∙ read.refusal) (refused_for e)

  pub line-passed : all_numbered tests ≡ true → {t : Tie} → r ≡ Ok t → (plus : Bool) → first (tests ++ line_tie_tests S l plus) ≡ first (sign_tests S (tie_of t) plus)
  line-passed numbered {t} z plus =
      first-passed tests (line_tie_tests S l plus) numbered (sym read.refusal ∙ ap number_in z) ∙ by_tie S l (tie_of t) (read.tie t z) plus
