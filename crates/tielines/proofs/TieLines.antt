-- What callers take from the answer of a tie line: its tie fits the declarations, and the state with the line is the state with the tie. Assumes nothing.
use Rattle.std.proofs.Common.{◌≡◌, refl, sym, ap, ◌∙◌, ℕ, Bool, true, false, List, [], ◌∷◌, Result, Ok, arith}
use Rattle.std.proofs.Math.Option as math
use Rattle.std.proofs.Math.Option.{none, some}
use Rattle.model.specs.Notation.{◌>>=◌}
use Rattle.model.specs.Numbers as refusal
use Rattle.model.specs.Bytes.{Bytes}
use Rattle.model.specs.Lines.{Line}
use Rattle.model.specs.Ties as ties
use Rattle.model.specs.Ties.{added}
use Rattle.model.specs.State as state
use Rattle.model.specs.State.{State, tied, after}
use Rattle.model.specs.Refusals.{◌if◌, first, undeclared, wrong_sort}
use Rattle.model.specs.Load.{stepped}
use Rattle.model.specs.Standing.{Standing, TieFits}
use Rattle.model.proofs.WordTables.{none-is-some}
use Rattle.model.proofs.Standing.{tie-fits}
use Rattle.codes.specs.declared.Refusal.{Refusal}
use Rattle.codes.specs.Enums.{number_in}
use Rattle.book.specs.Held.{Holds}
use Rattle.tielines.specs.declared.Tie.{Tie}
use Rattle.tielines.specs.TieReading.{tie_of, TieOfLine}

not-wrong : (u w : Bool) → 0 ≡ first (refusal.undeclared if u ∷ refusal.wrong_sort if w ∷ []) → w ≡ false
not-wrong true w e = absurd (omega arith)
not-wrong false true e = absurd (omega arith)
not-wrong false false e = refl

pub line-tie-fits : {S : State} {book : List ℕ} {code : Bytes} → Standing S → Holds book code S → (l : Line) (r : Result Tie Refusal) (t : Tie)
    → TieOfLine book l r → r ≡ Ok t → TieFits S.declared (tie_of t)
line-tie-fits {S} {book} {code} standing held l r t answer z =
    let a = answer S code standing held in
    tie-fits S.declared l (tie_of t) (a.1 t z) (not-wrong (undeclared S.declared l) (wrong_sort S.declared l) (sym (ap number_in z) ∙ a.0))

with-tie : (S : State) {o : math.Option ties.Tie} {t : ties.Tie} → o ≡ some t
    → ◌≡◌ {A = State} (record { declared = S.declared; ties = tied o S.ties }) (record { declared = S.declared; ties = added t S.ties })
with-tie S e = ap (λ (o : math.Option ties.Tie). record { declared = S.declared; ties = tied o S.ties }) e

after-tie : (S : State) (l : Line) (t : ties.Tie) → state.tie_of S.declared l ≡ some t → after l S ≡ record { declared = S.declared; ties = added t S.ties }
unfolding after
after-tie S (Line.attr s n y) t e = none-is-some e
after-tie S (Line.op n) t e = none-is-some e
after-tie S (Line.atom s n a) t e = none-is-some e
after-tie S (Line.holder s n) t e = none-is-some e
after-tie S (Line.parent c g) t e = with-tie S e
after-tie S (Line.member p g) t e = with-tie S e
after-tie S (Line.value h n a) t e = with-tie S e
after-tie S (Line.rule o ts) t e = none-is-some e

-- the same of a line that fields read as
pub after_read : (S : State) (l : math.Option Line) (t : ties.Tie) → (l >>= state.tie_of S.declared) ≡ some t
    → stepped S l ≡ record { declared = S.declared; ties = added t S.ties }
after_read S none t e = none-is-some e
after_read S (some l) t e = after-tie S l t e
