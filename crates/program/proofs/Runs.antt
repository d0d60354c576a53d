-- A run over a program, token by token and row by row.
use Prim.Native.Nat.{ℕ, ◌+◌, ◌≤◌}
use mathlib.Core.Path.{◌≡◌, refl, sym, ap, ◌∙◌}
use mathlib.Core.Bool.{Bool, true}
use mathlib.Core.List.{[]}
use native.Mathlib.Omega.{arith}
use lib.ListN.{length, get_or}
use Rattle.model.specs.Notation.{if◌then◌otherwise◌}
use Rattle.model.specs.Bytes.{Bytes}
use Rattle.model.proofs.WordTables.{false-is-true}
use Rattle.truth.specs.declared.verdict.Verdict as truth
use Rattle.truth.specs.Verdicts.{Verdict, verdict_of, either}
use Rattle.values.specs.Operands.{Lent}
use Rattle.program.specs.declared.Walk as code
use Rattle.program.specs.Walks.{Walk, walk, fresh, Fresh, termed, passed, is_passed, either_of, both_of, WalkIs}
use Rattle.program.specs.TermRows.{row_bytes, row_next}
use Rattle.program.specs.Runs.{Runs, done, past, term, NextAt, next_row, Stepped, Ran}
use Rattle.program.proofs.Levels.{verdict-is}

-- a run from the start goes on from here, with c for its walk
abbrev pub Running : Lent → Bytes → code.Walk → ℕ → ℕ → Type 0
Running L rows c row at = (t : Verdict) → Runs L rows (walk fresh []) 0 0 t → (w : Walk) × Runs L rows w row at t × WalkIs c w

-- the number of the end is that of no mark
end_mark : {A : Type 0} (kind : ℕ) → kind ≡ 0 → is_passed kind ≡ true → A
unfolding is_passed
end_mark kind e p = false-is-true (ap is_passed (sym e) ∙ p)

module _ (L : Lent) (rows : Bytes) (c : code.Walk) where
  pub run-starts : Fresh 0 c → Running L rows c 0 0
  run-starts begins t r = (walk fresh [], r, begins [] refl)

  module _ (row at : ℕ) (R : Running L rows c row at) where
    pub run_ends : get_or L.code at 0 ≡ 0 → (v : truth.Verdict) → verdict_of v ≡ either (either_of c) (both_of c) → Ran L rows v
    run_ends z v e t r = let (w, s, is) = R t r in go w t s is
      where
        go : (w : Walk) (t : Verdict) → Runs L rows w row at t → WalkIs c w → verdict_of v ≡ t
        go w t (done h k) is = verdict-is c w is v e
        go w t (past h p few s) is = end_mark (get_or L.code at 0) z p
        go w t (term h n p fits u ahead s) is = absurd (n z)

    pub run_out : length L.code ≤ at → (v : truth.Verdict) → Ran L rows v
    run_out l v t r = let (w, s, is) = R t r in go w t s
      where
        go : (w : Walk) (t : Verdict) → Runs L rows w row at t → verdict_of v ≡ t
        go w t (done h k) = absurd (omega arith)
        go w t (past h p few s) = absurd (omega arith)
        go w t (term h n p fits u ahead s) = absurd (omega arith)

    pub run-steps : (get_or L.code at 0 ≡ 0 → ⊥) → (q : code.Walk) → Stepped L rows (get_or L.code at 0) row c q → (n : ℕ) → NextAt rows (get_or L.code at 0) row at n
        → (m : ℕ) → m ≡ next_row (get_or L.code at 0) row → Running L rows q m n
    run-steps some q S n N m e t r = let (w, s, is) = R t r in go w t s is
      where
        kind : ℕ
        kind = get_or L.code at 0

        go : (w : Walk) (t : Verdict) → Runs L rows w row at t → WalkIs c w → (v : Walk) × Runs L rows v m n t × WalkIs q v
        go w t (done h k) is = absurd (some k)
        go w t (past h p few s) is =
            let x : n ≡ at + 1 = N.mark p in
            let y : m ≡ row = e ∙ ap (λ (b : Bool). if b then row otherwise row + row_bytes) p in
            (passed kind w, rw (x, y) s, S.mark p w is few)
        go w t (term {u = u} h k p fits v ahead s) is =
            let x : n ≡ row_next rows row = omega (arith, N.behind_row p fits) in
            let y : m ≡ row + row_bytes = e ∙ ap (λ (b : Bool). if b then row otherwise row + row_bytes) p in
            (termed u w, rw (x, y) s, S.row-value p fits u v w is)
