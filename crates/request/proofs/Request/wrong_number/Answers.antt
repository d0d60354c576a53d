-- `request::Request::wrong_number` meets its contract: the tests of the three numbers tell first, then that of the entries. Assumes nothing.
use Rattle.std.proofs.Common.{◌≡◌, ℕ, Bool, not, ◌||◌, eqb, leb, get_or, ap, ◌∙◌}
use borrow.Author.Tests.{eq-eqb, ne_eqb}
use Rattle.request.proofs.BlockNumbers.{or-then, or-else, wrong-early, wrong-entries}
use Rattle.request.proofs.Request.wrong_number.Goals as goal
use Rattle.request.proofs.Request.wrong_number.Goals.{then-self-from, else-self-from, then-self-from-2, else-self-from-2}

pub returns-then-self-from-3 : goal.returns-then-self-from-3
returns-then-self-from-3 c =
    let sorts = c.args.self.now.sorts.now in
    let counts = c.args.self.now.counts.now in
    let block = c.args.self.now.block.now in
    let first : c.if-self-from.value ≡ (not (eqb (get_or sorts c.from.result 0) 6) || not (eqb (get_or sorts (get_or block 2 0) 0) 7)) = elim c.if-self-from.branch [
      | then-self-from w ↦ or-then (not (eqb (get_or sorts (get_or block 2 0) 0) 7)) w.value-is (ap not (ne_eqb _ 6 w.if-self-from.true))
      | else-self-from w ↦ or-else (not (eqb (get_or sorts c.from.result 0) 6)) (w.value-is ∙ ap (λ (i : ℕ). not (eqb (get_or sorts i 0) 7)) w.from-else-self-from.ensures) (ap not (eq-eqb _ 6 w.if-self-from.false))
    ] in
    let second : c.if-self-from-2.value ≡ (c.if-self-from.value || leb (get_or counts 1 0) (get_or block 3 0)) = elim c.if-self-from-2.branch [
      | then-self-from-2 w ↦ or-then (leb (get_or counts 1 0) (get_or block 3 0)) w.value-is w.if-self-from-2.true
      | else-self-from-2 w ↦ or-else c.if-self-from.value (w.value-is ∙ ap (leb (get_or counts 1 0)) w.from-else-self-from-2.ensures) w.if-self-from-2.false
    ] in
    let early = second ∙ ap (λ (t : Bool). t || leb (get_or counts 1 0) (get_or block 3 0)) (first ∙ ap (λ (i : ℕ). not (eqb (get_or sorts i 0) 6) || not (eqb (get_or sorts (get_or block 2 0) 0) 7)) c.from.ensures) in
    λ D b of. wrong-early of (c.args.self.now.bytes 1) (c.args.self.now.bytes 2) c.if-self-from-2.value early c.if-self-from-3.true

pub returns-else-self-from-3 : goal.returns-else-self-from-3
returns-else-self-from-3 c =
    let sorts = c.args.self.now.sorts.now in
    let counts = c.args.self.now.counts.now in
    let block = c.args.self.now.block.now in
    let first : c.if-self-from.value ≡ (not (eqb (get_or sorts c.from.result 0) 6) || not (eqb (get_or sorts (get_or block 2 0) 0) 7)) = elim c.if-self-from.branch [
      | then-self-from w ↦ or-then (not (eqb (get_or sorts (get_or block 2 0) 0) 7)) w.value-is (ap not (ne_eqb _ 6 w.if-self-from.true))
      | else-self-from w ↦ or-else (not (eqb (get_or sorts c.from.result 0) 6)) (w.value-is ∙ ap (λ (i : ℕ). not (eqb (get_or sorts i 0) 7)) w.from-else-self-from.ensures) (ap not (eq-eqb _ 6 w.if-self-from.false))
    ] in
    let second : c.if-self-from-2.value ≡ (c.if-self-from.value || leb (get_or counts 1 0) (get_or block 3 0)) = elim c.if-self-from-2.branch [
      | then-self-from-2 w ↦ or-then (leb (get_or counts 1 0) (get_or block 3 0)) w.value-is w.if-self-from-2.true
      | else-self-from-2 w ↦ or-else c.if-self-from.value (w.value-is ∙ ap (leb (get_or counts 1 0)) w.from-else-self-from-2.ensures) w.if-self-from-2.false
    ] in
    let early = second ∙ ap (λ (t : Bool). t || leb (get_or counts 1 0) (get_or block 3 0)) (first ∙ ap (λ (i : ℕ). not (eqb (get_or sorts i 0) 6) || not (eqb (get_or sorts (get_or block 2 0) 0) 7)) c.from.ensures) in
    λ D b of. wrong-entries of (c.args.self.now.bytes 1) (c.args.self.now.bytes 2) c.if-self-from-2.value early c.if-self-from-3.false c.entries_fit.result c.entries_fit.ensures
