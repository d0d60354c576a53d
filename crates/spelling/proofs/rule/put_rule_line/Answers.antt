-- `put_rule_line` meets its contract.
use Rattle.book.specs.Sections.{code_bytes}
use lib.ListN.{take, drop}
use Prim.Native.Nat.{ℕ, ◌+◌, ◌-◌, ◌*◌, ◌%◌}
use Rattle.spelling.specs.LineTexts.{name_text, operation_at, policy_text, rule_line_text}
use Rattle.output.proofs.Laying.{laid_on, laid_as}
use mathlib.Core.Path.{◌≡◌, ap}
use native.Mathlib.Omega.{arith}
use Rattle.spelling.proofs.rule.put_rule_line.Goals as goal

pub returns : goal.returns
unfolding rule_line_text
returns c =
    let z : code_bytes * c.args.k + 768 - code_bytes * c.args.k ≡ code_bytes = omega arith in
    (laid_on c.put_key-a.ensures.0 (laid_on (laid_as (ap (λ (k : ℕ). name_text c.args.book.now (operation_at (k % 8))) c.word-operation.ensures) c.put_name-b.ensures.0) (laid_on c.put_byte-c.ensures (laid_on (laid_as (ap (λ (k : ℕ). policy_text c.args.book.now (take k (drop (code_bytes * c.args.k) c.args.rules.now))) z) c.put_policy-d.ensures.0) c.put_byte.ensures))), omega (arith, c.put_key-a.ensures.1, c.put_name-b.ensures.1, c.put_byte-c.ensures.behind, c.put_policy-d.ensures.1, c.put_byte.ensures.behind))
