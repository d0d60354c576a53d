-- `program::is_passed` meets its contract. Assumes nothing.
use native.Mathlib.Omega.{arith}
use Rattle.program.proofs.Marks.{below_all, parenthesis, between, word}
use Rattle.program.proofs.is_passed.Goals as goal

pub returns-then-kind-lt-LPAREN : goal.returns-then-kind-lt-LPAREN
returns-then-kind-lt-LPAREN c = below_all c.args.kind (omega arith)

pub returns-then-kind-le-RPAREN : goal.returns-then-kind-le-RPAREN
returns-then-kind-le-RPAREN c = parenthesis c.args.kind (omega arith) (omega arith)

pub returns-then-kind-lt-AND : goal.returns-then-kind-lt-AND
returns-then-kind-lt-AND c = between c.args.kind (omega arith) (omega arith)

pub returns : goal.returns
returns c = word c.args.kind (omega arith)
