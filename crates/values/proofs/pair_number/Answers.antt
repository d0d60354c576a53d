-- `values::pair_number` meets its contract. Assumes nothing.
use native.Mathlib.Omega.{arith}
use Rattle.values.proofs.AttributeValues.{no_words, first-pair, no-pair}
use Rattle.values.proofs.pair_number.Goals as goal

pub returns-then-k-ge-ATTRIBUTES : goal.returns-then-k-ge-ATTRIBUTES
returns-then-k-ge-ATTRIBUTES c = no_words c.args.session.now c.args.k c.args.i c.if-k-ge-ATTRIBUTES.true

pub returns-then-p-lt-PAIRS : goal.returns-then-p-lt-PAIRS
returns-then-p-lt-PAIRS c =
    first-pair c.args.session.now c.args.k c.args.i (omega arith) (omega arith) c.first_from-p.result c.first_from-p.ensures c.if-p-lt-PAIRS.true

pub returns-else-p-lt-PAIRS : goal.returns-else-p-lt-PAIRS
returns-else-p-lt-PAIRS c =
    no-pair c.args.session.now c.args.k c.args.i (omega arith) (omega arith) c.first_from-p.result c.first_from-p.ensures (omega arith)
