-- The call for hosts in C.
use Rattle.std.specs.Prelude.{ℕ, List, eqb}
use Rattle.model.specs.Notation.{if◌then◌otherwise◌}
use Rattle.model.specs.Numbers as refusal
use Rattle.model.specs.Bytes.{Bytes}
use Rattle.model.specs.Refusals.{wrong_table}
use Rattle.model.specs.Lines.{named_edition}
use Rattle.model.specs.Load.{load}
use Rattle.model.specs.Ledger.{table_after}
use Rattle.model.specs.Decision.{number_and_values, decide}

-- "One call for hosts in C takes file, block and table, loads, then decides"; a refused load gives its number
unfoldable pub host_call : Bytes → Bytes → ℕ → ℕ
host_call file block words =
    let l = load file in
    if wrong_table (named_edition file) words then refusal.wrong_table otherwise (if eqb l.number 0 then (number_and_values (decide l.state block)).0 otherwise l.number)

-- "Table as after the load"
unfoldable pub host_table : Bytes → List ℕ → List ℕ
host_table file words = table_after words (load file).state
