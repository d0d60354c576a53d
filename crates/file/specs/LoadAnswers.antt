-- What a load answers. Assumes nothing: these are definitions.
use Rattle.std.specs.Prelude.{ℕ, Result, Ok, Err}
use Rattle.model.specs.Ledger.{Answer, loaded}
use Rattle.codes.specs.Enums.{refusal_number}
use Rattle.file.specs.declared.Refused.{Refused}

-- the number of what the code answers, and the line of a refusal or how many lines there are
abbrev pub load_number : Result ℕ Refused → ℕ
load_number (Ok lines) = 0
load_number (Err r) = refusal_number r.refusal

abbrev pub load_line : Result ℕ Refused → ℕ
load_line (Ok lines) = lines
load_line (Err r) = r.line

-- what the code answers, as the ledger has it
abbrev pub loaded_of : Result ℕ Refused → Answer
loaded_of r = loaded (load_number r) (load_line r)
