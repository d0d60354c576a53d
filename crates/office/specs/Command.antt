-- A command by its parts: what it calls.
use Rattle.std.specs.Prelude.{◌≡◌, Option, Some, None}
use Rattle.std.proofs.Math.Option.{none, some}
use Rattle.model.specs.Bytes.{Bytes}
use Rattle.model.specs.Ledger.{Call}
use Rattle.model.specs.Gate.{call_of}
use Rattle.office.specs.declared.command.Command.{Command}
use Rattle.office.specs.declared.command.Command.TheVariants.{Edit, Request}

-- the call of a line, by the kind of command
abbrev pub CommandTold : Bytes → Option Command → Type 0
CommandTold line (Some Edit) = call_of line ≡ some (Call.edit line)
CommandTold line (Some (Request block)) = call_of line ≡ some (Call.request block.now)
CommandTold line None = call_of line ≡ none
