-- `request::Request::decided` meets its contract. Assumes nothing.
use Prim.Native.Nat.{ℕ}
use mathlib.Core.Path.{◌≡◌}
use mathlib.Core.List.{List}
use lib.ListN.{length, get_or}
use Rattle.model.specs.State.{State}
use Rattle.model.specs.Block.{Block}
use Rattle.request.specs.Requests.{RulesOf}
use Rattle.request.proofs.RuleValues.{NoneTrue}
use Rattle.request.proofs.Request.decided.Given as goal

abbrev pub invariant-loop-k : goal.invariant-loop-k
invariant-loop-k l =
    (S : State) (b : Block) (attributes : List ℕ)
    → RulesOf S b l.self.targets.now l.self.code.now attributes l.self.pairs.now l.session l.self.entries.now (get_or l.self.block.now 3 0)
    → length S.declared.rules ≡ l.count → NoneTrue S b l.k l.undefined l.absent
