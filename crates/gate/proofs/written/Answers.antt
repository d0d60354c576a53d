-- `gate::written` meets its contract.
use Rattle.std.proofs.Common.{ℕ, List, ◌≡◌, ◌≤◌, length, take, sym, arith}
use lib.Seq.{length-take-le}
use Rattle.output.specs.Laid.{Laid}
use Rattle.output.proofs.Laying.{laid-length, laid-front}
use Rattle.gate.proofs.written.Goals as goal

-- what is laid within the buffer fills the part that its length ends
counted : {before after text : List ℕ} {r n : ℕ} → Laid before 0 text after r → r ≤ n → n ≤ length before
    → ((r ≤ length after) × (r ≡ length (take r after))) × (take r after ≡ text)
counted p short room = let l = laid-length p in ((omega arith, sym (length-take-le _ _ (omega arith))), laid-front p (omega (arith, p.behind)))

pub returns : goal.returns
returns c =
    let (prefix, after) = counted c.run.ensures.0 c.run.ensures.1 c.requires in
    record { prefix_len = prefix; out_after = after }
