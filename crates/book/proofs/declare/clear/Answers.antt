-- `book::declare::clear` meets its contract. Assumes nothing.
use Rattle.std.proofs.Common.{ℕ, ◌<◌, ◌≡◌, length, get_or, rules}
use mathlib.Core.Path.{◌∙◌}
use native.Mathlib.Omega.{arith}
use Rattle.book.proofs.Holders.{holder-same-length}
use Rattle.book.proofs.Cleared.{emptied}
use Rattle.book.proofs.declare.clear.Goals as goal

pub returns : goal.returns
returns c =
    let long = c.fill.ensures.len ∙ c.requires in
    let zeros : (i : ℕ) → i < length c.fill.new.self → get_or c.fill.new.self i 0 ≡ 0 = search rules in
    (holder-same-length _ _ _ _ long (omega arith) _ c.put_holder.ensures ∙ c.fill.ensures.len, emptied _ long zeros _ (rw (c.from.ensures, c.pack.ensures) at c.put_holder.ensures))
