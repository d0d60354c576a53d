-- `tokens::write` meets its contract: there is room for a str.
use mathlib.Core.Path.{◌≡◌}
use native.Mathlib.Omega.{arith}
use borrow.Author.Rules.{rules}
use Rattle.std.specs.Prelude.{Some}
use Rattle.tokens.specs.declared.Token.TheVariants.{Str}
use Rattle.tokens.proofs.Wrote.{room-text}
use Rattle.tokens.proofs.write.Goals as goal

pub write_text-requires : goal.write_text-requires
write_text-requires c =
    let e : c.args.t.token ≡ Some (Str c.in-Some-Str.long) = search rules in
    let (a, b, d, e) = room-text c.in-Some-Str.long c.requires.1 e in
    (omega arith, omega arith)
