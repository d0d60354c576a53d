-- `values::EntryValues::next` meets its contract. Assumes nothing.
use Prim.Native.Nat.{ℕ, ◌+◌}
use mathlib.Core.List.{◌∷◌}
use mathlib.Core.Path.{◌≡◌, sym, ap, ◌∙◌}
use borrow.Author.Rules.{rules}
use Rattle.std.specs.Prelude.{Option, None, Some}
use Rattle.text.specs.declared.Words.{Words}
use Rattle.values.specs.Operands.{entry_words, entries_from}
use Rattle.values.proofs.AttributeValues.{entries-none, entries-some}
use Rattle.values.proofs.EntryValuesValues.next.Goals as goal

pub returns-in_err-j : goal.returns-in_err-j
returns-in_err-j c =
    let e : ◌≡◌ {A = Option ℕ} c.entry_number.result None = search rules in
    let n = entries-none c.args.self.now.entries.now c.args.self.now.ty c.args.self.now.k c.args.self.now.at c.entry_number.result c.entry_number.ensures e in
    search rules

pub returns : goal.returns
returns c =
    let e : ◌≡◌ {A = Option ℕ} c.entry_number.result (Some c.in_ok-j.j) = search rules in
    let w : c.one_word.result ≡ entry_words c.args.self.now.ty c.four.result = c.one_word.ensures ∙ c.entry_word.ensures in
    let v = entries-some c.args.self.now.entries.now c.args.self.now.ty c.args.self.now.k c.args.self.now.at c.entry_number.result c.entry_number.ensures e in
    v ∙ ap (λ (x : Words). x ∷ entries_from c.args.self.now.entries.now c.args.self.now.ty c.args.self.now.k (c.in_ok-j.j + 1)) (sym (w ∙ ap (entry_words c.args.self.now.ty) c.four.ensures))
