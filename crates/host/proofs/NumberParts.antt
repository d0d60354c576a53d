-- What holds of a number and of what it carries holds of the parts of the one number that has both. Assumes nothing.
use Prim.Native.Nat.{ℕ, ◌+◌, ◌*◌, ◌/◌, ◌%◌}
use mathlib.Core.Path.{◌≡◌, sym, subst}
use mathlib.Core.List.{List}
use native.Mathlib.Omega.{arith}
use Rattle.model.specs.Bytes.{Bytes}
use Rattle.model.specs.Ledger.{Outcome, loaded, edited}
use Rattle.book.specs.Calls.{Gives}
use Rattle.edit.specs.EditSteps.{EditCall}
use Rattle.host.specs.AnswerNumbers.{high, load_answer, count_numbers, edit_answer, Packs}

unpacked : (P : ℕ → ℕ → Type 0) {number carried r : ℕ} → Packs number carried r → P number carried → P (r % high) (r / high)
unpacked P {number} {carried} {r} packs p = subst (λ (n : ℕ). P n (r / high)) (sym packs.low_bits) (subst (λ (c : ℕ). P number c) (sym packs.high_bits) p)

pub load-unpacked : {o : Outcome} {words book : List ℕ} {code : Bytes} {number line r : ℕ} → Packs number line r → Gives o (loaded number line) words book code
    → Gives o (load_answer r) words book code
load-unpacked {o} {words} {book} {code} packs g = unpacked (λ n l. Gives o (loaded n l) words book code) packs g

pub edit-unpacked : {line : Bytes} {book words words' book' : List ℕ} {number count joins r : ℕ} → Packs number (count + count_numbers * joins) r
    → EditCall line book words (edited number count joins) words' book' → EditCall line book words (edit_answer r) words' book'
edit-unpacked {line} {book} {words} {words'} {book'} {number} {count} {joins} packs g =
    let low : (count + count_numbers * joins) % count_numbers ≡ count = omega (arith, g.bounded.few) in
    let above : (count + count_numbers * joins) / count_numbers ≡ joins = omega (arith, g.bounded.few) in
    unpacked (λ n c. EditCall line book words (edited n (c % count_numbers) (c / count_numbers)) words' book') packs
    (subst (λ (c : ℕ). EditCall line book words (edited number c ((count + count_numbers * joins) / count_numbers)) words' book') (sym low)
    (subst (λ (j : ℕ). EditCall line book words (edited number count j) words' book') (sym above) g))
