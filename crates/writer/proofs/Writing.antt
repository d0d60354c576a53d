-- A text that is refused, and one that is laid from a buffer's start: what the writer's answer and the buffer then are. Assumes nothing.
use Prim.Native.Nat.{ℕ, ◌+◌, ◌≤◌, ◌<◌}
use mathlib.Core.Path.{◌≡◌, refl, sym, ap, ap₂, ◌∙◌}
use mathlib.Core.Bool.{Bool, ◌||◌}
use mathlib.Core.List.{List, ◌++◌}
use native.Mathlib.Omega.{arith}
use borrow.Author.Tests.{lt-ltb, le-ltb}
use lib.ListN.{length, drop}
use lib.Seq.{sets-eq}
use lib.Dec.{ltb}
use Rattle.model.specs.Notation.{if◌then◌otherwise◌}
use Rattle.model.specs.Limits.{file_bytes}
use Rattle.model.specs.Numbers as refusal
use Rattle.model.specs.Bytes.{Bytes}
use Rattle.model.specs.Refusals.{does_not_fit}
use Rattle.model.specs.FileText.{FileWritten, write_text, write_file}
use Rattle.output.specs.Laid.{Laid}
use Rattle.writer.specs.Texts.{book_text}
use Rattle.writer.specs.WriteCalls.{written, WriteCall, LengthCall}
use Rattle.writer.proofs.BookTexts.{book-text}

module _ (text before : Bytes) where
  abbrev refused : FileWritten
  refused = written refusal.does_not_fit 0 before

  abbrev done : FileWritten
  done = written 0 (length text) (text ++ drop (length text) before)

  by-test : {x y : Bool} → ltb (length before) (length text) ≡ x → ltb file_bytes (length text) ≡ y → (if (x || y) then refused otherwise done) ≡ write_text text before
  unfolding write_text does_not_fit
  by-test p q = ap₂ (λ (x y : Bool). if (x || y) then refused otherwise done) (sym p) (sym q)

  pub over-buffer : length before < length text → refused ≡ write_text text before
  over-buffer l = by-test (lt-ltb (length before) (length text) l) refl

  pub over-limit : length text ≤ length before → file_bytes < length text → refused ≡ write_text text before
  over-limit l m = by-test (le-ltb (length before) (length text) l) (lt-ltb file_bytes (length text) m)

  pub laid-whole : {after : Bytes} {r n : ℕ} → Laid before 0 text after r → n ≡ length text → n ≤ length before → n ≤ file_bytes → written 0 n after ≡ write_text text before
  laid-whole {after} {r} {n} p e l m =
      let z : 0 + length text ≡ length text = omega arith in
      ap₂ (λ (k : ℕ) (b : Bytes). written 0 k b) e (p.is ∙ sets-eq text before 0 (omega arith) ∙ ap (λ (j : ℕ). text ++ drop j before) z)
      ∙ by-test (le-ltb (length before) (length text) (omega arith)) (le-ltb file_bytes (length text) (omega arith))

-- what is written on any words is the file of the state that they hold
pub call : {book : List ℕ} {rules before : Bytes} {number long : ℕ} {after : Bytes} → written number long after ≡ write_text (book_text book rules) before
    → WriteCall book rules before number long after
unfolding write_file
call {book} {rules} {before} e = record { any = e; exact = λ S st h. e ∙ ap (λ (t : Bytes). write_text t before) (book-text st h) }

-- and so is the length that is told: the place behind their text, laid from a buffer's start
pub length-call : {book : List ℕ} {rules before after : Bytes} {told : ℕ} → Laid before 0 (book_text book rules) after told → LengthCall book rules told
length-call {book} {rules} {told = told} p =
    let e : told ≡ length (book_text book rules) = omega (arith, p.behind) in
    record { any = e; exact = λ S st h. e ∙ ap length (book-text st h) }
