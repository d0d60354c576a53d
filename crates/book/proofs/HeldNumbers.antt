-- A book has room for the holders of every state that it holds. Assumes nothing.
use Prim.Native.Nat.{ℕ, ◌<◌}
use mathlib.Core.Path.{◌≡◌, subst}
use mathlib.Core.Bool.{true}
use mathlib.Core.List.{List}
use mathlib.Core.Option.{some}
use Rattle.model.specs.Limits.{Edition, holder_numbers}
use Rattle.model.specs.Bytes.{Bytes}
use Rattle.model.specs.Declarations.{Sort, is_holder, sort_of}
use Rattle.model.specs.State.{State}
use Rattle.model.specs.Standing.{Standing}
use Rattle.model.proofs.Standing.{holder-fits, sorted-fits}
use Rattle.book.specs.Sections.{book_holders}
use Rattle.book.specs.Held.{Holds}

module _ {book : List ℕ} {code : Bytes} {S : State} (standing : Standing S) (held : Holds book code S) (k : ℕ) where
  in-room : k < holder_numbers S.declared.edition → k < book_holders
  in-room few = subst (λ (e : Edition). k < holder_numbers e) held.edition few

  pub holder-in-book : is_holder S.declared k ≡ true → k < book_holders
  holder-in-book h = in-room (holder-fits standing k h)

  pub sorted-in-book : {s : Sort} → sort_of S.declared k ≡ some s → k < book_holders
  sorted-in-book e = in-room (sorted-fits standing k e)
