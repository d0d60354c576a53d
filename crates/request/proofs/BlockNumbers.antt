-- The numbers of a block, looked up in the sections of a book. Assumes nothing.
use Prim.Native.Nat.{ℕ, ◌<◌}
use mathlib.Core.Path.{◌≡◌, refl, sym, ap, ap₂, ◌∙◌}
use mathlib.Core.Bool.{Bool, true, false, not, ◌||◌}
use mathlib.Core.List.{List}
use mathlib.Core.Option.{Option, none, some}
use lib.Dec.{eqb, leb}
use lib.ListN.{length, get_or}
use Rattle.model.specs.Notation.{◌is◌, all_of}
use Rattle.model.specs.Bytes.{Bytes}
use Rattle.model.specs.Declarations.{Declarations, Sort, sort_of, is_sort}
use Rattle.model.specs.Block.{Block}
use Rattle.model.specs.Refusals.{entry_fits, wrong_number}
use Rattle.codes.specs.Codes.{coded}
use Rattle.book.specs.Held.{sort_code}
use Rattle.request.specs.Requests.{EntriesFit, NumbersOf}
use Rattle.request.proofs.Blocks.{head_of}

user-sort : (o : Option Sort) → eqb (coded sort_code o) 6 ≡ (o is is_sort Sort.user)
user-sort none = refl
user-sort (some Sort.admin) = refl
user-sort (some Sort.ugroup) = refl
user-sort (some Sort.ogroup) = refl
user-sort (some Sort.user) = refl
user-sort (some Sort.object) = refl

object-sort : (o : Option Sort) → eqb (coded sort_code o) 7 ≡ (o is is_sort Sort.object)
object-sort none = refl
object-sort (some Sort.admin) = refl
object-sort (some Sort.ugroup) = refl
object-sort (some Sort.ogroup) = refl
object-sort (some Sort.user) = refl
object-sort (some Sort.object) = refl

-- a disjunction as the code tells it
pub or-then : {v p : Bool} (q : Bool) → v ≡ p → p ≡ true → v ≡ (p || q)
or-then q e on = e ∙ on ∙ sym (ap (λ (t : Bool). t || q) on)

pub or-else : {v q : Bool} (p : Bool) → v ≡ q → p ≡ false → v ≡ (p || q)
or-else {v} {q} p e off = e ∙ sym (ap (λ (t : Bool). t || q) off)

module _ {D : Declarations} {b : Block} {counts sorts attributes : List ℕ} {block entries : Bytes} (of : NumbersOf D b counts sorts attributes block entries) where
  user-so : get_or block 1 0 < 256 → eqb (get_or sorts (get_or block 1 0) 0) 6 ≡ (sort_of D b.user is is_sort Sort.user)
  user-so h =
      ap (λ (w : ℕ). eqb w 6) (of.sort-rows (get_or block 1 0) h) ∙ user-sort (sort_of D (get_or block 1 0))
      ∙ ap (λ (k : ℕ). sort_of D k is is_sort Sort.user) (sym (head_of block b of.read).user)

  object-so : get_or block 2 0 < 256 → eqb (get_or sorts (get_or block 2 0) 0) 7 ≡ (sort_of D b.object is is_sort Sort.object)
  object-so h =
      ap (λ (w : ℕ). eqb w 7) (of.sort-rows (get_or block 2 0) h) ∙ object-sort (sort_of D (get_or block 2 0))
      ∙ ap (λ (k : ℕ). sort_of D k is is_sort Sort.object) (sym (head_of block b of.read).object)

  operation-so : leb (get_or counts 1 0) (get_or block 3 0) ≡ leb (length D.operations) b.operation
  operation-so = ap₂ leb of.counts-are.operations (sym (head_of block b of.read).operation)

  entries-so : (r : Bool) → EntriesFit attributes entries r → r ≡ all_of (entry_fits D) b.entries
  entries-so r fit =
      fit D of.attribute-rows of.entries-of.count of.entries-of.long ∙ ap (all_of (entry_fits D)) (sym of.entries-of.are)

  -- what the tests of the three numbers tell
  abbrev early : Bool
  early = not (eqb (get_or sorts (get_or block 1 0) 0) 6) || not (eqb (get_or sorts (get_or block 2 0) 0) 7) || leb (get_or counts 1 0) (get_or block 3 0)

  module _ (user-small : get_or block 1 0 < 256) (object-small : get_or block 2 0 < 256) where
    by-tests : (early || not (all_of (entry_fits D) b.entries)) ≡ wrong_number D b
    unfolding wrong_number
    by-tests = ap (λ (t : Bool). t || not (all_of (entry_fits D) b.entries))
        (ap₂ (λ (t u : Bool). t || u) (ap₂ (λ (t u : Bool). not t || not u) (user-so user-small) (object-so object-small)) operation-so)

    pub wrong-early : (t : Bool) → t ≡ early → t ≡ true → t ≡ wrong_number D b
    wrong-early t told on = on ∙ ap (λ (u : Bool). u || not (all_of (entry_fits D) b.entries)) (sym on ∙ told) ∙ by-tests

    pub wrong-entries : (t : Bool) → t ≡ early → t ≡ false → (r : Bool) → EntriesFit attributes entries r → not r ≡ wrong_number D b
    wrong-entries t told off r fit = ap not (entries-so r fit) ∙ ap (λ (u : Bool). u || not (all_of (entry_fits D) b.entries)) (sym off ∙ told) ∙ by-tests
