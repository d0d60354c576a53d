-- Whether an operand lacks values, by the search for its first one. Assumes nothing.
use Prim.Native.Nat.{ℕ, ◌+◌, ◌*◌, ◌/◌}
use mathlib.Core.Path.{◌≡◌, refl, sym, ap, ◌∙◌}
use mathlib.Core.Bool.{Bool, true, false, not}
use mathlib.Core.List.{List}
use lib.Dec.{eqb}
use lib.ListN.{length}
use Rattle.model.specs.Notation.{is_empty}
use Rattle.model.specs.Bytes.{Bytes}
use Rattle.model.specs.Block.{byte_at, value_at}
use Rattle.text.specs.declared.Words.{Words}
use Rattle.std.specs.Prelude.{Option, Some, None}
use Rattle.std.specs.Option.{is_some, is_none}
use Rattle.values.specs.declared.Operand.{Operand}
use Rattle.values.specs.declared.Found.{Found}
use Rattle.values.specs.Operands.{lent, First, FirstPair, Finds, onward, found_by, pair_words, entry_words, words_from, entries_from, constants_from}
use Rattle.values.specs.Compared.{Lacks}
use Rattle.values.proofs.AttributeValues.{entry-finds, session-values, block-values, code-values}

-- `is_none`, as its contract has it
pub none-so : {A : Type 0} (r : Option A) (b : Bool) → is_some r ≡ not b → b ≡ is_none r
none-so None true e = refl
none-so None false e = e
none-so (Some x) true e = e
none-so (Some x) false e = refl

found_none : (from : ℕ → List Words) (i : ℕ) (r : Option Found) → Finds from i r → is_none r ≡ is_empty (from i)
found_none from i r f = go r ∙ ap is_empty (sym f.so)
  where
    go : (r : Option Found) → is_none r ≡ is_empty (onward r from)
    go None = refl
    go (Some x) = refl

none-by : (value : ℕ → Words) (r : Option ℕ) → is_none r ≡ is_none (found_by value r)
none-by value None = refl
none-by value (Some n) = refl

module _ (code : Bytes) (session : List ℕ) (entries : Bytes) (o : Operand) where
  pub no-pair : o.place ≡ 0 → (r : Option ℕ) → FirstPair session o.start 0 r → Lacks code session entries o (is_none r)
  no-pair e r first pairs =
      none-by (pair_words pairs) r
      ∙ found_none (words_from pairs session o.start) 0 (found_by (pair_words pairs) r) (first.finds pairs)
      ∙ ap is_empty (session-values (lent code pairs session entries) o e)

  pub no-entry : o.place ≡ 1 → (r : Option ℕ) → First (λ j. eqb (byte_at entries (5 * j)) o.start) (length entries / 5) 0 r → Lacks code session entries o (is_none r)
  no-entry e r first pairs =
      none-by (λ n. entry_words o.ty (value_at entries (5 * n + 1))) r
      ∙ found_none (entries_from entries o.ty o.start) 0 _ (entry-finds entries o.ty o.start 0 r first)
      ∙ ap is_empty (block-values (lent code pairs session entries) o e)

  pub no-constant : (o.place ≡ 0 → ⊥) → (o.place ≡ 1 → ⊥) → (r : Option Found) → Finds (constants_from o.ty code o.end) o.start r → Lacks code session entries o (is_none r)
  no-constant a b r f pairs =
      found_none (constants_from o.ty code o.end) o.start r f ∙ ap is_empty (code-values (lent code pairs session entries) o a b)
