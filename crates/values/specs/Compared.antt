-- What a comparison asks of the values of two operands.
use Rattle.std.specs.Prelude.{ℕ, ◌≡◌, Bool, true, false, not, ◌&&◌, Option, Some, None, List, [], ◌∷◌, eqb, leb, ltb}
use Rattle.model.specs.Notation.{is_empty, if◌then◌otherwise◌}
use Rattle.model.specs.Limits.{largest_int}
use Rattle.model.specs.Bytes.{Bytes}
use Rattle.model.specs.Atoms.{Atom}
use Rattle.model.specs.Truth as model
use Rattle.model.specs.Truth.{truth, NOT}
use Rattle.model.specs.Tokens.{Operator}
use Rattle.model.specs.Comparison.{compare_sets, lone_value}
use Rattle.codes.specs.Codes.{operator_code}
use Rattle.truth.specs.declared.Truth.{Truth}
use Rattle.truth.specs.Truths.{truth_of}
use Rattle.text.specs.declared.Words.{Words}
use Rattle.text.specs.Values.{same_words}
use Rattle.values.specs.declared.Operand.{Operand}
use Rattle.values.specs.Operands.{Lent, lent, operand_values, Stands}

-- the greater of two numbers, or the less
unfoldable pub further : Bool → ℕ → ℕ → ℕ
further true a b = if ltb a b then b otherwise a
further false a b = if ltb b a then b otherwise a

-- the greatest, or the least, of `best` and the first words of the values
unfoldable pub extreme_from : Bool → ℕ → List Words → ℕ
extreme_from greatest best [] = best
extreme_from greatest best (w ∷ values) = extreme_from greatest (further greatest best w.first) values

-- what no int is beyond
abbrev pub worst : Bool → ℕ
worst true = 0
worst false = largest_int

abbrev pub greatest_of : List Words → ℕ
greatest_of values = extreme_from true (worst true) values

abbrev pub least_of : List Words → ℕ
least_of values = extreme_from false (worst false) values

-- the greatest, or the least, of values, if there is one
unfoldable pub extreme_of : Bool → List Words → Option ℕ
extreme_of greatest [] = None
extreme_of greatest (w ∷ values) = Some (extreme_from greatest (worst greatest) (w ∷ values))

-- the least of some values is below the greatest of others, or with `equal` not above it
unfoldable pub least_below_greatest : Bool → List Words → List Words → Bool
least_below_greatest equal low high = if equal then leb (least_of low) (greatest_of high) otherwise ltb (least_of low) (greatest_of high)

-- ---- searches: UNDEF where there is no value

-- an answer, or the next one where it is FALSE
abbrev pub or_next : model.Truth → model.Truth → model.Truth
or_next model.FALSE u = u
or_next model.UNDEF u = model.UNDEF
or_next model.TRUE u = model.TRUE

-- what a search says that met no other answer than FALSE: UNDEF where it met no value
abbrev pub at_end : Bool → model.Truth
at_end some = if some then model.FALSE otherwise model.UNDEF

-- the first answer of the values that is not FALSE; `some` says whether there was a value before them
unfoldable pub sought_from : (Words → model.Truth) → Bool → List Words → model.Truth
sought_from answer some [] = at_end some
sought_from answer some (w ∷ values) = or_next (answer w) (sought_from answer true values)

-- whether a value is among others
unfoldable pub among_of : List Words → Words → model.Truth
among_of values w = sought_from (λ v. truth (same_words w v)) false values

abbrev pub asked : Bool → model.Truth → model.Truth
asked wanted t = if wanted then t otherwise NOT t

-- whether some left value is among the right, or with `wanted` false, whether some is not
unfoldable pub found_of : Bool → List Words → List Words → model.Truth
found_of wanted left right = sought_from (λ w. asked wanted (among_of right w)) false left

-- what is said of two operands that have values
unfoldable pub of_present : List Words → List Words → model.Truth → model.Truth
of_present left right t = if (not (is_empty left) && not (is_empty right)) then t otherwise model.UNDEF

-- an order, by the least of some values and the greatest of others; "an order between non-integers" gives UNDEF
unfoldable pub order_of : ℕ → Bool → List Words → List Words → model.Truth
order_of ty equal low high = if eqb ty 1 then truth (least_below_greatest equal low high) otherwise model.UNDEF

-- what an order says of two operands, the low one first
abbrev pub below_of : Lent → Bool → Operand → Operand → model.Truth
below_of L equal low high = of_present (operand_values L low) (operand_values L high) (order_of low.ty equal (operand_values L low) (operand_values L high))

-- r is what the operator of a number says of the atoms that two operands stand for; of a number that is no operator's, UNDEF
pub record Compared (L : Lent) (n : ℕ) (left right : Operand) (r : Truth) : Type 0 where
  pub by-operator : (o : Operator) (l m : List Atom) → n ≡ operator_code o → Stands L left l → Stands L right m → truth_of r ≡ compare_sets o l m
  pub by-none : ((o : Operator) → n ≡ operator_code o → ⊥) → truth_of r ≡ model.UNDEF

-- r is what a lone attribute comes to, with the atoms that an operand stands for
pub record Lone (L : Lent) (o : Operand) (r : Truth) : Type 0 where
  pub lone-value : (l : List Atom) → Stands L o l → truth_of r ≡ lone_value l

-- r tells whether an operand lacks values, whatever the rows of pairs are
abbrev pub Lacks : Bytes → List ℕ → Bytes → Operand → Bool → Type 0
Lacks code session entries o r = (pairs : List ℕ) → r ≡ is_empty (operand_values (lent code pairs session entries) o)
