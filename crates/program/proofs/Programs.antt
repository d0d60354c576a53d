-- A program stays one of the same tokens with other rows of the same attributes, and with more attributes.
use Prim.Native.Nat.{ℕ}
use mathlib.Core.Path.{◌≡◌, sym, subst, ◌∙◌}
use mathlib.Core.List.{List}
use mathlib.Core.Option.{some}
use lib.Dec.{eqb, leb, ltb}
use Rattle.model.specs.Notation.{if◌then◌otherwise◌, nth}
use Rattle.model.specs.Limits.{attribute_limit}
use Rattle.model.specs.Bytes.{Bytes}
use Rattle.model.specs.Attributes.{Source}
use Rattle.model.specs.Declarations.{Declarations, Attribute, attribute_number, same_source_and_name}
use Rattle.model.specs.Tokens.{Token}
use Rattle.model.proofs.Lists.{place-nth}
use Rattle.values.specs.declared.Operand.{Operand}
use Rattle.values.specs.Operands.{lent, operand, no_values, row_type, Stands, attribute_operand}
use Rattle.program.specs.Runs.{HasRows, ProgrammedBy, Programmed}

-- the operand of attribute k, by the words of its source and its type
abbrev operand_by : ℕ → ℕ → ℕ → Operand
operand_by k source type =
    if ltb k attribute_limit
    then (if eqb source 0 then no_values
    otherwise (if leb source 3 then operand (if leb type 3 then type otherwise 0) 0 k 0
    otherwise operand (if leb type 3 then type otherwise 0) 1 k 0))
    otherwise no_values

operands_same : (D : Declarations) (a b : List ℕ) → HasRows a D → HasRows b D → (s : Source) (n : Bytes) (k : ℕ) → attribute_number D s n ≡ some k → attribute_operand a k ≡ attribute_operand b k
unfolding attribute_operand row_type attribute_number
operands_same D a b ra rb s n k e =
    let (x, f, _) = place-nth (λ x. same_source_and_name x.source x.name s n) D.attributes k e in
    let p = (ra k x f).source ∙ sym (rb k x f).source in
    let q = (ra k x f).type ∙ sym (rb k x f).type in
    λ i. operand_by k (p i) (q i)

-- other rows
pub by-any-rows : (D : Declarations) (a : List ℕ) → HasRows a D → (code rows : Bytes) (ts : List Token) → ProgrammedBy a D code rows ts → Programmed D code rows ts
by-any-rows D a ra code rows ts P b rb pairs session entries read g =
    P pairs session entries read λ s n k e. subst (λ (o : Operand). Stands (lent code pairs session entries) o (read s n)) (operands_same D b a rb ra s n k e) (g s n k e)

-- more attributes
pub more-attributes : (D E : Declarations) → ((i : ℕ) (a : Attribute) → nth D.attributes i ≡ some a → nth E.attributes i ≡ some a)
    → ((s : Source) (n : Bytes) (k : ℕ) → attribute_number D s n ≡ some k → attribute_number E s n ≡ some k)
    → (code rows : Bytes) (ts : List Token) → Programmed D code rows ts → Programmed E code rows ts
more-attributes D E rows_stay stay code rows ts P a ra pairs session entries read g =
    P a (λ i x e. ra i x (rows_stay i x e)) pairs session entries read λ s n k e. g s n k (stay s n k e)
