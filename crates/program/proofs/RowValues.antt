-- The verdict on a row, by its kind.
use Prim.Native.Nat.{ℕ, ◌≤◌}
use mathlib.Core.Path.{◌≡◌, refl, sym, ap, ap₂, subst, ◌∙◌}
use mathlib.Core.Bool.{Bool, true, false, ◌||◌}
use mathlib.Core.List.{List, [], ◌∷◌}
use native.Mathlib.Omega.{arith}
use Rattle.model.specs.Notation.{map, is_empty}
use Rattle.model.specs.Bytes.{Bytes}
use Rattle.model.specs.Atoms.{Atom}
use Rattle.model.specs.Truth as model
use Rattle.model.specs.Truth.{is_undef}
use Rattle.model.specs.Causes.{lacks}
use Rattle.model.proofs.WordTables.{false-is-true}
use Rattle.model.proofs.Causes.{lone-undef, compare-undef}
use Rattle.codes.specs.Codes.{truth_code}
use Rattle.codes.proofs.TokenKinds.{truth-range, operator-range}
use Rattle.text.specs.Values.{atom_words}
use denote.Enum.Bare.{sameb}
use Rattle.truth.specs.contracts.Truth.{the_type}
use Rattle.truth.specs.declared.Truth.{Truth}
use Rattle.truth.specs.declared.Truth.TheVariants.{False, Undef, True}
use Rattle.truth.specs.declared.verdict.Verdict as code
use Rattle.truth.specs.Truths.{truth_of}
use Rattle.truth.specs.Verdicts.{Verdict, verdict, verdict_of}
use Rattle.values.specs.declared.Operand.{Operand}
use Rattle.values.specs.Operands.{Lent, lent, operand_values, Stands}
use Rattle.values.specs.Compared.{Compared, Lone, Lacks}
use Rattle.program.specs.TermRows.{row_kind, row_left, row_right, RowValue, RowTruth, RowLacks, RowTold, constant, lone, compare}

-- whether a value is UNDEF, as the code asks it
pub undef_so : (t : Truth) → sameb the_type t Undef ≡ is_undef (truth_of t)
undef_so False = refl
undef_so Undef = refl
undef_so True = refl

-- ---- the value, by the kind of the row

module _ (L : Lent) (rows : Bytes) (row : ℕ) where
  pub spoken-row : 13 ≤ row_kind rows row → row_kind rows row ≤ 15
      → (t : Truth) → ((u : model.Truth) → row_kind rows row ≡ truth_code u → truth_of t ≡ u) → RowTruth L rows row t
  spoken-row lo hi t f v (constant {t = u} e) = f u e
  spoken-row lo hi t f v (lone e s) = absurd (omega arith)
  spoken-row lo hi t f v (compare o e s z) = absurd (omega (arith, operator-range o))

  module _ (left : Operand) (is-left : left ≡ row_left rows row) (t : Truth) where
    stands-left : {l : List Atom} → Stands L (row_left rows row) l → Stands L left l
    stands-left {l} = subst (λ (o : Operand). Stands L o l) (sym is-left)

    pub lone_row : row_kind rows row ≡ 4 → Lone L left t → RowTruth L rows row t
    lone_row k f v (constant {t = u} e) = absurd (omega (arith, truth-range u))
    lone_row k f v (lone {l} e s) = f.lone-value l (stands-left s)
    lone_row k f v (compare o e s z) = absurd (omega (arith, operator-range o))

    pub compared-row : (right : Operand) → right ≡ row_right rows row → (row_kind rows row ≡ 4 → ⊥) → (13 ≤ row_kind rows row → row_kind rows row ≤ 15 → ⊥)
        → Compared L (row_kind rows row) left right t → RowTruth L rows row t
    compared-row right is_right k n f v (constant {t = u} e) = let (lo, hi) = truth-range u in absurd (n (omega arith) (omega arith))
    compared-row right is_right k n f v (lone e s) = absurd (k e)
    compared-row right is_right k n f v (compare o {l} {m} e s z) =
        f.by-operator o l m e (stands-left s) (subst (λ (x : Operand). Stands L x m) (sym is_right) z)

-- ---- whether values are lacking

-- an operand lacks values where its atoms are none
atoms-lack : (L : Lent) (o : Operand) (l : List Atom) → Stands L o l → is_empty (operand_values L o) ≡ lacks l
atoms-lack L o l s = ap is_empty s.coded ∙ go l
  where
    go : (l : List Atom) → is_empty (map atom_words l) ≡ lacks l
    go [] = refl
    go (a ∷ l) = refl

module _ (c : Bytes) (session : List ℕ) (entries : Bytes) where
  -- what is told of an operand p is that of o, which it is
  told-lacks : (o p : Operand) → p ≡ o → (x : Bool) → Lacks c session entries p x
      → (pairs : List ℕ) (l : List Atom) → Stands (lent c pairs session entries) o l → x ≡ lacks l
  told-lacks o p e x f pairs l s =
      f pairs ∙ atoms-lack (lent c pairs session entries) p l (subst (λ (q : Operand). Stands (lent c pairs session entries) q l) (sym e) s)

  module _ (rows : Bytes) (row : ℕ) where
    pub spoken-lacks : 13 ≤ row_kind rows row → row_kind rows row ≤ 15 → RowLacks c session entries rows row false
    spoken-lacks lo hi pairs v (constant e) = refl
    spoken-lacks lo hi pairs v (lone e s) = absurd (omega arith)
    spoken-lacks lo hi pairs v (compare o e s z) = absurd (omega (arith, operator-range o))

    module _ (left : Operand) (is-left : left ≡ row_left rows row) (x : Bool) (is_x : Lacks c session entries left x) where
      pub lone-lacks : row_kind rows row ≡ 4 → RowLacks c session entries rows row x
      lone-lacks k pairs v (constant {t = u} e) = absurd (omega (arith, truth-range u))
      lone-lacks k pairs v (lone {l} e s) = told-lacks (row_left rows row) left is-left x is_x pairs l s
      lone-lacks k pairs v (compare o e s z) = absurd (omega (arith, operator-range o))

      module _ (k : row_kind rows row ≡ 4 → ⊥) (n : 13 ≤ row_kind rows row → row_kind rows row ≤ 15 → ⊥) where
        pub left-lacks : x ≡ true → RowLacks c session entries rows row true
        left-lacks q pairs v (constant {t = u} e) = let (lo, hi) = truth-range u in absurd (n (omega arith) (omega arith))
        left-lacks q pairs v (lone e s) = absurd (k e)
        left-lacks q pairs v (compare o {l} {m} e s z) =
            sym (ap (λ (b : Bool). b || lacks m) (sym (told-lacks (row_left rows row) left is-left x is_x pairs l s) ∙ q))

        pub right-lacks : x ≡ false → (right : Operand) → right ≡ row_right rows row → (y : Bool) → Lacks c session entries right y
            → RowLacks c session entries rows row y
        right-lacks q right is_right y is_y pairs v (constant {t = u} e) = let (lo, hi) = truth-range u in absurd (n (omega arith) (omega arith))
        right-lacks q right is_right y is_y pairs v (lone e s) = absurd (k e)
        right-lacks q right is_right y is_y pairs v (compare o {l} {m} e s z) =
            told-lacks (row_right rows row) right is_right y is_y pairs m z
            ∙ sym (ap (λ (b : Bool). b || lacks m) (sym (told-lacks (row_left rows row) left is-left x is_x pairs l s) ∙ q))

-- ---- both

module _ (L : Lent) (rows : Bytes) (row : ℕ) where
  -- nothing but UNDEF lacks values
  row-undef : (v : Verdict) → RowValue L rows row v → v.absent ≡ true → v.value ≡ model.UNDEF
  row-undef v (constant e) q = false-is-true q
  row-undef v (lone {l} e s) q = lone-undef l q
  row-undef v (compare o {l} {m} e s z) q = compare-undef o l m q

  module _ (t : Truth) (is-value : RowTruth L rows row t) where
    pub told-plain : (u : Bool) → u ≡ is_undef (truth_of t) → u ≡ false → (r : code.Verdict) → verdict_of r ≡ verdict (truth_of t) false → RowTold L rows row r
    told-plain u told e r f v s = f ∙ ap₂ verdict (is-value v s) (go v.absent refl)
      where
        go : (b : Bool) → v.absent ≡ b → false ≡ b
        go true q = false-is-true (sym e ∙ told ∙ ap is_undef (is-value v s ∙ row-undef v s q))
        go false q = refl

    pub told-undef : (y : Bool) → RowLacks L.code L.session L.entries rows row y → RowTold L rows row (record { value = t; absent = y })
    told-undef y f v s = ap₂ verdict (is-value v s) (f L.pairs v s)
