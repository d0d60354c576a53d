-- 12 is answered exactly where a tie closes a circle, and 10 and 12 never meet: in every standing state. Assumes nothing.
use Prim.Native.Nat.{ℕ}
use mathlib.Core.Path.{◌≡◌, refl, sym, ap, subst, ◌∙◌}
use mathlib.Core.Logic.{inl, inr, ⊎_elim, ◌↔◌}
use mathlib.Core.Bool.{true, false}
use mathlib.Core.Option.{Option, some}
use native.Mathlib.Omega.{arith}
use lib.Dec.{eqb}
use borrow.Author.Tests.{eqb-true}
use Rattle.model.specs.Notation.{◌>>=◌, ◌is◌}
use Rattle.model.specs.Numbers as refusal
use Rattle.model.specs.Bytes.{Bytes}
use Rattle.model.specs.Keys.{Key}
use Rattle.model.specs.Lines.{Line, attr, op, atom, holder, parent, member, value, rule, read_line}
use Rattle.model.specs.Declarations.{holder_numbers_of}
use Rattle.model.specs.Ties.{Tie, Ties, same_tie, added, up, Below, one, more, Acyclic, is_below, closes_circle}
use Rattle.model.specs.State.{State, tie_of}
use Rattle.model.specs.Refusals.{wrong_sort, stands, repeated, tie_closes, circular, plus_line, line_refusal}
use Rattle.model.specs.Edits.{edit}
use Rattle.model.proofs.WordTables.{false-is-true}
use Rattle.model.proofs.Options.{is_some}
use Rattle.model.proofs.Lists.{true-or-false, or_cases, or_left, or_right}
use Rattle.model.proofs.Ties.{tie-refl}
use Rattle.model.proofs.Chains.{AtOrBelow, is_below_lem}
use Rattle.model.specs.Standing.{Standing}
use Rattle.model.proofs.Standing.{among, tie-fits, added-standing}
use Rattle.model.proofs.Refusals.{line-met, edit-met}

-- ---- the circle that a parent tie closes

added-stands : (t : Tie) (T : Ties) → added t T t ≡ true
added-stands t T = or_left (same_tie t t) (T t) (tie-refl t)

-- a tie more keeps every tie up, and so every chain
up-stays : (t : Tie) (T : Ties) (h g : ℕ) → up T h g ≡ true → up (added t T) h g ≡ true
up-stays t T h g e =
    ⊎_elim (λ p. or_left (added t T (Tie.parent h g)) (added t T (Tie.member h g)) (or_right (same_tie t (Tie.parent h g)) (T (Tie.parent h g)) p))
    (λ m. or_right (added t T (Tie.parent h g)) (added t T (Tie.member h g)) (or_right (same_tie t (Tie.member h g)) (T (Tie.member h g)) m))
    (or_cases (T (Tie.parent h g)) (T (Tie.member h g)) e)

chain-stays : (t : Tie) (T : Ties) {h g : ℕ} → Below T h g → Below (added t T) h g
chain-stays t T (one {h = h} {g = g} e) = one (up-stays t T h g e)
chain-stays t T (more {h = h} {m = m} e c) = more (up-stays t T h m e) (chain-stays t T c)

-- where the parent is the child or below it, the child comes to be below itself
circle-closed : (T : Ties) (c g : ℕ) → AtOrBelow T g c → Below (added (Tie.parent c g) T) c c
circle-closed T c g a = go a
  where
    U : Ties
    U = added (Tie.parent c g) T

    new : up U c g ≡ true
    new = or_left (U (Tie.parent c g)) (U (Tie.member c g)) (added-stands (Tie.parent c g) T)

    go : AtOrBelow T g c → Below U c c
    go (inl q) = one (subst (λ (x : ℕ). up U c x ≡ true) (sym q) new)
    go (inr b) = more new (chain-stays (Tie.parent c g) T b)

module _ {S : State} (standing : Standing S) where
  closes-below : (c g : ℕ) → closes_circle (holder_numbers_of S.declared) S.ties c g ≡ true → AtOrBelow S.ties g c
  unfolding closes_circle
  closes-below c g e =
      ⊎_elim (λ q. inl (eqb-true c g q)) (λ b. inr ((is_below_lem (holder_numbers_of S.declared) S.ties (among standing) standing.acyclic g c).0 b))
      (or_cases (eqb c g) (is_below (holder_numbers_of S.declared) S.ties g c) e)

  tie-circle : (t : Tie) → tie_closes (holder_numbers_of S.declared) S.ties t ≡ true → (h : ℕ) × Below (added t S.ties) h h
  tie-circle (Tie.parent c g) e = (c, circle-closed S.ties c g (closes-below c g e))
  tie-circle (Tie.member p g) e = false-is-true e
  tie-circle (Tie.value h p) e = false-is-true e

  circular-tie : (l : Line) (t : Tie) → tie_of S.declared l ≡ some t → circular S l ≡ tie_closes (holder_numbers_of S.declared) S.ties t
  unfolding circular
  circular-tie l t e = ap (λ (o : Option Tie). o is tie_closes (holder_numbers_of S.declared) S.ties) e

  -- ---- 12

  -- a line whose names are declared and whose sorts fit meets 12 exactly when the ties with its own would be cyclic
  pub circular-exactly : (l : Line) (t : Tie) → tie_of S.declared l ≡ some t → wrong_sort S.declared l ≡ false
      → (circular S l ≡ true) ↔ (Acyclic (added t S.ties) → ⊥)
  circular-exactly l t e w = (
    λ c acyclic. let (h, b) = tie-circle t (sym (circular-tie l t e) ∙ c) in acyclic h b,
    λ cyclic.
        ⊎_elim (λ c. c) (λ c. absurd (cyclic (added-standing standing t (tie-fits S.declared l t e w) (sym (circular-tie l t e) ∙ c)).acyclic))
        (true-or-false (circular S l)),
  )

  -- the circle: a holder that would be below itself
  pub circle : (l : Line) → circular S l ≡ true → (t : Tie) × (h : ℕ) × (tie_of S.declared l ≡ some t) × Below (added t S.ties) h h
  unfolding circular
  circle l c =
      let (t, e, closes) = is_some (tie_of S.declared l) (tie_closes (holder_numbers_of S.declared) S.ties) c in
      let (h, b) = tie-circle t closes in
      (t, h, e, b)

  -- so it is with every line of a file and every edit that are answered 12
  pub line-circle : (previous : Option Key) (line : Bytes) → line_refusal S previous line ≡ refusal.circular
      → (l : Line) × (t : Tie) × (h : ℕ) × (read_line line ≡ some l) × (tie_of S.declared l ≡ some t) × Below (added t S.ties) h h
  line-circle previous line e =
      let (l, r, d) = is_some (read_line line) (circular S) (line-met S previous line 12 e (λ z. omega arith)) in
      let (t, h, q, b) = circle l d in
      (l, t, h, r, q, b)

  pub edit-circle : (line : Bytes) → (edit S line).number ≡ refusal.circular
      → (l : Line) × (t : Tie) × (h : ℕ) × ((plus_line line >>= read_line) ≡ some l) × (tie_of S.declared l ≡ some t) × Below (added t S.ties) h h
  edit-circle line e =
      let (l, r, d) = is_some (plus_line line >>= read_line) (circular S) (edit-met S line 12 e (λ z. omega arith)) in
      let (t, h, q, b) = circle l d in
      (l, t, h, r, q, b)

  -- ---- 10 and 12

  -- a standing tie closes no circle
  pub standing-closes-none : (t : Tie) → S.ties t ≡ true → tie_closes (holder_numbers_of S.declared) S.ties t ≡ false
  standing-closes-none (Tie.parent c g) e =
      ⊎_elim (λ b. absurd (no_way (closes-below c g b))) (λ b. b) (true-or-false (closes_circle (holder_numbers_of S.declared) S.ties c g))
    where
      tie_up : up S.ties c g ≡ true
      tie_up = or_left (S.ties (Tie.parent c g)) (S.ties (Tie.member c g)) e

      no_way : AtOrBelow S.ties g c → ⊥
      no_way (inl q) = standing.acyclic c (one (subst (λ (x : ℕ). up S.ties c x ≡ true) (sym q) tie_up))
      no_way (inr b) = standing.acyclic c (more tie_up b)
  standing-closes-none (Tie.member p g) e = refl
  standing-closes-none (Tie.value h p) e = refl

  stands-no-circle : (l : Line) → stands S l ≡ true → circular S l ≡ false
  unfolding stands
  stands-no-circle l e =
      let (t, q, on) = is_some (tie_of S.declared l) S.ties e in
      circular-tie l t q ∙ standing-closes-none t on

  -- so no line meets both 10 and 12
  pub ten-or-twelve : (l : Line) → repeated S l ≡ true → circular S l ≡ false
  unfolding circular
  ten-or-twelve (attr s n t) e = refl
  ten-or-twelve (op n) e = refl
  ten-or-twelve (atom s n a) e = refl
  ten-or-twelve (holder s n) e = refl
  ten-or-twelve (parent c g) e = stands-no-circle (parent c g) e
  ten-or-twelve (member p g) e = stands-no-circle (member p g) e
  ten-or-twelve (value h n a) e = stands-no-circle (value h n a) e
  ten-or-twelve (rule o ts) e = refl
