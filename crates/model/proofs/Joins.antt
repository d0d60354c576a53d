-- What one edit costs in set joins: each tie up is counted once, the sum is at most 65 for each holder, value ties do not matter, and who is below the
-- edited holder is the same before the edit and after it. Assumes nothing.
use Prim.Native.Nat.{ℕ, zero, suc, ◌+◌, ◌≤◌}
use mathlib.Core.Path.{◌≡◌, refl, sym, ap, ap₂, subst, ◌∙◌}
use mathlib.Core.Bool.{Bool, true, false, ◌||◌}
use mathlib.Core.List.{List}
use mathlib.Core.Option.{Option, none, some, some-injective}
use native.Mathlib.Omega.{arith}
use lib.ListN.{length}
use lib.Dec.{eqb}
use Rattle.model.specs.Notation.{if◌then◌otherwise◌, ◌>>=◌, any_of, count_of, sum_of}
use Rattle.model.specs.Limits.{Edition, group_limit, join_limit}
use Rattle.model.specs.Bytes.{Bytes}
use Rattle.model.specs.Declarations.{Declarations, Holder, Sort, sort_of, is_group, groups, holder_numbers_of, parent_sort, group_sort}
use Rattle.model.specs.Ties.{Tie, Ties, parent, member, value, edited_holder, up, Below, one, more, Acyclic, ups, below_within, is_below}
use Rattle.model.specs.State.{State}
use Rattle.model.specs.Edits.{edited_tie, adds, edited_ties, ties_up, edited_and_below, set_joins, joins_of, edit}
use Rattle.model.specs.Standing.{Standing, DifferAt}
use Rattle.model.proofs.WordTables.{none-is-some}
use Rattle.model.proofs.Lists.{same_truth, any-ext, filter-ext, count-within, count-or, count-ext, count_map}
use Rattle.model.proofs.Sums.{sum-ext, sum-most, sum-filter}
use Rattle.model.proofs.Numbered.{number-found}
use Rattle.model.proofs.Chains.{is_below_lem}
use Rattle.model.proofs.Standing.{among, above-group}
use Rattle.model.proofs.Ledger.{edit-cases, edit-standing}

-- ---- ties up

-- a holder with a parent has no group that it is a member of
one_way : (s u v : Sort) → parent_sort s ≡ some u → group_sort s ≡ some v → ⊥
one_way Sort.admin u v a b = none-is-some a
one_way Sort.ugroup u v a b = none-is-some b
one_way Sort.ogroup u v a b = none-is-some b
one_way Sort.user u v a b = none-is-some a
one_way Sort.object u v a b = none-is-some a

module _ {S : State} (standing : Standing S) where
  not-both : (h g : ℕ) → S.ties (parent h g) ≡ true → S.ties (member h g) ≡ true → ⊥
  not-both h g a b =
      let p = standing.ties-fit (parent h g) a in
      let m = standing.ties-fit (member h g) b in
      one_way p.lower-sort p.upper-sort m.upper-sort p.one-above
      (ap group_sort (some-injective _ _ (sym p.lower-is ∙ m.lower-is)) ∙ m.one-above)

  -- so its ties up are as many as the holders one tie up
  pub ties-up-once : (k : ℕ) → ties_up (holder_numbers_of S.declared) S.ties k ≡ count_of (up S.ties k) (holder_numbers_of S.declared)
  unfolding ties_up
  ties-up-once k = sym (count-or (λ g. S.ties (parent k g)) (λ g. S.ties (member k g)) (holder_numbers_of S.declared) (not-both k))

  -- these are groups
  pub ties-up-few : (k : ℕ) → ties_up (holder_numbers_of S.declared) S.ties k ≤ group_limit
  unfolding holder_numbers_of groups sort_of
  ties-up-few k =
      let counted = ties-up-once k ∙ count_map (λ h. h.number) (up S.ties k) S.declared.holders in
      let grouped = count-within (λ (h : Holder). up S.ties k h.number) (λ (h : Holder). is_group h.sort) S.declared.holders
      (λ h m e. above-group standing k h.number h.sort e (ap (λ (o : Option Holder). o >>= λ g. some g.sort) (number-found (λ g. g.number) S.declared.holders standing.declarations.holders.ordered m))) in
      omega (arith, counted, grouped, standing.declarations.holders.few-groups)

  -- "at most 16,640, which is 256 times 65", over the edition's number of holders
  pub joins-most : (e : ℕ) → set_joins S.declared S.ties e ≤ join_limit S.declared.edition
  unfolding set_joins
  joins-most e =
      let hs = holder_numbers_of S.declared in
      let sum = sum-filter (λ k. 1 + ties_up hs S.ties k) (λ k. eqb k e || is_below hs S.ties k e) hs in
      let most = sum-most (λ k. if eqb k e || is_below hs S.ties k e then 1 + ties_up hs S.ties k otherwise 0) (group_limit + 1) hs
      (λ k m. chosen (eqb k e || is_below hs S.ties k e) (ties_up hs S.ties k) (ties-up-few k)) in
      omega (arith, sum, most, standing.declarations.holders.few)
    where
      chosen : (b : Bool) (n : ℕ) → n ≤ group_limit → (if b then 1 + n otherwise 0) ≤ group_limit + 1
      chosen true n l = omega arith
      chosen false n l = omega arith

-- document 01's edition
pub first-edition-joins : join_limit Edition.first ≡ 16640
first-edition-joins = refl

-- ---- value ties do not count

module _ (T U : Ties) (parents : (h g : ℕ) → T (parent h g) ≡ U (parent h g)) (members : (h g : ℕ) → T (member h g) ≡ U (member h g)) where
  same_up : (h g : ℕ) → up T h g ≡ up U h g
  same_up h g = ap₂ (λ (a b : Bool). a || b) (parents h g) (members h g)

  same-below : (n : ℕ) (hs : List ℕ) (h g : ℕ) → below_within n hs T h g ≡ below_within n hs U h g
  same-below zero hs h g = refl
  same-below (suc n) hs h g =
      any-ext (λ m. eqb m g || below_within n hs T m g) (λ m. eqb m g || below_within n hs U m g) (ups hs T h) (λ m i. ap (λ (b : Bool). eqb m g || b) (same-below n hs m g))
      ∙ ap (any_of (λ m. eqb m g || below_within n hs U m g)) (filter-ext (up T h) (up U h) hs (λ m i. same_up h m))

  -- ties with the same parents and members cost the same joins
  pub same-joins : (D : Declarations) (e : ℕ) → set_joins D T e ≡ set_joins D U e
  unfolding set_joins is_below ties_up
  same-joins D e =
      let hs = holder_numbers_of D in
      ap (sum_of (λ k. 1 + ties_up hs T k))
      (filter-ext (λ k. eqb k e || is_below hs T k e) (λ k. eqb k e || is_below hs U k e) hs (λ k i. ap (λ (b : Bool). eqb k e || b) (same-below (length hs) hs k e)))
      ∙ sum-ext (λ k. 1 + ties_up hs T k) (λ k. 1 + ties_up hs U k) (edited_and_below hs U e)
      (λ k i. ap₂ (λ (a b : ℕ). 1 + (a + b))
      (count-ext (λ g. T (parent k g)) (λ g. U (parent k g)) hs (λ g m. parents k g)) (count-ext (λ g. T (member k g)) (λ g. U (member k g)) hs (λ g m. members k g)))

-- so an edit of a value costs what it would cost before it, whether a set changes or not
pub value-joins : (D : Declarations) (plus : Bool) (h p : ℕ) (T : Ties) (e : ℕ) → set_joins D (edited_ties plus (some (value h p)) T) e ≡ set_joins D T e
value-joins D true h p T e = same-joins (edited_ties true (some (value h p)) T) T (λ k g. refl) (λ k g. refl) D e
value-joins D false h p T e = same-joins (edited_ties false (some (value h p)) T) T (λ k g. refl) (λ k g. refl) D e

-- ---- who is below the edited holder

-- a chain up to e has no tie of e, so it is one of the other ties too
chain-stays : {T U : Ties} (e : ℕ) → DifferAt e T U → Acyclic T → {h g : ℕ} → Below T h g → g ≡ e → Below U h g
chain-stays {T} {U} e differ acyclic = go
  where
    stays : (h g : ℕ) → (h ≡ e → ⊥) → up U h g ≡ up T h g
    stays h g n = ap₂ (λ (a b : Bool). a || b) (differ (parent h g) n) (differ (member h g) n)

    go : {h g : ℕ} → Below T h g → g ≡ e → Below U h g
    go (one {h = h} {g = g} t) z = one (stays h g (λ y. acyclic h (subst (Below T h) (z ∙ sym y) (one t))) ∙ t)
    go (more {h = h} {m = m} t c) z = more (stays h m (λ y. acyclic h (subst (Below T h) (z ∙ sym y) (more t c))) ∙ t) (go c z)

-- "the edited holder and each one below it" are the same before the edit and after it
pub same-edited-and-below : (D : Declarations) (T U : Ties) (e : ℕ) → Standing (record { declared = D; ties = T }) → Standing (record { declared = D; ties = U }) → DifferAt e T U
    → edited_and_below (holder_numbers_of D) T e ≡ edited_and_below (holder_numbers_of D) U e
same-edited-and-below D T U e before after differ =
    let hs = holder_numbers_of D in
    let was = is_below_lem hs T (among before) before.acyclic in
    let now = is_below_lem hs U (among after) after.acyclic in
    filter-ext (λ k. eqb k e || is_below hs T k e) (λ k. eqb k e || is_below hs U k e) hs
    (λ k i. ap (λ (b : Bool). eqb k e || b) (same_truth (is_below hs T k e) (is_below hs U k e)
    (λ y. (now k e).1 (chain-stays e differ before.acyclic ((was k e).0 y) refl))
    (λ y. (was k e).1 (chain-stays e (λ t n. sym (differ t n)) after.acyclic ((now k e).0 y) refl))))

-- ---- the answer of an edit

module _ (S : State) (line : Bytes) where
  -- "The number equals that sum", also where no set changes: of the tie's first holder, on the ties behind the edit
  pub edit-joins : (edit S line).number ≡ 0 → (t : Tie) → edited_tie S line ≡ some t → (edit S line).joins ≡ set_joins S.declared (edit S line).state.ties (edited_holder t)
  edit-joins = edit-cases S line (λ r. r.number ≡ 0 → (t : Tie) → edited_tie S line ≡ some t → r.joins ≡ set_joins S.declared r.state.ties (edited_holder t))
      (λ e z t is. ap (λ (o : Option Tie). joins_of S.declared o (edited_ties (adds line) (edited_tie S line) S.ties)) is) (λ n z. absurd (n z))

  -- and never passes the bound
  pub edit-joins-most : Standing S → (edit S line).joins ≤ join_limit S.declared.edition
  edit-joins-most standing = edit-cases S line (λ r. Standing r.state → r.joins ≤ join_limit S.declared.edition)
      (λ e after. by (edited_tie S line) _ after) (λ n after. omega arith) (edit-standing S line standing)
    where
      by : (o : Option Tie) (U : Ties) → Standing (record { declared = S.declared; ties = U }) → joins_of S.declared o U ≤ join_limit S.declared.edition
      by none U after = omega arith
      by (some t) U after = joins-most after (edited_holder t)
