-- A line or an edit that is accepted keeps a state standing: declarations well declared, ties acyclic and between declared holders and pairs.
-- Assumes nothing.
use Prim.Native.Nat.{ℕ, ◌≤◌, ◌<◌}
use mathlib.Core.Path.{◌≡◌, refl, sym, ap, subst, ◌∙◌}
use mathlib.Core.Logic.{◌⊎◌, inl, inr, ⊎_elim}
use mathlib.Core.Bool.{true, false, ◌&&◌, not, true≢false}
use mathlib.Core.Option.{Option, none, some, some-injective}
use native.Mathlib.Omega.{arith}
use lib.ListN.{length}
use lib.Dec.{eqb}
use borrow.Author.Tests.{not-false, eqb-false, ltb-true}
use Rattle.model.specs.Notation.{◌>>=◌, ◌is◌, is_none, nth, find, map}
use Rattle.model.specs.Limits.{Edition, holder_numbers, pair_limit}
use Rattle.model.specs.Bytes.{Bytes, same}
use Rattle.model.specs.Attributes.{source_word, sources, same_source}
use Rattle.model.specs.Atoms.{Atom, same_atom}
use Rattle.model.specs.Lines.{Line, attr, op, atom, holder, parent, member, value, rule}
use Rattle.model.specs.Declarations.{Declarations, Pair, Holder, Sort, sort_word, is_sort, same_source_and_name, holder_number, holder_of, sort_of, source_for, parent_sort, group_sort, pair_number, is_holder, holder_numbers_of, is_group}
use Rattle.model.specs.Ties.{Tie, Ties, added, removed, up, Acyclic}
use Rattle.model.specs.State.{State, empty, tie_of, tied, declare, after}
use Rattle.model.specs.Refusals.{fits, wrong_sort, tie_closes, circular}
use Rattle.model.specs.Standing.{SortsFit, PairFits, TieFits, WellDeclared, Standing}
use Rattle.model.proofs.WordTables.{none-is-some, false-is-true, same_word, reads-source, reads-sort, sorts}
use Rattle.model.proofs.Options.{parts, bind-some, is_some}
use Rattle.model.proofs.Lists.{◌∈◌, or_cases, or_left, or_right, nth-append, place-nth, in_map, map-in}
use Rattle.model.proofs.Ties.{added-cases, removed-stood, up-added}
use Rattle.model.proofs.Numbered.{find-in, find_none, found_number, number-found, length-map, rising-few}
use Rattle.model.proofs.Declared.{Acceptable, declare-well, nothing-well, next-free, holder-stays}
use Rattle.model.proofs.Chains.{Among, first-tie, last-tie, AtOrBelow, still-acyclic, parent-acyclic, fewer-acyclic}

pub numbers-length : (D : Declarations) → length (holder_numbers_of D) ≡ length D.holders
unfolding holder_numbers_of
numbers-length D = length-map (λ g. g.number) D.holders

-- ---- the tie of a line fits, where the line's sorts do

-- a holder's number is among the numbers, and no other is
pub holder-number : (D : Declarations) (k : ℕ) {h : Holder} → holder_of D k ≡ some h → k ∈ holder_numbers_of D
unfolding holder_numbers_of
holder-number D k {h} e =
    let (m, z) = found_number (λ g. g.number) D.holders k h e in
    subst (λ (j : ℕ). j ∈ map (λ g. g.number) D.holders) z (map-in (λ g. g.number) m)

pub sort-number : (D : Declarations) (k : ℕ) {s : Sort} → sort_of D k ≡ some s → k ∈ holder_numbers_of D
unfolding sort_of
sort-number D k e = let r = bind-some (holder_of D k) (λ h. some h.sort) e in holder-number D k r.1

sorts-fit : (above : Sort → Option Sort) (D : Declarations) (lower upper : Bytes) (h g : ℕ) → fits above D lower upper ≡ true
    → holder_number D lower ≡ some h → holder_number D upper ≡ some g → SortsFit above D h g
unfolding fits
sorts-fit above D lower upper h g e p q =
    let r = is_some (holder_number D lower >>= sort_of D >>= above) (λ wanted. (holder_number D upper >>= sort_of D) is is_sort wanted) e in
    let a = bind-some (holder_number D lower >>= sort_of D) above r.1 in
    let b = is_some (holder_number D upper >>= sort_of D) (is_sort r.0) r.2 in
    record {
      lower-sort = a.0;
      upper-sort = r.0;
      lower-is = ap (λ (o : Option ℕ). o >>= sort_of D) (sym p) ∙ a.1;
      upper_is = ap (λ (o : Option ℕ). o >>= sort_of D) (sym q) ∙ b.1 ∙ ap some (sym (same_word sort_word sorts reads-sort r.0 b.0 b.2));
      one-above = a.2;
    }

pair_fits : (D : Declarations) (h : ℕ) (s : Sort) (n : Bytes) (a : Atom) (p : ℕ) → sort_of D h ≡ some s → pair_number D (source_for s) n a ≡ some p → PairFits D h p
unfolding pair_number
pair_fits D h s n a p e q =
    let r = place-nth (λ x. same_source_and_name x.source x.name (source_for s) n && same_atom x.atom a) D.pairs p q in
    let named = (parts (same_source_and_name r.0.source r.0.name (source_for s) n) (same_atom r.0.atom a) r.2).0 in
    record {
      sort = s;
      pair = r.0;
      sort-is = e;
      pair_is = r.1;
      source_is = same_word source_word sources reads-source r.0.source (source_for s) (parts (same_source r.0.source (source_for s)) (same r.0.name n) named).0;
    }

-- the two numbers of a parent or member line's tie
two-numbers : (D : Declarations) (a b : Bytes) (tie : ℕ → ℕ → Tie) {t : Tie}
    → (holder_number D a >>= λ h. holder_number D b >>= λ g. some (tie h g)) ≡ some t
    → (h : ℕ) × (g : ℕ) × (holder_number D a ≡ some h) × (holder_number D b ≡ some g) × (tie h g ≡ t)
two-numbers D a b tie e =
    let r = bind-some (holder_number D a) (λ h. holder_number D b >>= λ g. some (tie h g)) e in
    let q = bind-some (holder_number D b) (λ g. some (tie r.0 g)) r.2 in
    (r.0, q.0, r.1, q.1, some-injective _ _ q.2)

pub tie-fits : (D : Declarations) (l : Line) (t : Tie) → tie_of D l ≡ some t → wrong_sort D l ≡ false → TieFits D t
tie-fits D (attr s n y) t e w = none-is-some e
tie-fits D (op n) t e w = none-is-some e
tie-fits D (atom s n a) t e w = none-is-some e
tie-fits D (holder s n) t e w = none-is-some e
tie-fits D (parent c g) t e w =
    let r = two-numbers D c g Tie.parent e in
    subst (TieFits D) r.4 (sorts-fit parent_sort D c g r.0 r.1 (not-false (fits parent_sort D c g) w) r.2 r.3)
tie-fits D (member p g) t e w =
    let r = two-numbers D p g Tie.member e in
    subst (TieFits D) r.4 (sorts-fit group_sort D p g r.0 r.1 (not-false (fits group_sort D p g) w) r.2 r.3)
tie-fits D (value h n a) t e w =
    let r = bind-some (holder_number D h) (λ k. sort_of D k >>= λ s. pair_number D (source_for s) n a >>= λ p. some (Tie.value k p)) e in
    let s = bind-some (sort_of D r.0) (λ s. pair_number D (source_for s) n a >>= λ p. some (Tie.value r.0 p)) r.2 in
    let p = bind-some (pair_number D (source_for s.0) n a) (λ p. some (Tie.value r.0 p)) s.2 in
    subst (TieFits D) (some-injective _ _ p.2) (pair_fits D r.0 s.0 n a p.0 s.1 p.1)
tie-fits D (rule o ts) t e w = none-is-some e

-- ---- a tie more, and one less

-- the ties of a standing state are among its holders
module _ {S : State} (standing : Standing S) where
  in-holders : (k : ℕ) {s : Sort} → sort_of S.declared k ≡ some s → k ∈ holder_numbers_of S.declared
  in-holders k e = sort-number S.declared k e

  -- the two ends of a tie up
  up_fits : (h g : ℕ) → up S.ties h g ≡ true → SortsFit parent_sort S.declared h g ⊎ SortsFit group_sort S.declared h g
  up_fits h g e =
      ⊎_elim (λ a. inl (standing.ties-fit (Tie.parent h g) a)) (λ a. inr (standing.ties-fit (Tie.member h g) a))
      (or_cases (S.ties (Tie.parent h g)) (S.ties (Tie.member h g)) e)

  pub among : Among (holder_numbers_of S.declared) S.ties
  among = record {
    lower = λ h g e. ⊎_elim (λ f. in-holders h f.lower-is) (λ f. in-holders h f.lower-is) (up_fits h g e);
    upper = λ h g e. ⊎_elim (λ f. in-holders g f.upper_is) (λ f. in-holders g f.upper_is) (up_fits h g e);
    valued = λ h p e. in-holders h (standing.ties-fit (Tie.value h p) e).sort-is;
  }

-- what stands above is a group, and a member is none
upper-group : (s u : Sort) → (parent_sort s ≡ some u) ⊎ (group_sort s ≡ some u) → is_group u ≡ true
upper-group Sort.admin u (inl e) = none-is-some e
upper-group Sort.admin u (inr e) = none-is-some e
upper-group Sort.ugroup u (inl e) = ap is_group (sym (some-injective _ _ e))
upper-group Sort.ugroup u (inr e) = none-is-some e
upper-group Sort.ogroup u (inl e) = ap is_group (sym (some-injective _ _ e))
upper-group Sort.ogroup u (inr e) = none-is-some e
upper-group Sort.user u (inl e) = none-is-some e
upper-group Sort.user u (inr e) = ap is_group (sym (some-injective _ _ e))
upper-group Sort.object u (inl e) = none-is-some e
upper-group Sort.object u (inr e) = ap is_group (sym (some-injective _ _ e))

member-no-group : (s u : Sort) → group_sort s ≡ some u → is_group s ≡ false
member-no-group Sort.admin u e = refl
member-no-group Sort.ugroup u e = none-is-some e
member-no-group Sort.ogroup u e = none-is-some e
member-no-group Sort.user u e = refl
member-no-group Sort.object u e = refl

module _ {S : State} (standing : Standing S) where
  -- a holder up to which a tie leads is a group
  pub above-group : (h g : ℕ) (s : Sort) → up S.ties h g ≡ true → sort_of S.declared g ≡ some s → is_group s ≡ true
  above-group h g s e q =
      ⊎_elim (λ f. of f (upper-group f.lower-sort f.upper-sort (inl f.one-above))) (λ f. of f (upper-group f.lower-sort f.upper-sort (inr f.one-above))) (up_fits standing h g e)
    where
      of : {above : Sort → Option Sort} (f : SortsFit above S.declared h g) → is_group f.upper-sort ≡ true → is_group s ≡ true
      of f i = ap is_group (some-injective _ _ (sym q ∙ f.upper_is)) ∙ i

  -- the ties with one more are acyclic
  added-acyclic : (t : Tie) → TieFits S.declared t → tie_closes (holder_numbers_of S.declared) S.ties t ≡ false → Acyclic (added t S.ties)
  added-acyclic (Tie.parent c g) f e =
      parent-acyclic (holder_numbers_of S.declared) S.ties (among standing) standing.acyclic c g e
  added-acyclic (Tie.member p g) f e =
      still-acyclic S.ties (added (Tie.member p g) S.ties) p g
      (λ h m u. ⊎_elim inl (λ n. inr (⊎_elim (λ q. differ q) (λ q. parts q) n)) (up-added (Tie.member p g) S.ties h m u))
      standing.acyclic
      no_way
    where
      parts : {h m : ℕ} → Tie.member p g ≡ Tie.member h m → (h ≡ p) × (m ≡ g)
      parts q = (cc, cc)

      differ : {h m : ℕ} → Tie.member p g ≡ Tie.parent h m → (h ≡ p) × (m ≡ g)
      differ q = let z : ◌≡◌ {A = ℕ} 0 1 = cc in absurd (omega (arith, z))

      -- a member is no group, so nothing leads up to it
      no_way : AtOrBelow S.ties g p → ⊥
      no_way (inl q) =
          true≢false
          (sym (upper-group f.lower-sort f.upper-sort (inr f.one-above))
          ∙ ap is_group (some-injective _ _ (sym f.upper_is ∙ ap (sort_of S.declared) (sym q) ∙ f.lower-is))
          ∙ member-no-group f.lower-sort f.upper-sort f.one-above)
      no_way (inr c) =
          true≢false
          (sym (above-group (last-tie c).0 p f.lower-sort (last-tie c).1 f.lower-is) ∙ member-no-group f.lower-sort f.upper-sort f.one-above)
  added-acyclic (Tie.value h p) f e =
      fewer-acyclic S.ties (added (Tie.value h p) S.ties)
      (λ k m u. ⊎_elim (λ q. q) (λ n. ⊎_elim (λ q. differ q) (λ q. differ' q) n) (up-added (Tie.value h p) S.ties k m u))
      standing.acyclic
    where
      differ : {k m : ℕ} {C : Type 0} → Tie.value h p ≡ Tie.parent k m → C
      differ q = let z : ◌≡◌ {A = ℕ} 0 1 = cc in absurd (omega (arith, z))

      differ' : {k m : ℕ} {C : Type 0} → Tie.value h p ≡ Tie.member k m → C
      differ' q = let z : ◌≡◌ {A = ℕ} 0 1 = cc in absurd (omega (arith, z))

  -- a tie more keeps a state standing
  pub added-standing : (t : Tie) → TieFits S.declared t → tie_closes (holder_numbers_of S.declared) S.ties t ≡ false
      → Standing (record { declared = S.declared; ties = added t S.ties })
  added-standing t f e = record {
    acyclic = added-acyclic t f e;
    ties-fit = λ u q. ⊎_elim (λ s. subst (TieFits S.declared) s f) (standing.ties-fit u) (added-cases t S.ties u q);
    declarations = standing.declarations;
  }

  -- and so does one less
  pub removed-standing : (t : Tie) → Standing (record { declared = S.declared; ties = removed t S.ties })
  removed-standing t = record {
    acyclic =
        fewer-acyclic S.ties (removed t S.ties)
        (λ h g e.
        ⊎_elim (λ a. or_left (S.ties (Tie.parent h g)) (S.ties (Tie.member h g)) (removed-stood t S.ties (Tie.parent h g) a))
        (λ a. or_right (S.ties (Tie.parent h g)) (S.ties (Tie.member h g)) (removed-stood t S.ties (Tie.member h g) a))
        (or_cases (removed t S.ties (Tie.parent h g)) (removed t S.ties (Tie.member h g)) e))
        standing.acyclic;
    ties-fit = λ u q. standing.ties-fit u (removed-stood t S.ties u q);
    declarations = standing.declarations;
  }

-- ---- declarations that grow

-- what had a number keeps it
record DeclaresMore (D E : Declarations) : Type 0 where
  holders-stay : (k : ℕ) (h : Holder) → holder_of D k ≡ some h → holder_of E k ≡ some h
  pairs-stay : (k : ℕ) (p : Pair) → nth D.pairs k ≡ some p → nth E.pairs k ≡ some p

module _ {D E : Declarations} (grows : DeclaresMore D E) where
  sort-stays : (k : ℕ) (s : Sort) → sort_of D k ≡ some s → sort_of E k ≡ some s
  unfolding sort_of
  sort-stays k s e =
      let r = bind-some (holder_of D k) (λ h. some h.sort) e in
      ap (λ (o : Option Holder). o >>= λ h. some h.sort) (grows.holders-stay k r.0 r.1) ∙ r.2

  sorts-stay : {above : Sort → Option Sort} (h g : ℕ) → SortsFit above D h g → SortsFit above E h g
  sorts-stay h g f = record {
    lower-sort = f.lower-sort;
    upper-sort = f.upper-sort;
    lower-is = sort-stays h f.lower-sort f.lower-is;
    upper_is = sort-stays g f.upper-sort f.upper_is;
    one-above = f.one-above;
  }

  tie-stays : (t : Tie) → TieFits D t → TieFits E t
  tie-stays (Tie.parent c g) f = sorts-stay c g f
  tie-stays (Tie.member p g) f = sorts-stay p g f
  tie-stays (Tie.value h p) f = record {
    sort = f.sort;
    pair = f.pair;
    sort-is = sort-stays h f.sort f.sort-is;
    pair_is = grows.pairs-stay p f.pair f.pair_is;
    source_is = f.source_is;
  }

grown-standing : {D : Declarations} {T : Ties} → Standing (record { declared = D; ties = T }) → (E : Declarations) → DeclaresMore D E → WellDeclared E
    → Standing (record { declared = E; ties = T })
grown-standing standing E g well = record {
  declarations = well;
  ties-fit = λ t e. tie-stays g t (standing.ties-fit t e);
  acyclic = standing.acyclic;
}

-- ---- an accepted line

tied-standing : {S : State} → Standing S → (o : Option Tie) → ((t : Tie) → o ≡ some t → TieFits S.declared t)
    → (o is tie_closes (holder_numbers_of S.declared) S.ties) ≡ false → Standing (record { declared = S.declared; ties = tied o S.ties })
tied-standing standing none f e = standing
tied-standing standing (some t) f e = added-standing standing t (f t refl) e

same-declared : {D : Declarations} → DeclaresMore D D
same-declared = record { holders-stay = λ k h e. e; pairs-stay = λ k p e. e }

declared-grows : (D : Declarations) (l : Line) → holder_of D (length D.holders) ≡ none → DeclaresMore D (declare l D)
declared-grows D (attr s n y) f = record { holders-stay = λ k h e. e; pairs-stay = λ k p e. e }
declared-grows D (op n) f = record { holders-stay = λ k h e. e; pairs-stay = λ k p e. e }
declared-grows D (atom s n a) f = record { holders-stay = λ k h e. e; pairs-stay = λ k p e. nth-append D.pairs _ k e }
declared-grows D (holder s n) f = record { holders-stay = holder-stays D (record { number = length D.holders; sort = s; name = n }) f; pairs-stay = λ k p e. e }
declared-grows D (parent c g) f = same-declared
declared-grows D (member p g) f = same-declared
declared-grows D (value h n a) f = same-declared
declared-grows D (rule o ts) f = record { holders-stay = λ k h e. e; pairs-stay = λ k p e. e }

pub after-standing : {S : State} (l : Line) → Standing S → Acceptable S l → circular S l ≡ false → Standing (after l S)
unfolding after circular
after-standing {S} l standing a c =
    let tie = tied-standing standing (tie_of S.declared l) (λ t e. tie-fits S.declared l t e a.sorted) c in
    grown-standing tie (declare l S.declared) (declared-grows S.declared l (next-free standing.declarations)) (declare-well S l standing.declarations a)

pub empty-standing : (e : Edition) → Standing (empty e)
empty-standing edition = record {
  declarations = nothing-well edition;
  ties-fit = λ t e. false-is-true e;
  acyclic = λ h c. false-is-true (first-tie c).1;
}

-- ---- numbers of holders and pairs

pub pairs-fit : {S : State} → Standing S → length S.declared.pairs ≤ pair_limit
pairs-fit standing = standing.declarations.pairs.few

pub holder-below : (D : Declarations) (k : ℕ) → k ∈ holder_numbers_of D → is_holder D k ≡ true
unfolding holder_numbers_of
holder-below D k m =
    let (h, i, e) = in_map (λ g. g.number) D.holders m in
    go (holder_of D k) refl i e
  where
    go : {h : Holder} (o : Option Holder) → holder_of D k ≡ o → h ∈ D.holders → k ≡ h.number → not (is_none o) ≡ true
    go none f i e = absurd (eqb-false _ _ (find_none (λ g. eqb g.number k) D.holders f i) (sym e))
    go (some x) f i e = refl

pub holder_in : (D : Declarations) (k : ℕ) → is_holder D k ≡ true → k ∈ holder_numbers_of D
holder_in D k e = go (holder_of D k) refl e
  where
    go : (o : Option Holder) → holder_of D k ≡ o → not (is_none o) ≡ true → k ∈ holder_numbers_of D
    go none f g = false-is-true g
    go (some x) f g = holder-number D k f

-- every holder's number is one of the table's
pub holder-fits : {S : State} → Standing S → (k : ℕ) → is_holder S.declared k ≡ true → k < holder_numbers S.declared.edition
holder-fits {S} standing k h =
    let few = standing.declarations.holders.few in
    let l = ltb-true k (length S.declared.holders) (sym (standing.declarations.holders.gapless k) ∙ h) in
    omega (arith, numbers-length S.declared)

-- room for the number of each holder is room for as many as there are
pub room-length : {S : State} → Standing S → (n : ℕ) → ((k : ℕ) → is_holder S.declared k ≡ true → k < n) → length S.declared.holders ≤ n
unfolding holder_numbers_of
room-length {S} standing n room =
    rising-few (λ g. g.number) S.declared.holders n standing.declarations.holders.ordered
    (λ h m. room h.number (holder-below S.declared h.number (map-in (λ g. g.number) m)))

-- a holder of some sort is one of the table's
pub sorted-fits : {S : State} → Standing S → (k : ℕ) {s : Sort} → sort_of S.declared k ≡ some s → k < holder_numbers S.declared.edition
sorted-fits {S} standing k e = holder-fits standing k (holder-below S.declared k (sort-number S.declared k e))

-- the holder that has a name, by its number
pub named-holder : {D : Declarations} → WellDeclared D → (n : Bytes) (k : ℕ) → holder_number D n ≡ some k → (h : Holder) × (holder_of D k ≡ some h) × (same h.name n ≡ true)
unfolding holder_number
named-holder {D} well n k e =
    let (h, f, g) = bind-some (find (λ h. same h.name n) D.holders) (λ h. some h.number) e in
    let (m, z) = find-in (λ h. same h.name n) D.holders h f in
    (h, ap (holder_of D) (sym (some-injective _ _ g)) ∙ number-found (λ g. g.number) D.holders well.holders.ordered m, z)
