-- What is written loads back: ties. Assumes nothing.
use Prim.Native.Nat.{ℕ, zero, suc, ◌≤◌, ◌<◌}
use mathlib.Core.Path.{◌≡◌, refl, sym, ap, ap₂, subst, ◌∙◌}
use mathlib.Core.Logic.{◌⊎◌, inl, inr, ⊎_elim}
use mathlib.Core.Bool.{Bool, true, false, ◌&&◌, not, true≢false}
use mathlib.Core.List.Memᴰ
use mathlib.Core.List.Memᴰ.{head as here}
use mathlib.Core.List.Memᴰ.{tail as there}
use mathlib.Core.List.{List, [], ◌∷◌, ◌++◌}
use mathlib.Core.Option.{Option, none, some, some-injective}
use native.Mathlib.Omega.{arith}
use lib.ListN.{length, length-append}
use lib.Dec.{eqb, ltb}
use borrow.Author.Tests.{eqb-true, ltb-true}
use Rattle.model.specs.Notation.{if◌then◌otherwise◌, ◌>>=◌, ◌is◌, is_none, map, each, filter, place, nth, find, listed, all_of, below}
use Rattle.model.specs.Bytes.{same}
use Rattle.model.specs.Attributes.{Source, source_word}
use Rattle.model.specs.Atoms.{same_atom}
use Rattle.model.specs.Keys.{Key, rank}
use Rattle.model.specs.Declarations.{Declarations, Pair, Holder, Sort, sort_word, is_sort, same_source_and_name, holder_number, pair_number, holder_of, sort_of, holder_numbers_of, source_for, parent_sort, group_sort}
use Rattle.model.specs.Lines.{Line, parent, member, value}
use Rattle.model.specs.Ties.{Tie, Ties, no_ties, added, same_tie, up, Acyclic, Below, one, more, is_below, closes_circle}
use Rattle.model.specs.State.{State, tie_of, tied, after}
use Rattle.model.specs.Refusals.{fits, stands, tie_closes, circular}
use Rattle.model.specs.Standing.{rising, SortsFit, TieFits, WellDeclared, HoldersStand, Standing}
use Rattle.model.specs.FileText.{ties_with, ties_in_order, tie_line}
use Rattle.model.proofs.Lines.{line_key}
use Rattle.model.proofs.WordTables.{false-is-true, same_refl}
use Rattle.model.proofs.Options.{parts, both, bind-some}
use Rattle.model.proofs.Lists.{◌∈◌, fun_ext, true-or-false, same_truth, or_cases, or_left, or_right, nth-lt, place-nth, in-filter, filter-in, in_map, map-in, in-below, below_in, all_in, each_append}
use Rattle.model.proofs.Growing.{place-nowhere}
use Rattle.model.proofs.Ties.{tie-refl, added-cases}
use Rattle.model.proofs.Chains.{below-sound}
use Rattle.model.proofs.Numbered.{find-in, find_none, found_number}
use Rattle.model.proofs.Declared.{Acceptable, same-atom-refl}
use Rattle.model.proofs.Standing.{sort-number}
use Rattle.model.proofs.Rereading.{Writable, Goes, goes_end, goes-append, goes-earlier}
use Rattle.model.proofs.RoundTrip.{Leads, leads-on, name-short, atom-short, pair-named, holder-found}

-- ---- numbers of what is declared

-- where one passes and no other, it is the first that passes
place_of : {A : Type 0} (p : A → Bool) (xs : List A) (k : ℕ) (x : A) → nth xs k ≡ some x → p x ≡ true → ((j : ℕ) (y : A) → nth xs j ≡ some y → p y ≡ true → j ≡ k)
    → place p xs ≡ some k
place_of p xs k x e h only = go (place p xs) refl
  where
    go : (o : Option ℕ) → place p xs ≡ o → o ≡ some k
    go none q = false-is-true (sym (place-nowhere p xs q k x e) ∙ h)
    go (some j) q = let (y, f, g) = place-nth p xs j q in ap some (only j y f g)

holder-of-name : (D : Declarations) → HoldersStand D → (k : ℕ) (h : Holder) → holder_of D k ≡ some h → holder_number D h.name ≡ some k
unfolding holder_number
holder-of-name D stand k h e = go (find (λ g. same g.name h.name) D.holders) refl
  where
    go : (o : Option Holder) → find (λ g. same g.name h.name) D.holders ≡ o → (o >>= λ g. some g.number) ≡ some k
    go none q = false-is-true (sym (find_none (λ g. same g.name h.name) D.holders q (found_number (λ g. g.number) D.holders k h e).0) ∙ same_refl h.name)
    go (some g) q =
        let (m, s) = find-in (λ g. same g.name h.name) D.holders g q in
        ap some (stand.unique g.number k g h (holder-found stand m) e s)

pair-of-names : (D : Declarations) → WellDeclared D → (p : ℕ) (q : Pair) → nth D.pairs p ≡ some q → pair_number D q.source q.name q.atom ≡ some p
unfolding pair_number
pair-of-names D well p q e =
    place_of (λ r. same_source_and_name r.source r.name q.source q.name && same_atom r.atom q.atom) D.pairs p q e
    (both (both (same_refl (source_word q.source)) (same_refl q.name)) (same-atom-refl q.atom)) (λ j r f s. well.pairs.unique j p r q f e s)

-- ---- the line of a tie that fits

module _ (D : Declarations) (well : WellDeclared D) where
  holder-named : (k : ℕ) {s : Sort} → sort_of D k ≡ some s → (h : Holder) × (holder_of D k ≡ some h) × (h.sort ≡ s)
  unfolding sort_of
  holder-named k e = let (h, f, g) = bind-some (holder_of D k) (λ h. some h.sort) e in (h, f, some-injective _ _ g)

  -- a line of two names
  two-known : (above : Sort → Option Sort) (h g : ℕ) → SortsFit above D h g → (x : Holder) × (y : Holder) × (holder_of D h ≡ some x) × (holder_of D g ≡ some y) × (fits above D x.name y.name ≡ true)
  unfolding fits sort_of
  two-known above h g f =
      let (x, a, b) = holder-named h f.lower-is in
      let (y, c, d) = holder-named g f.upper_is in (
        x,
        y,
        a,
        c,
        ap₂ (λ (o p : Option ℕ). (o >>= sort_of D >>= above) is λ wanted. (p >>= sort_of D) is is_sort wanted) (holder-of-name D well.holders h x a) (holder-of-name D well.holders g y c)
            ∙ ap (λ (o : Option Sort). (o >>= above) is λ wanted. (sort_of D g) is is_sort wanted) f.lower-is
            ∙ ap (λ (o : Option Sort). o is λ wanted. (sort_of D g) is is_sort wanted) f.one-above
            ∙ ap (λ (o : Option Sort). o is is_sort f.upper-sort) f.upper_is
            ∙ same_refl (sort_word f.upper-sort),
      )

-- the rank of a tie's key
abbrev pub tie_rank : Tie → ℕ
tie_rank (Tie.parent c g) = rank Key.parent
tie_rank (Tie.member p g) = rank Key.member
tie_rank (Tie.value h p) = rank Key.value

module _ (D : Declarations) (well : WellDeclared D) (T : Ties) (fit : (t : Tie) → T t ≡ true → TieFits D t) (acyclic : Acyclic T) where
  -- ties among T, that of t not yet among them
  module _ (U : Ties) (among : (u : Tie) → U u ≡ true → T u ≡ true) where
    up-among : (h g : ℕ) → up U h g ≡ true → up T h g ≡ true
    up-among h g e =
        ⊎_elim (λ a. or_left (T (Tie.parent h g)) (T (Tie.member h g)) (among (Tie.parent h g) a)) (λ a. or_right (T (Tie.parent h g)) (T (Tie.member h g)) (among (Tie.member h g) a))
        (or_cases (U (Tie.parent h g)) (U (Tie.member h g)) e)

    chain-among : {h g : ℕ} → Below U h g → Below T h g
    chain-among (one {h = h} {g = g} e) = one (up-among h g e)
    chain-among (more {h = h} {m = m} e c) = more (up-among h m e) (chain-among c)

    closes-none : (hs : List ℕ) (t : Tie) → T t ≡ true → tie_closes hs U t ≡ false
    unfolding closes_circle is_below
    closes-none hs (Tie.parent c g) e = ⊎_elim (λ on. absurd (no_way (or_cases (eqb c g) (is_below hs U g c) on))) (λ off. off) (true-or-false (closes_circle hs U c g))
      where
        tie_up : up T c g ≡ true
        tie_up = or_left (T (Tie.parent c g)) (T (Tie.member c g)) e

        no_way : (eqb c g ≡ true) ⊎ (is_below hs U g c ≡ true) → ⊥
        no_way (inl q) = acyclic c (one (subst (λ (x : ℕ). up T c x ≡ true) (sym (eqb-true c g q)) tie_up))
        no_way (inr q) = acyclic c (more tie_up (chain-among (below-sound (length hs) hs U g c q)))
    closes-none hs (Tie.member p g) e = refl
    closes-none hs (Tie.value h p) e = refl

    -- a tie's line leads to the ties with it
    record LineLeads (t : Tie) : Type 0 where
      line : Line
      told : tie_line D t ≡ some line
      leads : Leads (record { declared = D; ties = U }) (record { declared = D; ties = added t U }) (tie_rank t) (tie_rank t) line

    module _ (t : Tie) (stood : T t ≡ true) (fresh : U t ≡ false) where
      -- what a line with this tie meets
      tie-leads : (l : Line) → tie_of D l ≡ some t → Writable l → rank (line_key l) ≡ tie_rank t
          → Acceptable (record { declared = D; ties = U }) l → after l (record { declared = D; ties = U }) ≡ record { declared = D; ties = added t U }
          → Leads (record { declared = D; ties = U }) (record { declared = D; ties = added t U }) (tie_rank t) (tie_rank t) l
      unfolding circular
      tie-leads l e w r a to = record {
        writable = w;
        behind = omega arith;
        before = omega arith;
        acceptable = a;
        no-circle = ap (λ (o : Option Tie). o is tie_closes (holder_numbers_of D) U) e ∙ closes-none (holder_numbers_of D) t stood;
        to = to;
      }

  tie-line-leads : (U : Ties) (among : (u : Tie) → U u ≡ true → T u ≡ true) (t : Tie) → T t ≡ true → U t ≡ false → LineLeads U among t
  unfolding after stands sort_of
  tie-line-leads U among (Tie.parent c g) stood fresh =
      let (x, y, a, b, f) = two-known D well parent_sort c g (fit (Tie.parent c g) stood) in
      let nx = well.holders.named c x a in
      let ny = well.holders.named g y b in
      let tie : tie_of D (parent x.name y.name) ≡ some (Tie.parent c g) =
      ap₂ (λ (o p : Option ℕ). o >>= λ child. p >>= λ group. some (Tie.parent child group)) (holder-of-name D well.holders c x a) (holder-of-name D well.holders g y b) in
      record {
        line = parent x.name y.name;
        told = ap₂ (λ (o p : Option Holder). o >>= λ child. p >>= λ group. some (parent child.name group.name)) a b;
        leads = tie-leads U among (Tie.parent c g) stood fresh (parent x.name y.name) tie
            (record { formed = both nx ny; short = simp length-append (omega (arith, name-short x.name nx, name-short y.name ny)) }) refl
            (record {
              formed = both nx ny;
              within = refl;
              known = ap is_none tie;
              sorted = ap not f;
              new = ap (λ (o : Option Tie). o is U) tie ∙ fresh;
              room = refl;
            })
            (ap (λ (o : Option Tie). record { declared = D; ties = tied o U }) tie);
      }
  tie-line-leads U among (Tie.member c g) stood fresh =
      let (x, y, a, b, f) = two-known D well group_sort c g (fit (Tie.member c g) stood) in
      let nx = well.holders.named c x a in
      let ny = well.holders.named g y b in
      let tie : tie_of D (member x.name y.name) ≡ some (Tie.member c g) =
      ap₂ (λ (o p : Option ℕ). o >>= λ child. p >>= λ group. some (Tie.member child group)) (holder-of-name D well.holders c x a) (holder-of-name D well.holders g y b) in
      record {
        line = member x.name y.name;
        told = ap₂ (λ (o p : Option Holder). o >>= λ child. p >>= λ group. some (member child.name group.name)) a b;
        leads = tie-leads U among (Tie.member c g) stood fresh (member x.name y.name) tie
            (record { formed = both nx ny; short = simp length-append (omega (arith, name-short x.name nx, name-short y.name ny)) }) refl
            (record {
              formed = both nx ny;
              within = refl;
              known = ap is_none tie;
              sorted = ap not f;
              new = ap (λ (o : Option Tie). o is U) tie ∙ fresh;
              room = refl;
            })
            (ap (λ (o : Option Tie). record { declared = D; ties = tied o U }) tie);
      }
  tie-line-leads U among (Tie.value h p) stood fresh =
      let f = fit (Tie.value h p) stood in
      let (x, a, b) = holder-named D well h f.sort-is in
      let q = f.pair in
      let st = well.pairs.each p q f.pair_is in
      let (k, i, nq) = pair-named D well.attributes q st in
      let nx = well.holders.named h x a in
      let tie : tie_of D (value x.name q.name q.atom) ≡ some (Tie.value h p) =
      ap (λ (o : Option ℕ). o >>= λ k. sort_of D k >>= λ s. pair_number D (source_for s) q.name q.atom >>= λ r. some (Tie.value k r)) (holder-of-name D well.holders h x a)
      ∙ ap (λ (o : Option Sort). o >>= λ s. pair_number D (source_for s) q.name q.atom >>= λ r. some (Tie.value h r)) f.sort-is
      ∙ ap (λ (s : Source). pair_number D s q.name q.atom >>= λ r. some (Tie.value h r)) (sym f.source_is)
      ∙ ap (λ (o : Option ℕ). o >>= λ r. some (Tie.value h r)) (pair-of-names D well p q f.pair_is) in
      record {
        line = value x.name q.name q.atom;
        told = ap₂ (λ (o : Option Holder) (r : Option Pair). o >>= λ k. r >>= λ q. some (value k.name q.name q.atom)) a f.pair_is;
        leads = tie-leads U among (Tie.value h p) stood fresh (value x.name q.name q.atom) tie
            (record { formed = both (both nx nq) st.written; short = simp length-append (omega (arith, name-short x.name nx, name-short q.name nq, atom-short q.atom st.written)) }) refl
            (record {
              formed = both (both nx nq) st.written;
              within = refl;
              known = ap is_none tie;
              sorted = refl;
              new = ap (λ (o : Option Tie). o is U) tie ∙ fresh;
              room = refl;
            })
            (ap (λ (o : Option Tie). record { declared = D; ties = tied o U }) tie);
      }

-- ---- lists without repeats

module _ {A : Type 0} where
  abbrev pub NoRepeat : List A → Type 0
  NoRepeat [] = Unit {0}
  NoRepeat (x ∷ xs) = (x ∈ xs → ⊥) × NoRepeat xs

  append-once : (xs ys : List A) → NoRepeat xs → NoRepeat ys → ((x : A) → x ∈ xs → x ∈ ys → ⊥) → NoRepeat (xs ++ ys)
  append-once [] ys a b f = b
  append-once (x ∷ xs) ys a b f =
      (λ m. ⊎_elim a.0 (f x (here refl)) (Memᴰ.append_cases xs m), append-once xs ys a.1 b (λ y m n. f y (there m) n))

  filter-once : (p : A → Bool) (xs : List A) → NoRepeat xs → NoRepeat (filter p xs)
  filter-once p [] a = tt
  filter-once p (x ∷ xs) a = go (p x) (filter-once p xs a.1)
    where
      go : (b : Bool) → NoRepeat (filter p xs) → NoRepeat (if b then x ∷ filter p xs otherwise filter p xs)
      go true r = (λ m. a.0 (in-filter p xs m).0, r)
      go false r = r

map-once : {A B : Type 0} (f : A → B) (xs : List A) → ((x y : A) → f x ≡ f y → x ≡ y) → NoRepeat xs → NoRepeat (map f xs)
map-once f [] i a = tt
map-once {A} f (x ∷ xs) i a =
    (λ m. let (y, n, e) = in_map f xs m in a.0 (subst (λ (z : A). z ∈ xs) (sym (i x y e)) n), map-once f xs i a.1)

below-once : (n : ℕ) → NoRepeat (below n)
below-once zero = tt
below-once (suc n) = append-once (below n) (n ∷ []) (below-once n) (λ m. elim m [ ], tt) (λ x m k. omega (arith, in-below n m, Memᴰ.eq_of_singleton k))

-- numbers that rise
rising-once : {A : Type 0} (number : A → ℕ) (xs : List A) → rising number xs ≡ true → NoRepeat (map number xs)
rising-once number [] r = tt
rising-once number (x ∷ xs) r =
    let (above, rest) = parts (all_of (λ y. ltb (number x) (number y)) xs) (rising number xs) r in
    (λ m. let (y, n, e) = in_map number xs m in omega (arith, ltb-true (number x) (number y) (all_in (λ y. ltb (number x) (number y)) xs above n)), rising-once number xs rest)

in-with : (tie : ℕ → ℕ → Tie) (lower upper : List ℕ) {t : Tie} → t ∈ ties_with tie lower upper → (h : ℕ) × (g : ℕ) × (h ∈ lower) × (g ∈ upper) × (t ≡ tie h g)
in-with tie [] upper m = elim m [ ]
in-with tie (h ∷ lower) upper m = ⊎_elim
    (λ a. let (g, n, e) = in_map (tie h) upper a in (h, g, here refl, n, e))
    (λ a. let (k, g, n, o, e) = in-with tie lower upper a in (k, g, there n, o, e))
    (Memᴰ.append_cases (map (tie h) upper) m)

with_in : (tie : ℕ → ℕ → Tie) (lower upper : List ℕ) (h g : ℕ) → h ∈ lower → g ∈ upper → tie h g ∈ ties_with tie lower upper
with_in tie [] upper h g m n = elim m [ ]
with_in tie (k ∷ lower) upper h g (here e) n =
    Memᴰ.append_left (ties_with tie lower upper) (subst (λ (x : ℕ). tie h g ∈ map (tie x) upper) e (map-in (tie h) n))
with_in tie (k ∷ lower) upper h g (there m) n = Memᴰ.append_right (map (tie k) upper) (with_in tie lower upper h g m n)

with-once : (tie : ℕ → ℕ → Tie) → ((h g k j : ℕ) → tie h g ≡ tie k j → (h ≡ k) × (g ≡ j)) → (lower upper : List ℕ) → NoRepeat lower → NoRepeat upper
    → NoRepeat (ties_with tie lower upper)
with-once tie i [] upper a b = tt
with-once tie i (h ∷ lower) upper a b =
    append-once (map (tie h) upper) (ties_with tie lower upper) (map-once (tie h) upper (λ x y e. (i h x h y e).1) b) (with-once tie i lower upper a.1 b)
    (λ t m n.
    let (g, o, e) = in_map (tie h) upper m in
    let (k, j, p, q, f) = in-with tie lower upper n in
    a.0 (subst (λ (x : ℕ). x ∈ lower) (sym (i h g k j (sym e ∙ f)).0) p))

-- ---- the lines of ties, one after another

abbrev pub add_all : List Tie → Ties → Ties
add_all [] U = U
add_all (t ∷ ts) U = add_all ts (added t U)

all-added : (ts : List Tie) (U : Ties) (u : Tie) → add_all ts U u ≡ true → (U u ≡ true) ⊎ (u ∈ ts)
all-added [] U u e = inl e
all-added (t ∷ ts) U u e = ⊎_elim (λ a. ⊎_elim (λ q. inr (here (sym q))) inl (added-cases t U u a)) (λ m. inr (there m)) (all-added ts (added t U) u e)

still-added : (ts : List Tie) (U : Ties) (u : Tie) → U u ≡ true → add_all ts U u ≡ true
still-added [] U u e = e
still-added (t ∷ ts) U u e = still-added ts (added t U) u (or_right (same_tie t u) (U u) e)

added-all : (ts : List Tie) (U : Ties) {u : Tie} → u ∈ ts → add_all ts U u ≡ true
added-all [] U {u = u} m = elim m [ ]
added-all (t ∷ ts) U {u} (here e) = still-added ts (added t U) u (or_left (same_tie t u) (U u) (ap (λ (x : Tie). same_tie t x) e ∙ tie-refl t))
added-all (t ∷ ts) U (there m) = added-all ts (added t U) m

module _ (D : Declarations) (well : WellDeclared D) (T : Ties) (fit : (t : Tie) → T t ≡ true → TieFits D t) (acyclic : Acyclic T) where
  pub ties-go : (r : ℕ) (ts : List Tie) (U : Ties) → ((u : Tie) → U u ≡ true → T u ≡ true) → ((t : Tie) → t ∈ ts → (T t ≡ true) × (U t ≡ false) × (tie_rank t ≡ r)) → NoRepeat ts
      → Goes (record { declared = D; ties = U }) r (each (λ t. listed (tie_line D t)) ts) (record { declared = D; ties = add_all ts U }) r
  ties-go r [] U among each-so once = goes_end
  ties-go r (t ∷ ts) U among each-so once =
      let (stood, fresh, ranked) = each-so t (here refl) in
      let a = tie-line-leads D well T fit acyclic U among t stood fresh in
      let more-go = ties-go r ts (added t U) (λ u e. ⊎_elim (λ q. subst (λ (x : Tie). T x ≡ true) q stood) (among u) (added-cases t U u e))
      (λ u m. let (x, y, z) = each-so u (there m) in (x, still-fresh u m y, z)) once.1 in
      subst (λ (o : Option Line). Goes (record { declared = D; ties = U }) r (listed o ++ each (λ u. listed (tie_line D u)) ts) (record { declared = D; ties = add_all ts (added t U) }) r) (sym a.told)
      (goes-earlier (omega arith) (leads-on a.leads (goes-earlier (omega arith) more-go)))
    where
      still-fresh : (u : Tie) → u ∈ ts → U u ≡ false → added t U u ≡ false
      still-fresh u m f = ⊎_elim (λ e. ⊎_elim (λ q. absurd (once.0 (subst (λ (x : Tie). x ∈ ts) (sym q) m))) (λ q. absurd (true≢false (sym q ∙ f))) (added-cases t U u e)) (λ e. e) (true-or-false (added t U u))

  -- the ties of one key that stand, in their order
  pub with-go : (r : ℕ) (tie : ℕ → ℕ → Tie) → ((h g k j : ℕ) → tie h g ≡ tie k j → (h ≡ k) × (g ≡ j)) → ((h g : ℕ) → tie_rank (tie h g) ≡ r) → (lower upper : List ℕ) → NoRepeat lower → NoRepeat upper → (U : Ties)
      → ((u : Tie) → U u ≡ true → (T u ≡ true) × (tie_rank u < r))
      → Goes (record { declared = D; ties = U }) r (each (λ t. listed (tie_line D t)) (filter T (ties_with tie lower upper)))
      (record { declared = D; ties = add_all (filter T (ties_with tie lower upper)) U }) r
  with-go r tie i ranked lower upper once-lower once-upper U among =
      ties-go r (filter T (ties_with tie lower upper)) U (λ u e. (among u e).0) each-so
      (filter-once T (ties_with tie lower upper) (with-once tie i lower upper once-lower once-upper))
    where
      each-so : (t : Tie) → t ∈ filter T (ties_with tie lower upper) → (T t ≡ true) × (U t ≡ false) × (tie_rank t ≡ r)
      each-so t k =
          let (a, b) = in-filter T (ties_with tie lower upper) k in
          let (h, g, c, d, e) = in-with tie lower upper a in
          let z : tie_rank t ≡ r = ap tie_rank e ∙ ranked h g in
          (b, ⊎_elim (λ on. absurd (omega (arith, (among t on).1))) (λ off. off) (true-or-false (U t)), z)

-- ---- the ties of the three keys, in the order of keys

filter-append : {A : Type 0} (p : A → Bool) (xs ys : List A) → filter p (xs ++ ys) ≡ filter p xs ++ filter p ys
filter-append p [] ys = refl
filter-append p (x ∷ xs) ys = go (p x) (filter-append p xs ys)
  where
    go : (b : Bool) → filter p (xs ++ ys) ≡ filter p xs ++ filter p ys → (if b then x ∷ filter p (xs ++ ys) otherwise filter p (xs ++ ys)) ≡ (if b then x ∷ filter p xs otherwise filter p xs) ++ filter p ys
    go true e = ap (λ l. x ∷ l) e
    go false e = e

all_append : (ts us : List Tie) (U : Ties) → add_all (ts ++ us) U ≡ add_all us (add_all ts U)
all_append [] us U = refl
all_append (t ∷ ts) us U = all_append ts us (added t U)

module _ {S : State} (standing : Standing S) where
  abbrev D : Declarations
  D = S.declared

  abbrev T : Ties
  T = S.ties

  -- every tie that stands is listed
  pub tie-listed : (t : Tie) → T t ≡ true → t ∈ ties_in_order D
  tie-listed (Tie.parent c g) e =
      let f = standing.ties-fit (Tie.parent c g) e in
      Memᴰ.append_left _ (with_in Tie.parent (holder_numbers_of D) (holder_numbers_of D) c g (sort-number D c f.lower-is) (sort-number D g f.upper_is))
  tie-listed (Tie.member c g) e =
      let f = standing.ties-fit (Tie.member c g) e in
      Memᴰ.append_right (ties_with Tie.parent (holder_numbers_of D) (holder_numbers_of D)) (Memᴰ.append_left _ (with_in Tie.member (holder_numbers_of D) (holder_numbers_of D) c g (sort-number D c f.lower-is) (sort-number D g f.upper_is)))
  tie-listed (Tie.value h p) e =
      let f = standing.ties-fit (Tie.value h p) e in
      Memᴰ.append_right (ties_with Tie.parent (holder_numbers_of D) (holder_numbers_of D)) (Memᴰ.append_right (ties_with Tie.member (holder_numbers_of D) (holder_numbers_of D))
      (with_in Tie.value (holder_numbers_of D) (below (length D.pairs)) h p
      (sort-number D h f.sort-is) (below_in (length D.pairs) p (nth-lt D.pairs p f.pair_is))))

  -- so the ties that are listed and stand are all
  pub all-ties : add_all (filter T (ties_in_order D)) no_ties ≡ T
  all-ties = fun_ext λ u. same_truth (add_all (filter T (ties_in_order D)) no_ties u) (T u)
      (λ e. ⊎_elim (λ q. false-is-true q) (λ m. (in-filter T (ties_in_order D) m).1) (all-added (filter T (ties_in_order D)) no_ties u e))
      (λ e. added-all (filter T (ties_in_order D)) no_ties (filter-in T (tie-listed u e) e))

parent-parts : (h g k j : ℕ) → Tie.parent h g ≡ Tie.parent k j → (h ≡ k) × (g ≡ j)
parent-parts h g k j e = (cc, cc)

member-parts : (h g k j : ℕ) → Tie.member h g ≡ Tie.member k j → (h ≡ k) × (g ≡ j)
member-parts h g k j e = (cc, cc)

value-parts : (h g k j : ℕ) → Tie.value h g ≡ Tie.value k j → (h ≡ k) × (g ≡ j)
value-parts h g k j e = (cc, cc)

numbers-once : (D : Declarations) → WellDeclared D → NoRepeat (holder_numbers_of D)
unfolding holder_numbers_of
numbers-once D well = rising-once (λ g. g.number) D.holders well.holders.ordered

-- no tie is listed twice
pub listed-once : (D : Declarations) → WellDeclared D → NoRepeat (ties_in_order D)
listed-once D well =
    append-once (ties_with Tie.parent hs hs) (ties_with Tie.member hs hs ++ ties_with Tie.value hs ps) (with-once Tie.parent parent-parts hs hs once once)
    (append-once (ties_with Tie.member hs hs) (ties_with Tie.value hs ps) (with-once Tie.member member-parts hs hs once once) (with-once Tie.value value-parts hs ps once (below-once (length D.pairs)))
    (λ t m n. omega (arith, ranked Tie.member hs hs (λ h g. refl) m, ranked Tie.value hs ps (λ h g. refl) n)))
    (λ t m n. ⊎_elim (λ k. omega (arith, ranked Tie.parent hs hs (λ h g. refl) m, ranked Tie.member hs hs (λ h g. refl) k)) (λ k. omega (arith, ranked Tie.parent hs hs (λ h g. refl) m, ranked Tie.value hs ps (λ h g. refl) k))
    (Memᴰ.append_cases (ties_with Tie.member hs hs) n))
  where
    hs : List ℕ
    hs = holder_numbers_of D

    ps : List ℕ
    ps = below (length D.pairs)

    once : NoRepeat hs
    once = numbers-once D well

    ranked : (tie : ℕ → ℕ → Tie) (lower upper : List ℕ) {r : ℕ} → ((h g : ℕ) → tie_rank (tie h g) ≡ r) → {t : Tie} → t ∈ ties_with tie lower upper → tie_rank t ≡ r
    ranked tie lower upper so m = let (h, g, a, b, e) = in-with tie lower upper m in ap tie_rank e ∙ so h g

module _ (D : Declarations) (well : WellDeclared D) (T : Ties) (fit : (t : Tie) → T t ≡ true → TieFits D t) (acyclic : Acyclic T) where
  hs : List ℕ
  hs = holder_numbers_of D

  P : List Tie
  P = filter T (ties_with Tie.parent hs hs)

  M : List Tie
  M = filter T (ties_with Tie.member hs hs)

  W : List Tie
  W = filter T (ties_with Tie.value hs (below (length D.pairs)))

  f : Tie → List Line
  f t = listed (tie_line D t)

  in-P : (u : Tie) → add_all P no_ties u ≡ true → (T u ≡ true) × (tie_rank u ≡ 7)
  unfolding P hs
  in-P u e = ⊎_elim (λ q. false-is-true q)
      (λ m. let (a, b) = in-filter T (ties_with Tie.parent hs hs) m in let (h, g, c, d, q) = in-with Tie.parent hs hs a in (b, ap tie_rank q)) (all-added P no_ties u e)

  in-M : (u : Tie) → add_all M (add_all P no_ties) u ≡ true → (T u ≡ true) × (tie_rank u ≤ 8)
  unfolding M hs
  in-M u e = ⊎_elim (λ q. let (a, b) = in-P u q in (a, omega arith))
      (λ m. let (a, b) = in-filter T (ties_with Tie.member hs hs) m in let (h, g, c, d, q) = in-with Tie.member hs hs a in (b, omega (arith, ap tie_rank q))) (all-added M (add_all P no_ties) u e)

  listed-parts : filter T (ties_in_order D) ≡ P ++ (M ++ W)
  unfolding P M W hs
  listed-parts =
      filter-append T (ties_with Tie.parent hs hs) (ties_with Tie.member hs hs ++ ties_with Tie.value hs (below (length D.pairs)))
      ∙ ap (λ (l : List Tie). P ++ l) (filter-append T (ties_with Tie.member hs hs) (ties_with Tie.value hs (below (length D.pairs))))

  once : NoRepeat hs
  unfolding hs
  once = numbers-once D well

  three-go : Goes (record { declared = D; ties = no_ties }) 7 (each f P ++ (each f M ++ each f W)) (record { declared = D; ties = add_all W (add_all M (add_all P no_ties)) }) 9
  unfolding P M W hs f
  three-go =
      goes-append (each f P) (each f M ++ each f W) (with-go D well T fit acyclic 7 Tie.parent parent-parts (λ h g. refl) hs hs once once no_ties (λ u e. false-is-true e))
      (goes-earlier (omega arith) (goes-append (each f M) (each f W)
      (with-go D well T fit acyclic 8 Tie.member member-parts (λ h g. refl) hs hs once once (add_all P no_ties) (λ u e. let (a, b) = in-P u e in (a, omega arith)))
      (goes-earlier (omega arith) (with-go D well T fit acyclic 9 Tie.value value-parts (λ h g. refl) hs (below (length D.pairs)) once (below-once (length D.pairs)) (add_all M (add_all P no_ties)) (λ u e. let (a, b) = in-M u e in (a, omega arith))))))

  pub all-ties-go : Goes (record { declared = D; ties = no_ties }) 7 (each (λ t. listed (tie_line D t)) (filter T (ties_in_order D)))
      (record { declared = D; ties = add_all (filter T (ties_in_order D)) no_ties }) 9
  unfolding f
  all-ties-go =
      subst (λ (l : List Tie). Goes (record { declared = D; ties = no_ties }) 7 (each f l) (record { declared = D; ties = add_all l no_ties }) 9) (sym listed-parts)
      (subst (λ (l : List Line). Goes (record { declared = D; ties = no_ties }) 7 l (record { declared = D; ties = add_all (P ++ (M ++ W)) no_ties }) 9)
      (sym (each_append f P (M ++ W) ∙ ap (λ (l : List Line). each f P ++ l) (each_append f M W)))
      (subst (λ (U : Ties). Goes (record { declared = D; ties = no_ties }) 7 (each f P ++ (each f M ++ each f W)) (record { declared = D; ties = U }) 9)
      (sym (all_append P (M ++ W) no_ties ∙ all_append M W (add_all P no_ties))) three-go))
