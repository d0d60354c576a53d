-- A row put in or taken out: one link of its chain is written, and every other link stays what it was. Assumes nothing.
use Prim.Native.Nat.{ℕ, suc, ◌+◌, ◌*◌, ◌≤◌, ◌<◌}
use mathlib.Core.Path.{◌≡◌, refl, sym, ap, subst, ◌∙◌}
use mathlib.Core.Logic.{◌⊎◌, inl, inr, ⊎_elim}
use mathlib.Core.List.{List}
use mathlib.Core.Option.{none, some, some-injective}
use native.Mathlib.Decide.{dec_lt, ℕ_discrete}
use native.Mathlib.Omega.{arith}
use lib.ListN.{length, get_or, set, length-set}
use lib.Seq.{get_or-set_same, get_or-set_other}
use borrow.Author.Tests.{eq-eqb, ne_eqb}
use Rattle.std.specs.Prelude.{Option, Some}
use Rattle.model.proofs.WordTables.{none-is-some}
use Rattle.index.specs.Index.{chains, rows_in, next_place, row_place, Row, hash_of, Rows, InChain, Greatest, RowWritten, Indexed, link_of, with_row, without_row, put_row, LinkOver, LinkFound, Added, Removed}
use Rattle.index.proofs.ChainWalks.{hash-below, there-below, rows_of, chain-as, reach, link-within, same_row as same-row'}

-- the words of a row that was written, and those that stay: s1 to s4 is the list after each of the four words
module _ (s : List ℕ) (at : ℕ) (w : Row) where
  abbrev s1 : List ℕ
  s1 = set s at w.0

  abbrev s2 : List ℕ
  s2 = set s1 (at + 1) w.1

  abbrev s3 : List ℕ
  s3 = set s2 (at + 2) w.2

  module _ (fits : at + 3 < length s) where
    pub put-0 : get_or (put_row s at w) at 0 ≡ w.0
    unfolding put_row
    put-0 =
        get_or-set_other s3 (at + 3) at w.3 0 (λ e. omega arith)
        ∙ get_or-set_other s2 (at + 2) at w.2 0 (λ e. omega arith)
        ∙ get_or-set_other s1 (at + 1) at w.1 0 (λ e. omega arith)
        ∙ get_or-set_same s at w.0 0 (omega arith)

    pub put_1 : get_or (put_row s at w) (at + 1) 0 ≡ w.1
    unfolding put_row
    put_1 =
        get_or-set_other s3 (at + 3) (at + 1) w.3 0 (λ e. omega arith)
        ∙ get_or-set_other s2 (at + 2) (at + 1) w.2 0 (λ e. omega arith)
        ∙ get_or-set_same s1 (at + 1) w.1 0 (simp length-set (omega arith))

    pub put_2 : get_or (put_row s at w) (at + 2) 0 ≡ w.2
    unfolding put_row
    put_2 = get_or-set_other s3 (at + 3) (at + 2) w.3 0 (λ e. omega arith) ∙ get_or-set_same s2 (at + 2) w.2 0 (simp length-set (omega arith))

    pub put_3 : get_or (put_row s at w) (at + 3) 0 ≡ w.3
    unfolding put_row
    put_3 = get_or-set_same s3 (at + 3) w.3 0 (simp length-set (omega arith))

  pub put_other : (i : ℕ) → ((t : ℕ) → t < 4 → i ≡ at + t → ⊥) → get_or (put_row s at w) i 0 ≡ get_or s i 0
  unfolding put_row
  put_other i out =
      get_or-set_other s3 (at + 3) i w.3 0 (out 3 (omega arith))
      ∙ get_or-set_other s2 (at + 2) i w.2 0 (out 2 (omega arith))
      ∙ get_or-set_other s1 (at + 1) i w.1 0 (out 1 (omega arith))
      ∙ get_or-set_other s at i w.0 0 (λ e. out 0 (omega arith) (omega arith))

-- ---- links

-- rows that differ at k alone, which is in the chain h where it is there
module _ (rows rows' : Rows) (k h : ℕ) (same : (j : ℕ) → (j ≡ k → ⊥) → rows' j ≡ rows j)
    (this : (g : ℕ) → InChain rows g k → g ≡ h) (this' : (g : ℕ) → InChain rows' g k → g ≡ h) where
  -- a link that does not reach over k
  still : (g top v : ℕ) → (g ≡ h → (top ≤ k) ⊎ (suc k < v)) → Greatest rows g top v → Greatest rows' g top v
  still g top v aside greatest = record {
    within = greatest.within;
    inside = λ j e. let c = greatest.inside j e in chain-as rows rows' (same j (λ z. off j e z c)) c;
    above = λ j l m c. past j l m c (ℕ_discrete j k);
  }
    where
      off : (j : ℕ) → v ≡ suc j → j ≡ k → InChain rows g j → ⊥
      off j e z c = let w = greatest.within in ⊎_elim (λ (l : top ≤ k). omega arith) (λ (l : suc k < v). omega arith) (aside (this g (subst (InChain rows g) z c)))

      past : (j : ℕ) → v ≤ j → j < top → InChain rows' g j → Dec (j ≡ k) → ⊥
      past j l m c (yes z) = ⊎_elim (λ (q : top ≤ k). omega arith) (λ (q : suc k < v). omega arith) (aside (this' g (subst (InChain rows' g) z c)))
      past j l m c (no z) = greatest.above j l m (chain-as rows' rows (sym (same j z)) c)

-- the links of a chain but the one over k
module _ {s : List ℕ} {n : ℕ} {rows : Rows} (ix : Indexed s n rows) (h k place : ℕ) (link : LinkOver s n rows h k place) where
  -- no row of the chain stands between k and the link's own
  between : (j : ℕ) → k < j → j < link.top → InChain rows h j → ⊥
  between j l m c = let low = link.low in link.leads.above j (omega arith) m c

  beyond : (top v : ℕ) → InChain rows h link.top → link.top < top → Greatest rows h top v → suc k < v
  beyond top v c l greatest = go (dec_lt link.top v)
    where
      go : Dec (link.top < v) → suc k < v
      go (yes m) = let o = link.over in omega arith
      go (no m) = absurd (greatest.above link.top (omega arith) l c)

  first-aside : (v : ℕ) → (place ≡ h → ⊥) → Greatest rows h n v → suc k < v
  first-aside v other greatest = go link.stands
    where
      go : ((place ≡ h) × (link.top ≡ n)) ⊎ ((place ≡ next_place link.top) × InChain rows h link.top) → suc k < v
      go (inl (e, _)) = absurd (other e)
      go (inr (_, c)) = beyond n v c (there-below ix link.top c.0 c.1) greatest

  next-aside : (j v : ℕ) → k < j → InChain rows h j → (place ≡ next_place j → ⊥) → Greatest rows h j v → suc k < v
  next-aside j v l chain other greatest = go link.stands
    where
      go : ((place ≡ h) × (link.top ≡ n)) ⊎ ((place ≡ next_place link.top) × InChain rows h link.top) → suc k < v
      go (inl (_, e)) = let m = there-below ix j chain.0 chain.1 in absurd (between j l (omega arith) chain)
      go (inr (e, c)) = by (dec_lt j link.top) (ℕ_discrete j link.top)
        where
          by : Dec (j < link.top) → Dec (j ≡ link.top) → suc k < v
          by (yes m) d = absurd (between j l m chain)
          by (no m) (yes z) = absurd (other (e ∙ ap next_place (sym z)))
          by (no m) (no z) = beyond j v c (omega arith) greatest

-- ---- a section in which one link and one row are written

module _ {s : List ℕ} {n : ℕ} {rows : Rows} (ix : Indexed s n rows) (h k place : ℕ) (few : k < n) (hash : h < chains) (link : LinkOver s n rows h k place)
    (rows' : Rows) (same : (j : ℕ) → (j ≡ k → ⊥) → rows' j ≡ rows j) (this : (g : ℕ) → InChain rows g k → g ≡ h) (this' : (g : ℕ) → InChain rows' g k → g ≡ h)
    (t : List ℕ) (size : length t ≡ length s) (there : Greatest rows' h link.top (get_or t place 0))
    (firsts-kept : (g : ℕ) → g < chains → (g ≡ place → ⊥) → get_or t g 0 ≡ get_or s g 0)
    (nexts-kept : (j : ℕ) → j < n → (j ≡ k → ⊥) → (next_place j ≡ place → ⊥) → get_or t (next_place j) 0 ≡ get_or s (next_place j) 0)
    (rows-kept : (j : ℕ) → j < n → (j ≡ k → ⊥) → (i : ℕ) → row_place n j ≤ i → i < row_place n j + 4 → get_or t i 0 ≡ get_or s i 0)
    (written-here : (w : Row) → rows' k ≡ some w → RowWritten t n k w)
    (absent-here : rows' k ≡ none → get_or t (row_place n k) 0 ≡ 0)
    (next_here : (w : Row) → rows' k ≡ some w → Greatest rows' (hash_of w) k (get_or t (next_place k) 0)) where
  first_so : (g : ℕ) → g < chains → Dec (g ≡ place) → Greatest rows' g n (get_or t g 0)
  first_so g l (yes z) = go link.stands
    where
      go : ((place ≡ h) × (link.top ≡ n)) ⊎ ((place ≡ next_place link.top) × InChain rows h link.top) → Greatest rows' g n (get_or t g 0)
      go (inl (e, f)) =
          subst (λ (x : ℕ). Greatest rows' g x (get_or t g 0)) f
          (subst (λ (x : ℕ). Greatest rows' x link.top (get_or t g 0)) (sym (z ∙ e))
          (subst (λ (x : ℕ). Greatest rows' h link.top (get_or t x 0)) (sym z) there))
      go (inr (e, _)) = absurd (omega arith)
  first_so g l (no z) =
      subst (λ (v : ℕ). Greatest rows' g n v) (sym (firsts-kept g l z))
      (still rows rows' k h same this this' g n _
      (λ e. inr (first-aside ix h k place link _ (λ y. z (e ∙ sym y)) (subst (λ (x : ℕ). Greatest rows x n (get_or s g 0)) e (ix.firsts g l)))) (ix.firsts g l))

  next-so : (j : ℕ) (w : Row) → rows' j ≡ some w → Dec (j ≡ k) → Greatest rows' (hash_of w) j (get_or t (next_place j) 0)
  next-so j w e (yes z) =
      subst (λ (x : ℕ). Greatest rows' (hash_of w) x (get_or t (next_place x) 0)) (sym z) (next_here w (ap rows' (sym z) ∙ e))
  next-so j w e (no z) = by (ℕ_discrete (next_place j) place)
    where
      old : rows j ≡ some w
      old = sym (same j z) ∙ e

      l : j < n
      l = there-below ix j w old

      by : Dec (next_place j ≡ place) → Greatest rows' (hash_of w) j (get_or t (next_place j) 0)
      by (yes p) = go link.stands
        where
          go : ((place ≡ h) × (link.top ≡ n)) ⊎ ((place ≡ next_place link.top) × InChain rows h link.top) → Greatest rows' (hash_of w) j (get_or t (next_place j) 0)
          go (inl (q, _)) = absurd (omega arith)
          go (inr (q, (v, f, c))) =
              let top : j ≡ link.top = omega arith in
              let row : v ≡ w = some-injective _ _ (sym f ∙ ap rows (sym top) ∙ old) in
              subst (λ (x : ℕ). Greatest rows' (hash_of w) x (get_or t (next_place j) 0)) (sym top)
              (subst (λ (x : ℕ). Greatest rows' x link.top (get_or t (next_place j) 0)) (sym c ∙ ap hash_of row)
              (subst (λ (x : ℕ). Greatest rows' h link.top (get_or t x 0)) (sym p) there))
      by (no p) =
          subst (λ (v : ℕ). Greatest rows' (hash_of w) j v) (sym (nexts-kept j l z p))
          (still rows rows' k h same this this' (hash_of w) j _ (λ e. side e (dec_lt k j)) (ix.nexts j w old))
        where
          side : hash_of w ≡ h → Dec (k < j) → (j ≤ k) ⊎ (suc k < get_or s (next_place j) 0)
          side c (yes m) = inr (next-aside ix h k place link j _ m (w, old, c) (λ y. p (sym y)) (subst (λ (x : ℕ). Greatest rows x j (get_or s (next_place j) 0)) c (ix.nexts j w old)))
          side c (no m) = inl (omega arith)

  row-so : (j : ℕ) (w : Row) → rows' j ≡ some w → Dec (j ≡ k) → RowWritten t n j w
  row-so j w e (yes z) = subst (λ (x : ℕ). RowWritten t n x w) (sym z) (written-here w (ap rows' (sym z) ∙ e))
  row-so j w e (no z) =
      let old = sym (same j z) ∙ e in
      let l = there-below ix j w old in
      let row = ix.written j w old in
      record {
        there = row.there;
        w0 = rows-kept j l z (row_place n j) (omega arith) (omega arith) ∙ row.w0;
        w1 = rows-kept j l z (row_place n j + 1) (omega arith) (omega arith) ∙ row.w1;
        w2 = rows-kept j l z (row_place n j + 2) (omega arith) (omega arith) ∙ row.w2;
        w3 = rows-kept j l z (row_place n j + 3) (omega arith) (omega arith) ∙ row.w3;
      }

  none_so : (j : ℕ) → j < n → rows' j ≡ none → Dec (j ≡ k) → get_or t (row_place n j) 0 ≡ 0
  none_so j l e (yes z) = ap (λ (x : ℕ). get_or t (row_place n x) 0) z ∙ absent-here (ap rows' (sym z) ∙ e)
  none_so j l e (no z) = rows-kept j l z (row_place n j) (omega arith) (omega arith) ∙ ix.absent j l (sym (same j z) ∙ e)

  pub relinked : Indexed t n rows'
  relinked = record {
    size = size ∙ ix.size;
    few = λ j l. same j (λ z. omega arith) ∙ ix.few j l;
    written = λ j w e. row-so j w e (ℕ_discrete j k);
    absent = λ j l e. none_so j l e (ℕ_discrete j k);
    firsts = λ g l. first_so g l (ℕ_discrete g place);
    nexts = λ j w e. next-so j w e (ℕ_discrete j k);
  }

-- ---- the walk to the link over k

-- the link at a place, whose word is v: the chain's first, or the next of a row of the chain above k
pub record Passing (s : List ℕ) (n : ℕ) (rows : Rows) (h k place v : ℕ) : Type 0 where
  pub top : ℕ
  pub over : k < top
  pub leads : Greatest rows h top (get_or s place 0)
  pub word : v ≡ get_or s place 0
  pub stands : ((place ≡ h) × (top ≡ n)) ⊎ ((place ≡ next_place top) × InChain rows h top)

-- of whatever rows s is the index of
abbrev pub Passes : List ℕ → ℕ → ℕ → ℕ → Option ℕ → Type 0
Passes s h k place at = (n : ℕ) (rows : Rows) → Indexed s n rows → k < n → Passing s n rows h k place (reach at)

module _ (s : List ℕ) (h k : ℕ) where
  pub passes-start : (m : ℕ) (at : Option ℕ) → h < chains → m ≡ rows_in (length s) → at ≡ link_of (get_or s h 0) m → Passes s h k h at
  passes-start m at few size e n rows ix l =
      let top = ix.firsts h few in
      let z : m ≡ n = size ∙ rows_of ix in
      record {
        top = n;
        over = l;
        leads = top;
        word = ap reach e ∙ link-within (get_or s h 0) m (omega (arith, top.within));
        stands = inl (refl, refl);
      }

  pub passes_on : (place j : ℕ) (next : Option ℕ) → k < j → Passes s h k place (Some j) → next ≡ link_of (get_or s (chains + j) 0) j
      → Passes s h k (chains + j) next
  passes_on place j next more passes e n rows ix l =
      let p = passes n rows ix l in
      let (w, f, c) = p.leads.inside j (sym p.word) in
      let g = subst (λ (x : ℕ). Greatest rows x j (get_or s (next_place j) 0)) c (ix.nexts j w f) in
      record {
        top = j;
        over = omega arith;
        leads = g;
        word = ap reach e ∙ link-within (get_or s (chains + j) 0) j g.within;
        stands = inr (refl, (w, f, c));
      }

  pub passes-end : (place : ℕ) (at : Option ℕ) → reach at ≤ suc k → place < chains + rows_in (length s) → Passes s h k place at → LinkFound s h k place
  passes-end place at low within passes = record {
    within = within;
    exact = λ n rows ix l.
        let p = passes n rows ix l in
        record { top = p.top; over = p.over; leads = p.leads; low = omega (arith, p.word); stands = p.stands };
  }

-- ---- a row more

put-long : (s : List ℕ) (at : ℕ) (w : Row) → length (put_row s at w) ≡ length s
unfolding put_row
put-long s at w = simp length-set

-- the link over k is no word of row k
link-elsewhere : {s : List ℕ} {n : ℕ} {rows : Rows} {h k place : ℕ} → h < chains → LinkOver s n rows h k place → place ≡ next_place k → ⊥
link-elsewhere {n = n} {rows = rows} {h = h} {k = k} {place = place} few link e = go link.stands
  where
    go : ((place ≡ h) × (link.top ≡ n)) ⊎ ((place ≡ next_place link.top) × InChain rows h link.top) → ⊥
    go (inl (p, _)) = omega arith
    go (inr (p, _)) = let o = link.over in omega arith

abbrev linked : List ℕ → ℕ → ℕ → List ℕ
linked s k place = set (set s (next_place k) (get_or s place 0)) place (k + 1)

module _ (s : List ℕ) (n k : ℕ) (w : Row) (place : ℕ) (rows : Rows) (ix : Indexed s n rows) (few : k < n) (there : w.0 ≡ 0 → ⊥) (free : rows k ≡ none)
    (link : LinkOver s n rows (hash_of w) k place) (low : place < chains + n) where
  abbrev with-row : List ℕ
  with-row = put_row (linked s k place) (row_place n k) w

  apart : place ≡ next_place k → ⊥
  apart = link-elsewhere (hash-below w) link

  linked_long : length (linked s k place) ≡ length s
  linked_long = length-set (set s (next_place k) (get_or s place 0)) place (k + 1) ∙ length-set s (next_place k) (get_or s place 0)

  kept : (i : ℕ) → (i ≡ next_place k → ⊥) → (i ≡ place → ⊥) → ((u : ℕ) → u < 4 → i ≡ row_place n k + u → ⊥) → get_or with-row i 0 ≡ get_or s i 0
  kept i a b out =
      put_other (linked s k place) (row_place n k) w i out
      ∙ get_or-set_other (set s (next_place k) (get_or s place 0)) place i (k + 1) 0 b
      ∙ get_or-set_other s (next_place k) i (get_or s place 0) 0 a

  this-link : get_or with-row place 0 ≡ suc k
  this-link =
      put_other (linked s k place) (row_place n k) w place (λ u l e. omega arith)
      ∙ get_or-set_same (set s (next_place k) (get_or s place 0)) place (k + 1) 0 (omega (arith, length-set s (next_place k) (get_or s place 0), ix.size))
      ∙ omega arith

  this-next : get_or with-row (next_place k) 0 ≡ get_or s place 0
  this-next =
      put_other (linked s k place) (row_place n k) w (next_place k) (λ u l e. omega arith)
      ∙ get_or-set_other (set s (next_place k) (get_or s place 0)) place (next_place k) (k + 1) 0 (λ e. apart (sym e))
      ∙ get_or-set_same s (next_place k) (get_or s place 0) 0 (omega (arith, ix.size))

  this-row : with_row rows k w k ≡ some w
  this-row = rw (eq-eqb k k refl)

  others : (j : ℕ) → (j ≡ k → ⊥) → with_row rows k w j ≡ rows j
  others j other = rw (ne_eqb j k other)

  same_row : (v : Row) → with_row rows k w k ≡ some v → w ≡ v
  same_row v e = some-injective w v (sym this-row ∙ e)

  no-chain : (g : ℕ) → InChain rows g k → g ≡ hash_of w
  no-chain g (v, e, _) = none-is-some (sym free ∙ e)

  -- the row is the greatest below the link's end, and what the link led to is the greatest below the row
  led : Greatest (with_row rows k w) (hash_of w) link.top (suc k)
  led = record {
    within = link.over;
    inside = λ j e. let z : j ≡ k = omega arith in (w, ap (with_row rows k w) z ∙ this-row, refl);
    above = λ j l m c. link.leads.above j (omega (arith, link.low)) m (chain-as (with_row rows k w) rows (sym (others j (λ z. omega arith))) c);
  }

  leads-on : Greatest (with_row rows k w) (hash_of w) k (get_or s place 0)
  leads-on = record {
    within = before (ℕ_discrete (get_or s place 0) (suc k));
    inside = λ j e. chain-as rows (with_row rows k w) (others j (λ z. free-there j e z)) (link.leads.inside j e);
    above = λ j l m c. link.leads.above j l (omega (arith, link.over)) (chain-as (with_row rows k w) rows (sym (others j (λ z. omega arith))) c);
  }
    where
      free-there : (j : ℕ) → get_or s place 0 ≡ suc j → j ≡ k → ⊥
      free-there j e z = let (v, f, _) = link.leads.inside j e in none-is-some (sym free ∙ ap rows (sym z) ∙ f)

      before : Dec (get_or s place 0 ≡ suc k) → get_or s place 0 ≤ k
      before (yes e) = absurd (free-there k e refl)
      before (no e) = omega (arith, link.low)

  with-indexed : Indexed with-row n (with_row rows k w)
  with-indexed =
      let h = hash-below w in
      let long : row_place n k + 3 < length (linked s k place) = omega (arith, linked_long, ix.size) in
      relinked ix (hash_of w) k place few h link (with_row rows k w) others no-chain (λ g (v, e, c). sym c ∙ ap hash_of (sym (same_row v e))) with-row
      (put-long (linked s k place) (row_place n k) w ∙ linked_long)
      (subst (λ (x : ℕ). Greatest (with_row rows k w) (hash_of w) link.top x) (sym this-link) led)
      (λ g l other. kept g (λ e. omega arith) other (λ u m e. omega arith))
      (λ j l other off. kept (next_place j) (λ e. other (omega arith)) off (λ u m e. omega arith))
      (λ j l other i a b. kept i (λ e. omega arith) (λ e. omega arith) (λ u m e. omega arith))
      (λ v e. subst (λ (x : Row). RowWritten with-row n k x) (same_row v e) (record {
        there = there;
        w0 = put-0 (linked s k place) (row_place n k) w long;
        w1 = put_1 (linked s k place) (row_place n k) w long;
        w2 = put_2 (linked s k place) (row_place n k) w long;
        w3 = put_3 (linked s k place) (row_place n k) w long;
      }))
      (λ e. none-is-some (sym e ∙ this-row))
      (λ v e.
      subst (λ (x : Row). Greatest (with_row rows k w) (hash_of x) k (get_or with-row (next_place k) 0)) (same_row v e)
      (subst (λ (x : ℕ). Greatest (with_row rows k w) (hash_of w) k x) (sym this-next) leads-on))

-- what `add` promises, from what it writes
pub row-added : (s : List ℕ) {t : List ℕ} (k n h place : ℕ) (w : Row) → k < rows_in (length s) → n ≡ rows_in (length s) → h ≡ hash_of w → LinkFound s h k place
    → t ≡ put_row (set (set s (chains + k) (get_or s place 0)) place (k + 1)) (chains + n + 4 * k) w → Added s t k w
row-added s k n h place w few size hash found e = record {
  long = ap length e ∙ put-long (linked s k place) (chains + n + 4 * k) w ∙ length-set (set s (next_place k) (get_or s place 0)) place (k + 1) ∙ length-set s (next_place k) (get_or s place 0);
  index = λ m rows ix there free.
      let z : n ≡ m = size ∙ rows_of ix in
      let l : k < m = omega (arith, rows_of ix) in
      let low : place < chains + m = omega (arith, found.within, rows_of ix) in
      let link = subst (λ (x : ℕ). LinkOver s m rows x k place) hash (found.exact m rows ix l) in
      subst (λ (u : List ℕ). Indexed u m (with_row rows k w)) (sym (e ∙ ap (λ (x : ℕ). put_row (linked s k place) (chains + x + 4 * k) w) z))
      (with-indexed s m k w place rows ix l there free link low);
}

-- ---- a row less

abbrev unlinked : List ℕ → ℕ → ℕ → List ℕ
unlinked s k place = set s place (get_or s (next_place k) 0)

module _ (s : List ℕ) (n k : ℕ) (w : Row) (place : ℕ) (rows : Rows) (ix : Indexed s n rows) (here : rows k ≡ some w)
    (link : LinkOver s n rows (hash_of w) k place) (low : place < chains + n) where
  few-rows : k < n
  few-rows = there-below ix k w here

  abbrev without-row : List ℕ
  without-row = put_row (unlinked s k place) (row_place n k) (0, 0, 0, 0)

  others-without : (j : ℕ) → (j ≡ k → ⊥) → without_row rows k j ≡ rows j
  others-without j other = rw (ne_eqb j k other)

  none_here : without_row rows k k ≡ none
  none_here = rw (eq-eqb k k refl)

  kept-without : (i : ℕ) → (i ≡ place → ⊥) → ((u : ℕ) → u < 4 → i ≡ row_place n k + u → ⊥) → get_or without-row i 0 ≡ get_or s i 0
  kept-without i b out = put_other (unlinked s k place) (row_place n k) (0, 0, 0, 0) i out ∙ get_or-set_other s place i (get_or s (next_place k) 0) 0 b

  this-unlinked : get_or without-row place 0 ≡ get_or s (next_place k) 0
  this-unlinked =
      let m = few-rows in
      put_other (unlinked s k place) (row_place n k) (0, 0, 0, 0) place (λ u l e. omega arith)
      ∙ get_or-set_same s place (get_or s (next_place k) 0) 0 (omega (arith, ix.size))

  -- the link led to the row, and now leads past it
  led-here : get_or s place 0 ≡ suc k
  led-here = go (dec_lt k (get_or s place 0))
    where
      go : Dec (k < get_or s place 0) → get_or s place 0 ≡ suc k
      go (yes l) = omega (arith, link.low)
      go (no l) = absurd (link.leads.above k (omega arith) link.over (w, here, refl))

  led-past : Greatest (without_row rows k) (hash_of w) link.top (get_or s (next_place k) 0)
  led-past =
      let next = ix.nexts k w here in
      let o = link.over in
      record {
        within = omega (arith, next.within);
        inside = λ j e. chain-as rows (without_row rows k) (others-without j (λ z. omega (arith, next.within))) (next.inside j e);
        above = λ j l m c. past j l m c (ℕ_discrete j k) (dec_lt j k);
      }
    where
      past : (j : ℕ) → get_or s (next_place k) 0 ≤ j → j < link.top → InChain (without_row rows k) (hash_of w) j → Dec (j ≡ k) → Dec (j < k) → ⊥
      past j l m (v, e, _) (yes z) d = none-is-some (sym none_here ∙ ap (without_row rows k) (sym z) ∙ e)
      past j l m c (no z) (yes d) = (ix.nexts k w here).above j l d (chain-as (without_row rows k) rows (sym (others-without j z)) c)
      past j l m c (no z) (no d) = link.leads.above j (omega (arith, led-here)) m (chain-as (without_row rows k) rows (sym (others-without j z)) c)

  without-indexed : Indexed without-row n (without_row rows k)
  without-indexed =
      let h = hash-below w in
      let m = few-rows in
      let long : row_place n k + 3 < length (unlinked s k place) = omega (arith, length-set s place (get_or s (next_place k) 0), ix.size) in
      relinked ix (hash_of w) k place m h link (without_row rows k) others-without
      (λ g (v, e, c). sym c ∙ ap hash_of (some-injective v w (sym e ∙ here)))
      (λ g (v, e, c). none-is-some (sym none_here ∙ e)) without-row
      (put-long (unlinked s k place) (row_place n k) (0, 0, 0, 0) ∙ length-set s place (get_or s (next_place k) 0))
      (subst (λ (x : ℕ). Greatest (without_row rows k) (hash_of w) link.top x) (sym this-unlinked) led-past)
      (λ g l other. kept-without g other (λ u m e. omega arith))
      (λ j l other off. kept-without (next_place j) off (λ u m e. omega arith))
      (λ j l other i a b. kept-without i (λ e. omega arith) (λ u m e. omega arith))
      (λ v e. none-is-some (sym none_here ∙ e))
      (λ e. put-0 (unlinked s k place) (row_place n k) (0, 0, 0, 0) long)
      (λ v e. none-is-some (sym none_here ∙ e))

-- what `remove` promises, from what it writes
pub row-removed : (s : List ℕ) {t : List ℕ} (k n h place : ℕ) → k < rows_in (length s) → n ≡ rows_in (length s)
    → h ≡ hash_of (get_or s (chains + n + 4 * k) 0, get_or s (chains + n + 4 * k + 1) 0, get_or s (chains + n + 4 * k + 2) 0, get_or s (chains + n + 4 * k + 3) 0) → LinkFound s h k place
    → t ≡ put_row (set s place (get_or s (chains + k) 0)) (chains + n + 4 * k) (0, 0, 0, 0) → Removed s t k
row-removed s k n h place few size hash found e = record {
  long = ap length e ∙ put-long (unlinked s k place) (chains + n + 4 * k) (0, 0, 0, 0) ∙ length-set s place (get_or s (next_place k) 0);
  index = λ m rows w ix here.
      let z : n ≡ m = size ∙ rows_of ix in
      let l : k < m = omega (arith, rows_of ix) in
      let low : place < chains + m = omega (arith, found.within, rows_of ix) in
      let row = ix.written k w here in
      let words : hash_of (get_or s (chains + n + 4 * k) 0, get_or s (chains + n + 4 * k + 1) 0, get_or s (chains + n + 4 * k + 2) 0, get_or s (chains + n + 4 * k + 3) 0) ≡ hash_of w =
      ap (λ (x : ℕ). hash_of (get_or s (row_place x k) 0, get_or s (row_place x k + 1) 0, get_or s (row_place x k + 2) 0, get_or s (row_place x k + 3) 0)) z
      ∙ ap hash_of (same-row' row.w0 row.w1 row.w2 row.w3) in
      let link = subst (λ (x : ℕ). LinkOver s m rows x k place) (hash ∙ words) (found.exact m rows ix l) in
      subst (λ (u : List ℕ). Indexed u m (without_row rows k)) (sym (e ∙ ap (λ (x : ℕ). put_row (unlinked s k place) (chains + x + 4 * k) (0, 0, 0, 0)) z))
      (without-indexed s m k w place rows ix here link low);
}
