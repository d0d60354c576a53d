-- The walk along a chain: what is known at its start, behind each row, and at its end. Assumes nothing.
use Prim.Native.Nat.{ℕ, zero, suc, ◌+◌, ◌*◌, ◌≤◌, ◌<◌}
use mathlib.Core.Path.{◌≡◌, refl, sym, ap, subst, ◌∙◌}
use mathlib.Core.Logic.{◌⊎◌, inl, inr}
use mathlib.Core.Bool.{Bool, true, false}
use mathlib.Core.List.{List}
use mathlib.Core.Option.{some}
use native.Mathlib.Decide.{dec_lt}
use native.Mathlib.Omega.{arith}
use native.Mathlib.Nat.{eq-or-lt_of_le}
use lib.Dec.{eqb}
use lib.ListN.{length, get_or}
use borrow.Author.Tests.{eqb-true, eq-eqb, le-leb, lt-ltb}
use Rattle.std.specs.Prelude.{Option, Some, None}
use Rattle.model.proofs.WordTables.{false-is-true, none-is-some}
use Rattle.model.proofs.Options.{parts}
use Rattle.index.specs.Index.{chains, rows_in, next_place, row_place, Row, hash_of, is_at, link_of, Rows, InChain, Greatest, RowWritten, Indexed, RowFound}

pub hash-below : (w : Row) → hash_of w < chains
unfolding hash_of
hash-below w = omega arith

-- the numbers of rows that a link leads to, and those before them: the word of the link
abbrev pub reach : Option ℕ → ℕ
reach None = 0
reach (Some k) = suc k

-- a word that leads below `top` is taken as it is
pub link-within : (v top : ℕ) → v ≤ top → reach (link_of v top) ≡ v
link-within zero top h = refl
link-within (suc v) top h = rw (lt-ltb 0 (suc v) (omega arith), le-leb (suc v) top h) (omega arith)

-- a section's length tells how many rows it has
pub rows_of : {s : List ℕ} {n : ℕ} {rows : Rows} → Indexed s n rows → rows_in (length s) ≡ n
rows_of ix = let e = ix.size in omega arith

-- rows with equal words are equal; the words at a place are a row's exactly when the test says so
pub same_row : {v w : Row} → v.0 ≡ w.0 → v.1 ≡ w.1 → v.2 ≡ w.2 → v.3 ≡ w.3 → v ≡ w
same_row {v} {w} e f g h =
    ap (λ (x : ℕ). (x, v.1, v.2, v.3)) e
    ∙ ap (λ (x : ℕ). (w.0, x, v.2, v.3)) f
    ∙ ap (λ (x : ℕ). (w.0, w.1, x, v.3)) g
    ∙ ap (λ (x : ℕ). (w.0, w.1, w.2, x)) h

module _ (s : List ℕ) (n k : ℕ) {v : Row} (row : RowWritten s n k v) where
  pub at_row : is_at s (row_place n k) v ≡ true
  unfolding is_at
  at_row = rw (eq-eqb _ _ row.w0, eq-eqb _ _ row.w1, eq-eqb _ _ row.w2, eq-eqb _ _ row.w3)

  pub row_at : (w : Row) → is_at s (row_place n k) w ≡ true → v ≡ w
  unfolding is_at
  row_at w e =
      let (f, e3) = parts _ (eqb (get_or s (row_place n k + 3) 0) w.3) e in
      let (g, e2) = parts _ (eqb (get_or s (row_place n k + 2) 0) w.2) f in
      let (e0, e1) = parts (eqb (get_or s (row_place n k) 0) w.0) (eqb (get_or s (row_place n k + 1) 0) w.1) g in
      same_row (sym row.w0 ∙ eqb-true _ _ e0) (sym row.w1 ∙ eqb-true _ _ e1) (sym row.w2 ∙ eqb-true _ _ e2) (sym row.w3 ∙ eqb-true _ _ e3)

-- a row that is there has a number below n
pub there-below : {s : List ℕ} {n : ℕ} {rows : Rows} → Indexed s n rows → (k : ℕ) (w : Row) → rows k ≡ some w → k < n
there-below {n = n} ix k w e = go (dec_lt k n)
  where
    go : Dec (k < n) → k < n
    go (yes h) = h
    go (no h) = none-is-some (sym (ix.few k (omega arith)) ∙ e)

-- rows that are the same at a number have it in the same chain
pub chain-as : (rows rows' : Rows) {h k : ℕ} → rows' k ≡ rows k → InChain rows h k → InChain rows' h k
chain-as rows rows' same (w, e, f) = (w, same ∙ e, f)

-- a link leads to a row of w's chain, or nowhere; no row with a number from `reach` up has w's words
pub record Walk (rows : Rows) (w : Row) (reach : ℕ) : Type 0 where
  pub inside : (k : ℕ) → reach ≡ suc k → InChain rows (hash_of w) k
  pub passed : (k : ℕ) → reach ≤ k → rows k ≡ some w → ⊥

-- a chain's word below `top` goes on with the walk, if no row from `top` up has w's words
next-walk : (rows : Rows) (w : Row) (top v : ℕ) → Greatest rows (hash_of w) top v → ((k : ℕ) → top ≤ k → rows k ≡ some w → ⊥)
    → Walk rows w (reach (link_of v top))
next-walk rows w top v g none-up =
    subst (Walk rows w) (sym (link-within v top g.within)) (record { inside = g.inside; passed = λ k h e. go k h e (dec_lt k top) })
  where
    go : (k : ℕ) → v ≤ k → rows k ≡ some w → Dec (k < top) → ⊥
    go k h e (yes l) = g.above k h l (w, e, refl)
    go k h e (no l) = none-up k (omega arith) e

module _ {s : List ℕ} {n : ℕ} {rows : Rows} (ix : Indexed s n rows) (w : Row) where
  pub walk_start : Walk rows w (reach (link_of (get_or s (hash_of w) 0) n))
  walk_start = next-walk rows w n _ (ix.firsts (hash_of w) (hash-below w)) (λ k h e. none-is-some (sym (ix.few k h) ∙ e))

  pub walk-on : (k : ℕ) → Walk rows w (suc k) → is_at s (row_place n k) w ≡ false → Walk rows w (reach (link_of (get_or s (next_place k) 0) k))
  walk-on k walk other =
      let (v, e, same) = walk.inside k refl in
      next-walk rows w k _ (rw same at (ix.nexts k v e)) λ j h f. go j f (eq-or-lt_of_le h)
    where
      go : (j : ℕ) → rows j ≡ some w → (k ≡ j) ⊎ (k < j) → ⊥
      go j f (inl e) = false-is-true (sym other ∙ at_row s n k (ix.written k w (ap rows e ∙ f)))
      go j f (inr h) = walk.passed j (omega arith) f

  pub walk-found : (k : ℕ) → Walk rows w (suc k) → is_at s (row_place n k) w ≡ true → rows k ≡ some w
  walk-found k walk same =
      let (v, e, _) = walk.inside k refl in
      e ∙ ap (λ (x : Row). some x) (row_at s n k (ix.written k v e) w same)

-- the same of whatever rows s is the index of, in the terms of the code: m is the number of rows
abbrev pub Walks : List ℕ → Row → Option ℕ → Type 0
Walks s w at = (n : ℕ) (rows : Rows) → Indexed s n rows → Walk rows w (reach at)

module _ (s : List ℕ) (w : Row) (m : ℕ) (size : m ≡ rows_in (length s)) where
  pub walks-start : (h : ℕ) (at : Option ℕ) → h ≡ hash_of w → at ≡ link_of (get_or s h 0) m → Walks s w at
  walks-start h at e f n rows ix = rw (f, e, size, rows_of ix) (walk_start ix w)

  module _ (k : ℕ) (walks : Walks s w (Some k)) (t : Bool) (tested : t ≡ is_at s (chains + m + 4 * k) w) where
    place_of : {n : ℕ} {rows : Rows} → Indexed s n rows → is_at s (row_place n k) w ≡ t
    place_of ix = ap (λ (x : ℕ). is_at s (row_place x k) w) (sym (size ∙ rows_of ix)) ∙ sym tested

    pub walks-on : (next : Option ℕ) → t ≡ false → next ≡ link_of (get_or s (chains + k) 0) k → Walks s w next
    walks-on next off f n rows ix = rw f (walk-on ix w k (walks n rows ix) (place_of ix ∙ off))

    pub walks-found : t ≡ true → (n : ℕ) (rows : Rows) → Indexed s n rows → RowFound rows w (Some k)
    walks-found on n rows ix = walk-found ix w k (walks n rows ix) (place_of ix ∙ on)

pub walks-end : (s : List ℕ) (w : Row) → Walks s w None → (n : ℕ) (rows : Rows) → Indexed s n rows → RowFound rows w None
walks-end s w walks n rows ix k e = (walks n rows ix).passed k (omega arith) e
