-- What is found in a section is the number that the declarations give. Assumes nothing.
use Prim.Native.Nat.{ℕ, ◌+◌, ◌*◌, ◌≤◌, ◌<◌}
use mathlib.Core.Path.{◌≡◌, refl, sym, ap, ◌∙◌}
use mathlib.Core.Logic.{◌↔◌}
use mathlib.Core.Bool.{Bool, true, false, ◌&&◌, true≢false}
use mathlib.Core.List.{List, [], ◌∷◌}
use mathlib.Core.Option as math
use mathlib.Core.Option.{none, some, some-injective}
use Rattle.std.specs.Prelude.{Option, Some, None, IfSome}
use native.Mathlib.Omega.{arith}
use lib.Dec.{eqb}
use lib.ListN.{length, get_or}
use borrow.Author.Tests.{ne_eqb}
use Rattle.model.specs.Notation.{◌>>=◌, nth, find}
use Rattle.model.specs.Limits.{operation_limit, pair_limit}
use Rattle.model.specs.Bytes.{Bytes, same}
use Rattle.model.specs.Names.{is_name}
use Rattle.model.specs.Atoms.{same_atom}
use Rattle.model.specs.Declarations.{Declarations, Attribute, Pair, Holder, same_source_and_name, attribute_number, operation_number, pair_number, holder_of, holder_number}
use Rattle.model.specs.Standing.{WellDeclared}
use Rattle.model.proofs.WordTables.{same-eq, same_refl}
use Rattle.model.proofs.Options.{parts, both, bind-some}
use Rattle.model.proofs.Numbered.{find-in, find_none, found_number, number-found}
use Rattle.model.proofs.Lists.{same_truth, all-parts}
use Rattle.model.proofs.Declared.{same-sym, named-eq, eq-named, pair-declared}
use Rattle.text.specs.declared.Packed.{Packed}
use Rattle.text.specs.declared.Words.{Words}
use Rattle.text.specs.Packing.{packed_of, packed_at, two_words, solid}
use Rattle.text.specs.Values.{atom_words}
use Rattle.text.proofs.Packing.{name-same, name-solid, solid-range, named-at}
use Rattle.text.proofs.Values.{words-injective, same-atom-eq, same-atom-refl}
use Rattle.codes.specs.Enums.{told}
use Rattle.rows.specs.Rows.{number_or}
use Rattle.rows.proofs.FirstPlaces.{First, first-told, first-low}
use Rattle.rows.proofs.RowsOfAttributes.{number-injective}
use Rattle.index.specs.Index.{Row, RowFound, FindsRow, rows_of}
use Rattle.index.proofs.Listed.{place_found, indexed-same}
use Rattle.book.specs.Sections.{book_holders}
use Rattle.book.specs.Held.{OperationRows, pair_row, holder_row}
use Rattle.book.specs.Finding.{HolderFound, OperationFound, PairFound}

-- two names with the same words are the same
packed-name : (m n : Bytes) → is_name m ≡ true → is_name n ≡ true → (packed_of m).low ≡ (packed_of n).low → (packed_of m).high ≡ (packed_of n).high → same m n ≡ true
packed-name m n e f low high = sym (name-same m n e f) ∙ rw (low, high) (same_refl (two_words (packed_of n)))

-- the first word of a name is not 0
pub name-word : (n : Bytes) → is_name n ≡ true → (packed_of n).low ≡ 0 → ⊥
unfolding is_name
name-word [] e z = true≢false (sym e)
name-word (x ∷ n) e z = let (one, rest) = all-parts solid x n (name-solid (x ∷ n) e) in omega (arith, solid-range x one)

-- ---- holders

abbrev pub row_of_name : Packed → Row
row_of_name p = (1, p.low, p.high, 0)

module _ (section : List ℕ) (name : Packed) (r : Option ℕ) (finds : FindsRow section (row_of_name name) r) where
  pub holder-found : HolderFound section name r
  unfolding holder_number
  holder-found D well ix n named words = by_name (find (λ h. same h.name n) D.holders) refl r (finds.exact book_holders (holder_row D) ix)
    where
      -- a holder is found by its row exactly when it has the name
      here : (k : ℕ) (h : Holder) → holder_of D k ≡ some h → same h.name n ≡ true → holder_row D k ≡ some (row_of_name name)
      here k h e f = rw e (ap (λ (p : Packed). some (row_of_name p)) (ap packed_of (same-eq h.name n f) ∙ words))

      name_of : (k : ℕ) → holder_row D k ≡ some (row_of_name name) → (h : Holder) × (holder_of D k ≡ some h) × (same h.name n ≡ true)
      name_of k e =
          let (h, f, g) = bind-some (holder_of D k) (λ h. some (row_of_name (packed_of h.name))) e in
          let w = some-injective _ _ g in (
            h,
            f,
            packed-name h.name n (well.holders.named k h f) named
                (ap (λ (w : Row). w.1) w ∙ sym (ap (λ (p : Packed). p.low) words)) (ap (λ (w : Row). w.2) w ∙ sym (ap (λ (p : Packed). p.high) words)),
          )

      -- the holder that is found by its name
      by_name : (o : math.Option Holder) → find (λ h. same h.name n) D.holders ≡ o → (r : Option ℕ) → RowFound (holder_row D) (row_of_name name) r
          → r ≡ told (o >>= λ h. some h.number)
      by_name none e None nowhere = refl
      by_name none e (Some k) found =
          let (h, f, s) = name_of k found in
          absurd (true≢false (sym s ∙ find_none (λ h. same h.name n) D.holders e (found_number (λ h. h.number) D.holders k h f).0))
      by_name (some h) e r found =
          let (m, f) = find-in (λ h. same h.name n) D.holders h e in
          at r found h (number-found (λ h. h.number) D.holders well.holders.ordered m) f
        where
          at : (r : Option ℕ) → RowFound (holder_row D) (row_of_name name) r → (h : Holder) → holder_of D h.number ≡ some h → same h.name n ≡ true → r ≡ Some h.number
          at None nowhere h e f = absurd (nowhere h.number (here h.number h e f))
          at (Some k) found h e f =
              let (g, u, s) = name_of k found in
              ap Some (well.holders.unique k h.number g h u e (rw (same-eq g.name n s, same-eq h.name n f) (same_refl n)))

-- ---- pairs

abbrev pub row_of_words : ℕ → Words → Row
row_of_words k words = (k + 1, words.first, words.second, words.third)

-- the row of a pair, of any attribute's number
abbrev row_of_pair : Declarations → Pair → Row
row_of_pair D q =
    row_of_words (number_or 0 (attribute_number D q.source q.name)) (atom_words q.atom)

-- in declarations that stand each pair has its row
pub pair-rows : (D : Declarations) → WellDeclared D → (p : ℕ) → pair_row D p ≡ rows_of (row_of_pair D) D.pairs p
pair-rows D well p = go (nth D.pairs p) refl
  where
    go : (o : math.Option Pair) → nth D.pairs p ≡ o → pair_row D p ≡ rows_of (row_of_pair D) D.pairs p
    go none e = rw e
    go (some q) e = let d = pair-declared well p q e in rw (e, d.number_is)

same-words : (u v : Words) → u.first ≡ v.first → u.second ≡ v.second → u.third ≡ v.third → u ≡ v
same-words u v e f g =
    ap (λ (x : ℕ). record { first = x; second = u.second; third = u.third }) e
    ∙ ap (λ (x : ℕ). record { first = v.first; second = x; third = u.third }) f
    ∙ ap (λ (x : ℕ). record { first = v.first; second = v.second; third = x }) g

module _ (section : List ℕ) (k : ℕ) (words : Words) (r : Option ℕ) (finds : FindsRow section (row_of_words k words) r) where
  pub pair_found : PairFound section k words r
  unfolding pair_number
  pair_found D well ix s n b a number attribute type written atom =
      go r (finds.exact pair_limit (rows_of (row_of_pair D) D.pairs) (indexed-same (pair_row D) (rows_of (row_of_pair D) D.pairs) (pair-rows D well) ix))
    where
      w : Row
      w = row_of_words k words

      alike : Pair → Bool
      alike q = same_source_and_name q.source q.name s n && same_atom q.atom a

      known : (q : Pair) → alike q ≡ true → (q.source ≡ s) × (q.name ≡ n) × (q.atom ≡ a)
      known q e =
          let (p, t) = parts (same_source_and_name q.source q.name s n) (same_atom q.atom a) e in
          let (x, y) = named-eq q.source q.name s n p in
          (x, y, same-atom-eq q.atom a t)

      tells : (i : ℕ) (q : Pair) → nth D.pairs i ≡ some q → (alike q ≡ true) ↔ (row_of_pair D q ≡ w)
      tells i q e = (λ f. forth (known q f), back)
        where
          forth : (q.source ≡ s) × (q.name ≡ n) × (q.atom ≡ a) → row_of_pair D q ≡ w
          forth (x, y, z) = rw (x, y, z, number, atom)

          back : row_of_pair D q ≡ w → alike q ≡ true
          back f =
              let d = pair-declared well i q e in
              let first : number_or 0 (attribute_number D q.source q.name) + 1 ≡ k + 1 = ap (λ (v : Row). v.0) f in
              let j : d.number ≡ k = omega (arith, rw d.number_is at first) in
              let (x, y) = number-injective D q.source s q.name n k (d.number_is ∙ ap some j) number in
              let t : d.attribute ≡ b = some-injective _ _ (sym d.attribute-is ∙ ap (nth D.attributes) j ∙ attribute) in
              let u : atom_words q.atom ≡ atom_words a =
              same-words (atom_words q.atom) words (ap (λ (v : Row). v.1) f) (ap (λ (v : Row). v.2) f) (ap (λ (v : Row). v.3) f) ∙ sym atom in
              let z = words-injective q.atom a (well.pairs.each i q e).written written (d.typed ∙ ap (λ (c : Attribute). c.type) t ∙ type) u in
              both (eq-named q.source q.name s n x y) (rw z (same-atom-refl a))

      unique : (i j : ℕ) (p q : Pair) → nth D.pairs i ≡ some p → nth D.pairs j ≡ some q → alike p ≡ true → alike q ≡ true → i ≡ j
      unique i j p q e f g h =
          let (x, y, z) = known p g in
          let (x', y', z') = known q h in
          well.pairs.unique i j p q e f
          (both (eq-named p.source p.name q.source q.name (x ∙ sym x') (y ∙ sym y')) (rw (z, z') (same-atom-refl a)))

      go : (r : Option ℕ) → RowFound (rows_of (row_of_pair D) D.pairs) w r → r ≡ told (pair_number D s n a)
      go None nowhere = ap told (sym (place_found (row_of_pair D) D.pairs alike w tells unique None nowhere))
      go (Some p) found = ap told (sym (place_found (row_of_pair D) D.pairs alike w tells unique (Some p) found))

-- ---- operations

module _ (rows : List ℕ) (name : Packed) (D : Declarations) (well : WellDeclared D) (held : OperationRows rows D.operations) (n : Bytes)
    (named : is_name n ≡ true) (words : packed_of n ≡ name) where
  abbrev at_row : ℕ → Bool
  at_row i = packed_at rows (2 * i) name.low name.high

  -- a row has a name where its operation has
  row_named_lem : (i : ℕ) (m : Bytes) → nth D.operations i ≡ some m → at_row i ≡ same n m
  row_named_lem i m e =
      named-at rows (2 * i) m n (well.operations.named i m e) named words (held.low i m e) (held.high i m e)
      ∙ same_truth (same m n) (same n m) (same-sym m n) (same-sym n m)

  row_other : (i : ℕ) → length D.operations ≤ i → i < operation_limit → at_row i ≡ false
  unfolding packed_at
  row_other i h l =
      ap (λ (t : Bool). t && eqb (get_or rows (2 * i + 1) 0) name.high)
      (ne_eqb (get_or rows (2 * i) 0) name.low (λ e. name-word n named (ap (λ (x : Packed). x.low) words ∙ sym e ∙ held.other i h l)))

-- the first row with a name has its operation's number
pub operation-found : (rows : List ℕ) (name : Packed) (r : Option ℕ) → First (λ i. packed_at rows (2 * i) name.low name.high) operation_limit r
    → IfSome r (λ k. k < operation_limit) × OperationFound rows name r
unfolding operation_number
operation-found rows name r first = (
  first-low (λ i. packed_at rows (2 * i) name.low name.high) operation_limit r first,
  λ D well held n named words.
      first-told (same n) D.operations (at_row rows name D well held n named words) operation_limit well.operations.few
      (row_named_lem rows name D well held n named words) (row_other rows name D well held n named words) r first,
)
