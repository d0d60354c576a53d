-- The tie of a line with these names: what it is refused for, or its numbers. Assumes nothing.
use Rattle.std.proofs.Common.{◌≡◌, refl, sym, ap, subst, ◌∙◌, ℕ, ◌+◌, ◌*◌, ◌<◌, Bool, true, false, ◌&&◌, not, List, [], ◌∷◌, get_or, Option, Some, None, Result, Ok, Err, arith}
use mathlib.Core.Bool.{true≢false}
use Rattle.std.specs.Option.{ok_or}
use Rattle.std.proofs.Math.Option as math
use Rattle.std.proofs.Math.Option.{none, some, some-injective}
use Rattle.model.specs.Notation.{◌>>=◌, ◌is◌, is_none, nth}
use Rattle.model.specs.Limits.{attribute_limit}
use Rattle.model.specs.Numbers as refusal
use Rattle.model.specs.Bytes.{Bytes}
use Rattle.model.specs.Names.{is_name}
use Rattle.model.specs.Attributes.{Source}
use Rattle.model.specs.Atoms.{Atom, type_of, same_atom}
use Rattle.model.specs.Keys.{Key}
use Rattle.model.specs.Lines.{Line}
use Rattle.model.specs.Declarations.{Declarations, Attribute, Sort, is_sort, same_source_and_name, parent_sort, group_sort, sort_of, source_for, attribute_number, pair_number, holder_number}
use Rattle.model.specs.Ties as ties
use Rattle.model.specs.State as state
use Rattle.model.specs.State.{State}
use Rattle.model.specs.Refusals.{◌if◌, first, fits}
use Rattle.model.specs.Standing.{WellDeclared, Standing}
use Rattle.model.proofs.WordTables.{none-is-some}
use Rattle.model.proofs.Options.{parts, no_result}
use Rattle.model.proofs.Lists.{nth-lt, place-nth}
use Rattle.model.proofs.Declared.{named-eq, same-atom-eq, pair-declared}
use Rattle.model.proofs.Standing.{named-holder}
use Rattle.codes.specs.declared.Source as code
use Rattle.codes.specs.declared.Refusal.{Refusal}
use Rattle.codes.specs.declared.Refusal.TheVariants.{Undeclared, WrongSort}
use Rattle.codes.specs.Codes.{coded, type_code, key_code}
use Rattle.codes.specs.Enums.{number_in, told, told_by}
use Rattle.codes.proofs.Codes.{type-injective}
use Rattle.text.specs.declared.Packed.{Packed}
use Rattle.text.specs.Packing.{packed_of}
use Rattle.text.specs.declared.Value.{Value}
use Rattle.book.specs.Sections as section
use Rattle.book.specs.Sections.{section_words}
use Rattle.book.specs.Held.{sort_code, Holds}
use Rattle.tielines.specs.declared.Tie.{Tie}
use Rattle.tielines.specs.declared.Tie.TheVariants as tie
use Rattle.tielines.specs.TieReading.{tie_of, declared_as, HolderNamed, SortAbove, TwoNamed, SourceOfSort, PairNamed, ValueNamed}
use Rattle.tielines.proofs.TieSorts.{sort-fits, sort-differs}
use Rattle.book.proofs.HeldNumbers.{sorted-in-book}
use Rattle.tielines.proofs.TieEditing.{word_at}

-- ---- a number that was found

pub told-some : {A : Type 0} (o : math.Option A) {a : A} → Some a ≡ told o → o ≡ some a
told-some none e = absurd (cc)
told-some (some x) e = cc

pub told-none : {A : Type 0} (o : math.Option A) → None ≡ told o → o ≡ none
told-none none e = refl
told-none (some x) e = absurd (cc)

pub declared-some : (o : math.Option ℕ) {k : ℕ} → Ok k ≡ declared_as o → o ≡ some k
declared-some none e = absurd (cc)
declared-some (some x) e = cc

pub declared-none : (o : math.Option ℕ) {e : Refusal} → Err e ≡ declared_as o → (o ≡ none) × (e ≡ Undeclared)
declared-none none e = (refl, cc)
declared-none (some x) e = absurd (cc)

pub number-or : (o : math.Option ℕ) {r : Result ℕ Refusal} → r ≡ ok_or (told o) Undeclared → r ≡ declared_as o
number-or none e = e
number-or (some k) e = e

-- ---- the tests of a tie line, whose tie is f and whose sorts are wrong or not

abbrev pub TieTested : math.Option ties.Tie → Bool → Result Tie Refusal → Type 0
TieTested f w r = (number_in r ≡ first (refusal.undeclared if is_none f ∷ refusal.wrong_sort if w ∷ [])) × ((t : Tie) → r ≡ Ok t → f ≡ some (tie_of t))

pub is-undeclared : (f : math.Option ties.Tie) (w : Bool) {r : Result Tie Refusal} → f ≡ none → r ≡ Err Undeclared → TieTested f w r
is-undeclared none w n e = (ap number_in e, λ t z. absurd (cc))
is-undeclared (some v) w n e = none-is-some (sym n)

pub is-wrong-sort : (f : math.Option ties.Tie) (w : Bool) (v : ties.Tie) → f ≡ some v → w ≡ true → TieTested f w (Err WrongSort)
is-wrong-sort none w v y x = none-is-some y
is-wrong-sort (some u) true v y x = (refl, λ t z. absurd (cc))
is-wrong-sort (some u) false v y x = absurd (true≢false (sym x))

pub accepted : (f : math.Option ties.Tie) (w : Bool) (t : Tie) → f ≡ some (tie_of t) → w ≡ false → TieTested f w (Ok t)
accepted none w t y x = none-is-some y
accepted (some u) true t y x = absurd (true≢false x)
accepted (some u) false t y x = (refl, λ v z. let e : t ≡ v = cc in y ∙ ap (λ (a : Tie). some (tie_of a)) e)

-- the numbers of attributes are few
module _ {S : State} (standing : Standing S) where
  pub attribute-few : (s : Source) (n : Bytes) (k : ℕ) → attribute_number S.declared s n ≡ some k → k < attribute_limit
  unfolding attribute_number
  attribute-few s n k e =
      let r = place-nth (λ a. same_source_and_name a.source a.name s n) S.declared.attributes k e in
      omega (arith, nth-lt S.declared.attributes k r.1, standing.declarations.attributes.few)

-- a holder that is found has a sort
pub holder-sort : {D : Declarations} → WellDeclared D → (n : Bytes) (k : ℕ) → holder_number D n ≡ some k → (s : Sort) × (sort_of D k ≡ some s)
unfolding sort_of
holder-sort well n k e = let r = named-holder well n k e in (r.0.sort, rw r.1)

-- its word is the sort's code
pub sort-word : {S : State} {book : List ℕ} {code : Bytes} → Standing S → Holds book code S → (k : ℕ) (s : Sort) → sort_of S.declared k ≡ some s
    → get_or book ((section.sorts).start + k) 0 ≡ sort_code s
sort-word {S} {book} standing held k s e =
    let few = sorted-in-book standing held k e in sym (word_at section.sorts book k few) ∙ held.sorts k few ∙ ap (coded sort_code) e

-- ---- parent and member lines

-- which sort stands above which in a tie of that key, and its tie
pub data Kind : ℕ → (Sort → math.Option Sort) → (ℕ → ℕ → ties.Tie) → Type 0 where
  parent : Kind (key_code Key.parent) parent_sort ties.Tie.parent
  member : Kind (key_code Key.member) group_sort ties.Tie.member

pub wanted : {k : ℕ} {above : Sort → math.Option Sort} {tie : ℕ → ℕ → ties.Tie} → Kind k above tie → {r : Option ℕ} (s : Sort)
    → (k ≡ key_code Key.parent → r ≡ told_by sort_code (parent_sort s)) × (k ≡ key_code Key.member → r ≡ told_by sort_code (group_sort s)) → r ≡ told_by sort_code (above s)
wanted parent s e = e.0 refl
wanted member s e = e.1 refl

pub is-parent : {k : ℕ} {above : Sort → math.Option Sort} {tie : ℕ → ℕ → ties.Tie} → Kind k above tie → k ≡ key_code Key.parent → (h u : ℕ) → tie h u ≡ ties.Tie.parent h u
is-parent parent e h u = refl
is-parent member e h u = absurd (omega arith)

pub is-member : {k : ℕ} {above : Sort → math.Option Sort} {tie : ℕ → ℕ → ties.Tie} → Kind k above tie → (k ≡ key_code Key.parent → ⊥) → (h u : ℕ) → tie h u ≡ ties.Tie.member h u
is-member parent e h u = absurd (e refl)
is-member member e h u = refl

module _ (D : Declarations) (above : Sort → math.Option Sort) (tie : ℕ → ℕ → ties.Tie) (c g : Bytes) where
  abbrev pub two_found : math.Option ties.Tie
  two_found = holder_number D c >>= λ h. holder_number D g >>= λ u. some (tie h u)

  abbrev pub TwoAnswers : Result Tie Refusal → Type 0
  TwoAnswers r = TieTested two_found (not (fits above D c g)) r

  pub lower-gone : {r : Result Tie Refusal} → holder_number D c ≡ none → r ≡ Err Undeclared → TwoAnswers r
  lower-gone n e = is-undeclared two_found (not (fits above D c g)) (ap (λ (o : math.Option ℕ). o >>= λ h. holder_number D g >>= λ u. some (tie h u)) n) e

  module _ {h : ℕ} (lower : holder_number D c ≡ some h) where
    pub upper-gone : {r : Result Tie Refusal} → holder_number D g ≡ none → r ≡ Err Undeclared → TwoAnswers r
    upper-gone n e =
        is-undeclared two_found (not (fits above D c g))
        (ap (λ (o : math.Option ℕ). o >>= λ h. holder_number D g >>= λ u. some (tie h u)) lower ∙ ap (λ (o : math.Option ℕ). o >>= λ u. some (tie h u)) n) e

    module _ {u : ℕ} (upper : holder_number D g ≡ some u) where
      both_found : two_found ≡ some (tie h u)
      both_found =
          ap (λ (o : math.Option ℕ). o >>= λ h. holder_number D g >>= λ u. some (tie h u)) lower ∙ ap (λ (o : math.Option ℕ). o >>= λ u. some (tie h u)) upper

      module _ {a b : Sort} (lower-is : sort_of D h ≡ some a) (upper_is : sort_of D u ≡ some b) where
        fits_by : fits above D c g ≡ (above a is λ w. is_sort w b)
        unfolding fits
        fits_by =
            ap (λ (o : math.Option Sort). (o >>= above) is λ w. (holder_number D g >>= sort_of D) is is_sort w) (ap (λ (o : math.Option ℕ). o >>= sort_of D) lower ∙ lower-is)
            ∙ ap (λ (o : math.Option Sort). above a is λ w. o is is_sort w) (ap (λ (o : math.Option ℕ). o >>= sort_of D) upper ∙ upper_is)

        pub sorts-wrong : (told_by sort_code (above a) ≡ Some (sort_code b) → ⊥) → TwoAnswers (Err WrongSort)
        sorts-wrong n = is-wrong-sort two_found (not (fits above D c g)) (tie h u) both_found (ap not (fits_by ∙ sort-differs (above a) b n))

        pub sorts-right : (t : Tie) → told_by sort_code (above a) ≡ Some (sort_code b) → tie h u ≡ tie_of t → TwoAnswers (Ok t)
        sorts-right t e same = accepted two_found (not (fits above D c g)) t (both_found ∙ ap some same) (ap not (fits_by ∙ sort-fits (above a) b e))

-- both kinds of lines, by the key
pub two-named : (book : List ℕ) (k : ℕ) (lower upper : Packed) (r : Result Tie Refusal)
    → ((c g : Bytes) → is_name c ≡ true → is_name g ≡ true → packed_of c ≡ lower → packed_of g ≡ upper → (S : State) (code : Bytes) → Standing S → Holds book code S
    → (above : Sort → math.Option Sort) (tie : ℕ → ℕ → ties.Tie) → Kind k above tie → TwoAnswers S.declared above tie c g r)
    → TwoNamed book k lower upper r
two-named book k lower upper r answers c g nc ng pc pg = (
  λ e S code standing held.
      answers c g nc ng pc pg S code standing held parent_sort ties.Tie.parent (subst (λ (x : ℕ). Kind x parent_sort ties.Tie.parent) (sym e) parent),
  λ e S code standing held.
      answers c g nc ng pc pg S code standing held group_sort ties.Tie.member (subst (λ (x : ℕ). Kind x group_sort ties.Tie.member) (sym e) member),
)

module _ (book : List ℕ) (k : ℕ) (lower upper : Packed) where
  pub two-lower : {r : Result Tie Refusal} {e : Refusal} → HolderNamed book lower (Err e) → r ≡ Err e → TwoNamed book k lower upper r
  two-lower gone z = two-named book k lower upper _ (λ c g nc ng pc pg S code standing held above tie kind.
      let (n, e) = declared-none (holder_number S.declared c) (gone S code standing held c nc pc) in
      lower-gone S.declared above tie c g n (z ∙ ap Err e))

  module _ {h : ℕ} (lower-is : HolderNamed book lower (Ok h)) where
    pub two-upper : {r : Result Tie Refusal} {e : Refusal} → HolderNamed book upper (Err e) → r ≡ Err e → TwoNamed book k lower upper r
    two-upper gone z = two-named book k lower upper _ (λ c g nc ng pc pg S code standing held above tie kind.
        let (n, e) = declared-none (holder_number S.declared g) (gone S code standing held g ng pg) in
        upper-gone S.declared above tie c g (declared-some (holder_number S.declared c) (lower-is S code standing held c nc pc)) n (z ∙ ap Err e))

    module _ {u : ℕ} (upper_is : HolderNamed book upper (Ok u)) {w : Option ℕ} (above-is : SortAbove k (get_or book ((section.sorts).start + h) 0) w) where
      pub two-wrong : (w ≡ Some (get_or book ((section.sorts).start + u) 0) → ⊥) → TwoNamed book k lower upper (Err WrongSort)
      two-wrong other = two-named book k lower upper _ (λ c g nc ng pc pg S code standing held above tie kind.
          let l = declared-some (holder_number S.declared c) (lower-is S code standing held c nc pc) in
          let m = declared-some (holder_number S.declared g) (upper_is S code standing held g ng pg) in
          let a = holder-sort standing.declarations c h l in
          let b = holder-sort standing.declarations g u m in
          let asked = wanted kind a.0 (above-is a.0 (sort-word standing held h a.0 a.1)) in
          sorts-wrong S.declared above tie c g l m a.1 b.1 (λ e. other (asked ∙ e ∙ sym (ap Some (sort-word standing held u b.0 b.1)))))

      pub two-right : (t : Tie) → ((above : Sort → math.Option Sort) (tie : ℕ → ℕ → ties.Tie) → Kind k above tie → tie h u ≡ tie_of t)
          → w ≡ Some (get_or book ((section.sorts).start + u) 0) → TwoNamed book k lower upper (Ok t)
      two-right t same same_sort = two-named book k lower upper _ (λ c g nc ng pc pg S code standing held above tie kind.
          let l = declared-some (holder_number S.declared c) (lower-is S code standing held c nc pc) in
          let m = declared-some (holder_number S.declared g) (upper_is S code standing held g ng pg) in
          let a = holder-sort standing.declarations c h l in
          let b = holder-sort standing.declarations g u m in
          let asked = wanted kind a.0 (above-is a.0 (sort-word standing held h a.0 a.1)) in
          sorts-right S.declared above tie c g l m a.1 b.1 t (sym asked ∙ same_sort ∙ ap Some (sort-word standing held u b.0 b.1)) (same above tie kind))

-- ---- pairs

-- a declared pair's attribute is declared, and of the type of its atom
pair-attribute : {S : State} → Standing S → (s : Source) (n : Bytes) (a : Atom) (p : ℕ) → pair_number S.declared s n a ≡ some p
    → (k : ℕ) × (b : Attribute) × (attribute_number S.declared s n ≡ some k) × (nth S.declared.attributes k ≡ some b) × (type_of a ≡ b.type)
unfolding pair_number
pair-attribute {S} standing s n a p e =
    let r = place-nth (λ q. same_source_and_name q.source q.name s n && same_atom q.atom a) S.declared.pairs p e in
    let q = r.0 in
    let both = parts (same_source_and_name q.source q.name s n) (same_atom q.atom a) r.2 in
    let named = named-eq q.source q.name s n both.0 in
    let d = pair-declared standing.declarations p q r.1 in (
      d.number,
      d.attribute,
      ap (λ (v : Source). attribute_number S.declared v n) (sym named.0) ∙ ap (attribute_number S.declared q.source) (sym named.1) ∙ d.number_is,
      d.attribute-is,
      ap type_of (sym (same-atom-eq q.atom a both.1)) ∙ d.typed,
    )

pub no-attribute : {S : State} → Standing S → (s : Source) (n : Bytes) (a : Atom) → attribute_number S.declared s n ≡ none → pair_number S.declared s n a ≡ none
no-attribute {S} standing s n a gone = no_result (pair_number S.declared s n a) (λ p e. none-is-some (sym gone ∙ (pair-attribute standing s n a p e).2))

pub attribute-at : (D : Declarations) (s : Source) (n : Bytes) (k : ℕ) → attribute_number D s n ≡ some k → (b : Attribute) × (nth D.attributes k ≡ some b)
unfolding attribute_number
attribute-at D s n k e = let r = place-nth (λ a. same_source_and_name a.source a.name s n) D.attributes k e in (r.0, r.1)

module _ {S : State} {book : List ℕ} {code : Bytes} (standing : Standing S) (held : Holds book code S) (s : Source) (n : Bytes) (a : Atom) (k : ℕ) (b : Attribute)
    (number : attribute_number S.declared s n ≡ some k) (at : nth S.declared.attributes k ≡ some b) where
  type-word : get_or book ((section.attributes).start + 8 * k + 1) 0 ≡ type_code b.type
  type-word =
      let few = attribute-few standing s n k number in
      let place : (section.attributes).start + 8 * k + 1 ≡ (section.attributes).start + (8 * k + 1) = omega arith in
      ap (λ (i : ℕ). get_or book i 0) place ∙ sym (word_at section.attributes book (8 * k + 1) (omega arith)) ∙ (held.attributes.row k b at).type

  pub same-type : get_or book ((section.attributes).start + 8 * k + 1) 0 ≡ type_code (type_of a) → b.type ≡ type_of a
  same-type e = type-injective b.type (type_of a) (sym type-word ∙ e)

  pub other-type : (get_or book ((section.attributes).start + 8 * k + 1) 0 ≡ type_code (type_of a) → ⊥) → pair_number S.declared s n a ≡ none
  other-type differs = no_result (pair_number S.declared s n a) (λ p e.
      let r = pair-attribute standing s n a p e in
      let one : r.0 ≡ k = some-injective _ _ (sym r.2 ∙ number) in
      let alike : r.1 ≡ b = some-injective _ _ (sym r.3 ∙ ap (nth S.declared.attributes) one ∙ at) in
      differs (type-word ∙ ap (λ (x : Attribute). type_code x.type) (sym alike) ∙ ap type_code (sym r.4)))

-- ---- value lines

module _ (D : Declarations) (h n : Bytes) (a : Atom) where
  pub holder-gone : {r : Result Tie Refusal} → holder_number D h ≡ none → r ≡ Err Undeclared → TieTested (state.tie_of D (Line.value h n a)) false r
  holder-gone gone e =
      is-undeclared (state.tie_of D (Line.value h n a)) false
      (ap (λ (o : math.Option ℕ). o >>= λ k. sort_of D k >>= λ sort. pair_number D (source_for sort) n a >>= λ p. some (ties.Tie.value k p)) gone) e

  module _ {k : ℕ} {sort : Sort} (number : holder_number D h ≡ some k) (sort-is : sort_of D k ≡ some sort) where
    tie-by : state.tie_of D (Line.value h n a) ≡ (pair_number D (source_for sort) n a >>= λ p. some (ties.Tie.value k p))
    tie-by =
        ap (λ (o : math.Option ℕ). o >>= λ k. sort_of D k >>= λ sort. pair_number D (source_for sort) n a >>= λ p. some (ties.Tie.value k p)) number
        ∙ ap (λ (o : math.Option Sort). o >>= λ sort. pair_number D (source_for sort) n a >>= λ p. some (ties.Tie.value k p)) sort-is

    pub pair-gone : {r : Result Tie Refusal} → pair_number D (source_for sort) n a ≡ none → r ≡ Err Undeclared → TieTested (state.tie_of D (Line.value h n a)) false r
    pair-gone gone e =
        is-undeclared (state.tie_of D (Line.value h n a)) false (tie-by ∙ ap (λ (o : math.Option ℕ). o >>= λ p. some (ties.Tie.value k p)) gone) e

    pub pair-there : (t : Tie) {p : ℕ} → pair_number D (source_for sort) n a ≡ some p → ties.Tie.value k p ≡ tie_of t
        → TieTested (state.tie_of D (Line.value h n a)) false (Ok t)
    pair-there t e same =
        accepted (state.tie_of D (Line.value h n a)) false t (tie-by ∙ ap (λ (o : math.Option ℕ). o >>= λ p. some (ties.Tie.value k p)) e ∙ ap some same) refl

module _ (book : List ℕ) (holder name : Packed) (atom : Value) where
  pub value-holder : {r : Result Tie Refusal} {e : Refusal} → HolderNamed book holder (Err e) → r ≡ Err e → ValueNamed book holder name atom r
  value-holder gone z h n a nh nn wa ph pn va S code standing held =
      let (g, e) = declared-none (holder_number S.declared h) (gone S code standing held h nh ph) in
      holder-gone S.declared h n a g (z ∙ ap Err e)

  module _ {k : ℕ} (holder-is : HolderNamed book holder (Ok k)) {source : code.Source} (source-is : SourceOfSort (get_or book ((section.sorts).start + k) 0) source) where
    pub value-pair : {r : Result Tie Refusal} → PairNamed book source name atom None → r ≡ Err Undeclared → ValueNamed book holder name atom r
    value-pair gone z h n a nh nn wa ph pn va S code standing held =
        let l = declared-some (holder_number S.declared h) (holder-is S code standing held h nh ph) in
        let s = holder-sort standing.declarations h k l in
        let from = source_for s.0 in
        let g = gone S code standing held from n a nn wa (source-is s.0 (sort-word standing held k s.0 s.1)) pn va in
        pair-gone S.declared h n a l s.1 (told-none (pair_number S.declared from n a) g) z

    pub value-there : {p : ℕ} → PairNamed book source name atom (Some p) → ValueNamed book holder name atom (Ok (tie.Value k p))
    value-there {p} there h n a nh nn wa ph pn va S code standing held =
        let l = declared-some (holder_number S.declared h) (holder-is S code standing held h nh ph) in
        let s = holder-sort standing.declarations h k l in
        let from = source_for s.0 in
        let g = there S code standing held from n a nn wa (source-is s.0 (sort-word standing held k s.0 s.1)) pn va in
        pair-there S.declared h n a l s.1 (tie.Value k p) (told-some (pair_number S.declared from n a) g) refl
