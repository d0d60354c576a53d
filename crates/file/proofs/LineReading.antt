-- What the fields of a line that were taken apart do to a book, by the step of what they are. Assumes nothing.
use Rattle.std.proofs.Common.{◌≡◌, refl, sym, ap, subst, ◌∙◌, ℕ, Bool, true, false, List, [], ◌∷◌, ◌++◌, Some, None, Result, Ok, Err, arith}
use Rattle.std.proofs.Math.Option as math
use Rattle.std.proofs.Math.Option.{none, some}
use Rattle.model.specs.Notation.{◌>>=◌}
use Rattle.model.specs.Numbers as refusal
use Rattle.model.specs.Bytes.{Bytes}
use Rattle.model.specs.Names.{is_name, read_name}
use Rattle.model.specs.Atoms.{is_atom}
use Rattle.model.specs.Keys as keys
use Rattle.model.specs.Keys.{is_tie_key}
use Rattle.model.specs.Lines.{Line, attr, op, atom, holder, parent, member, value, read_attr, read_op, read_pair, read_holder, read_two, read_value, read_fields}
use Rattle.model.specs.State.{State}
use Rattle.model.specs.Refusals.{◌if◌, first, undeclared, wrong_sort, stands, circular}
use Rattle.model.specs.Standing.{Standing}
use Rattle.model.proofs.WordTables.{false-is-true}
use Rattle.model.proofs.Options.{parts}
use Rattle.model.proofs.Fields.{name_field, atom_field, both-fields, three-fields}
use Rattle.model.proofs.Lines.{fields-said}
use Rattle.codes.specs.declared.Key.{Key}
use Rattle.codes.specs.declared.Refusal.{Refusal}
use Rattle.codes.specs.declared.Refusal.TheVariants.{Malformed}
use Rattle.codes.specs.Enums.{source_number, type_number, key_number, refusal_number, number_in, told_by}
use Rattle.codes.proofs.Enums.{source-numbered, type-numbered}
use Rattle.text.specs.declared.Packed.{Packed}
use Rattle.text.specs.Packing.{packed_of}
use Rattle.fields.specs.declared.AttrFields.{AttrFields}
use Rattle.fields.specs.declared.PairFields.{PairFields}
use Rattle.fields.specs.Forms.{AttrTold, PairTold}
use Rattle.fields.proofs.ToldParts.{read_as}
use Rattle.book.specs.Held.{Holds}
use Rattle.book.specs.Steps.{later_tests, Steps}
use Rattle.book.specs.Declaring.{AttributeStep, OperationStep, PairStep, HolderStep}
use Rattle.tielines.specs.declared.Tie.{Tie}
use Rattle.tielines.specs.TieReading.{tie_of, field_tests, FieldsTie}
use Rattle.tielines.specs.TieSteps.{TieJudged, TieChanged}
use Rattle.tielines.proofs.TieLines.{after_read}
use Rattle.tielines.proofs.TieRefusals.{line_tie_tests, refused_for, line_refused, line-passed, stood}
use Rattle.file.specs.LineSteps.{fields_refusal, FieldsRead, KeyRead, HolderRead}

-- ---- fields that read, and fields that do not

pub fields-unread : {book book' : List ℕ} {code code' : Bytes} (o : math.Option Line) {A : Type 0} {r : Result A Refusal} → o ≡ none → r ≡ Err Malformed
    → FieldsRead book code o book' code' (number_in r)
fields-unread o e z S standing held = (ap number_in z ∙ ap (fields_refusal S) (sym e), λ w. absurd (omega (arith, ap number_in z, w)))

pub fields-line : {book book' : List ℕ} {code code' : Bytes} {o : math.Option Line} {l : Line} {r : ℕ} → o ≡ some l → Steps book code l book' code' r → FieldsRead book code o book' code' r
fields-line {book} {book'} {code} {code'} {o} {l} {r} e step = subst (λ (x : math.Option Line). FieldsRead book code x book' code' r) (sym e) step

-- ---- ties

-- the tests of a tie line are those of its fields and of its tie: it has no limits, and no table that is full
abbrev TieTests : State → Line → Type 0
TieTests S l = first (later_tests S l) ≡ first (field_tests (some l) S ++ line_tie_tests S (some l) true)

drop-full : (a b c d : Bool)
    → first (refusal.over_limits if false ∷ refusal.undeclared if a ∷ refusal.wrong_sort if b ∷ refusal.repeated if c ∷ refusal.full if false ∷ refusal.circular if d ∷ [])
    ≡ first (refusal.malformed if false ∷ refusal.undeclared if a ∷ refusal.wrong_sort if b ∷ refusal.repeated if c ∷ refusal.circular if d ∷ refusal.not_standing if false ∷ [])
drop-full true b c d = refl
drop-full false true c d = refl
drop-full false false true d = refl
drop-full false false false true = refl
drop-full false false false false = refl

read-tests : (S : State) (k : keys.Key) → is_tie_key k ≡ true → (f : Bytes) (l : Line) → read_fields k f ≡ some l → TieTests S l
unfolding read_two read_value
read-tests S keys.Key.attr i f l e = false-is-true i
read-tests S keys.Key.op i f l e = false-is-true i
read-tests S keys.Key.atom i f l e = false-is-true i
read-tests S keys.Key.ugroup i f l e = false-is-true i
read-tests S keys.Key.ogroup i f l e = false-is-true i
read-tests S keys.Key.user i f l e = false-is-true i
read-tests S keys.Key.object i f l e = false-is-true i
read-tests S keys.Key.parent i f l e = both-fields name_field name_field parent f l e λ a b m n j z.
    subst (TieTests S) z (drop-full (undeclared S.declared (parent a b)) (wrong_sort S.declared (parent a b)) (stands S (parent a b)) (circular S (parent a b)))
read-tests S keys.Key.member i f l e = both-fields name_field name_field member f l e λ a b m n j z.
    subst (TieTests S) z (drop-full (undeclared S.declared (member a b)) (wrong_sort S.declared (member a b)) (stands S (member a b)) (circular S (member a b)))
read-tests S keys.Key.value i f l e = three-fields name_field name_field atom_field value f l e λ a b c m n o j z.
    subst (TieTests S) z (drop-full (undeclared S.declared (value a b c)) (wrong_sort S.declared (value a b c)) (stands S (value a b c)) (circular S (value a b c)))
read-tests S keys.Key.rule i f l e = false-is-true i

module _ {book : List ℕ} (k : keys.Key) (f : Bytes) (tie : is_tie_key k ≡ true) {r : Result Tie Refusal} (told : FieldsTie book (read_fields k f) r) where
  tests-are : (S : State) → fields_refusal S (read_fields k f) ≡ first (field_tests (read_fields k f) S ++ line_tie_tests S (read_fields k f) true)
  tests-are S = go (read_fields k f) refl
    where
      go : (o : math.Option Line) → read_fields k f ≡ o → fields_refusal S o ≡ first (field_tests o S ++ line_tie_tests S o true)
      go none e = refl
      go (some l) e = read-tests S k tie f l e

  pub tie-unread : {e : Refusal} → r ≡ Err e → {n : ℕ} → n ≡ refusal_number e → KeyRead book (read_fields k f) book n
  tie-unread {e} z w code S standing held =
      (w ∙ sym (tests-are S ∙ line_refused (told S code standing held) (line_tie_tests S (read_fields k f) true) z), λ v. absurd (refused_for e (sym w ∙ v)))

  -- a tie line whose fields, names and sorts are right
  module _ {t : Tie} (fine : r ≡ Ok t) {n : ℕ} (judged : TieJudged book (tie_of t) true n) where
    number_is : (code : Bytes) (S : State) → Standing S → Holds book code S → n ≡ fields_refusal S (read_fields k f)
    number_is code S standing held =
        let read = told S code standing held in
        judged S code standing held (read.fits t fine) ∙ sym (tests-are S ∙ line-passed read refl fine true)

    pub tie-refused : (n ≡ 0 → ⊥) → KeyRead book (read_fields k f) book n
    tie-refused other code S standing held = (number_is code S standing held, λ z. absurd (other z))

    pub tie-added : n ≡ 0 → {book' : List ℕ} → TieChanged (tie_of t) true book book' → KeyRead book (read_fields k f) book' 0
    tie-added none' {book'} changed code S standing held =
        let read = told S code standing held in
        let passed = sym none' ∙ judged S code standing held (read.fits t fine) in (
          sym none' ∙ number_is code S standing held,
          λ z.
              subst (Holds book' code) (sym (after_read S (read_fields k f) (tie_of t) (read.tie t fine)))
              (changed.holds S code standing held (read.fits t fine) (stood S (tie_of t) true passed)),
        )

-- ---- the fields of each form

module _ {book book' : List ℕ} {n : ℕ} (f : Bytes) where
  -- "SRC,NAME,TYPE"
  pub attr-read : (r : AttrFields) → AttrTold f (Some r) → AttributeStep book (source_number r.source) (type_number r.ty) r.name book' n → KeyRead book (read_attr f) book' n
  attr-read r told step code =
      let ((s, m, t), e, g) = read_as told in
      fields-line e (step code s m t (fields-said keys.Key.attr f (attr s m t) e).0 (ap (λ (x : AttrFields). source_number x.source) g ∙ source-numbered s) (ap (λ (x : AttrFields). type_number x.ty) g ∙ type-numbered t)
      (ap (λ (x : AttrFields). x.name) (sym g)))

  -- "SRC.NAME,ATOM"
  pub pair_read : (r : PairFields) → PairTold f (Some r) → PairStep book (source_number r.source) r.name r.atom book' n → KeyRead book (read_pair f) book' n
  pair_read r told step code =
      let ((s, m, a), e, g) = read_as told in
      let (named, atomic) = parts (is_name m) (is_atom a) (fields-said keys.Key.atom f (atom s m a) e).0 in
      fields-line e (step code s m a named atomic (ap (λ (x : PairFields). source_number x.source) g ∙ source-numbered s) (ap (λ (x : PairFields). x.name) (sym g))
      (ap (λ (x : PairFields). x.atom) (sym g)))

-- a name
unnamed : (line : Bytes → Line) (o : math.Option Bytes) → None ≡ told_by packed_of o → (o >>= λ m. some (line m)) ≡ none
unnamed line none e = refl
unnamed line (some m) e = absurd (cc)

named : (line : Bytes → Line) (o : math.Option Bytes) {p : Packed} → Some p ≡ told_by packed_of o
    → (m : Bytes) × (o ≡ some m) × ((o >>= λ m. some (line m)) ≡ some (line m)) × (packed_of m ≡ p)
named line none e = absurd (cc)
named line (some m) e = (m, refl, refl, cc)

-- a name that is read is one
name-formed : (f m : Bytes) → read_name f ≡ some m → is_name m ≡ true
name-formed f m e = ((name_field.exact f m).0 e).0

module _ (f : Bytes) where
  pub op-unread : None ≡ told_by packed_of (read_name f) → read_op f ≡ none
  unfolding read_op
  op-unread told = unnamed op (read_name f) told

  pub op-read : {book book' : List ℕ} {n : ℕ} {p : Packed} → Some p ≡ told_by packed_of (read_name f) → OperationStep book p book' n → KeyRead book (read_op f) book' n
  unfolding read_op
  op-read told step code = let (m, is_m, e, words) = named op (read_name f) told in fields-line e (step code m (name-formed f m is_m) words)

  pub holder-unread : (k : Key) {book book' : List ℕ} {A : Type 0} {r : Result A Refusal} → None ≡ told_by packed_of (read_name f) → r ≡ Err Malformed → HolderRead book k f book' (number_in r)
  unfolding read_holder
  holder-unread k told z s other e code = fields-unread (read_holder s f) (unnamed (holder s) (read_name f) told) z

  pub holder-read : (k : Key) {book book' : List ℕ} {n : ℕ} {p : Packed} → Some p ≡ told_by packed_of (read_name f) → HolderStep book (key_number k) p book' n → HolderRead book k f book' n
  unfolding read_holder
  holder-read k told step s other e code = let (m, is_m, read, words) = named (holder s) (read_name f) told in fields-line read (step code s m other (name-formed f m is_m) e words)
