-- A line of a file: its tests, by its frame, its key and its fields. Assumes nothing.
use Rattle.std.proofs.Common.{◌≡◌, refl, sym, ap, subst, ◌∙◌, ℕ, ◌≤◌, ◌<◌, ◌⊎◌, inl, inr, Bool, true, false, List, [], ◌∷◌, Some, None, Result, Ok, Err, ltb, length, arith}
use lib.ListN.{length-append}
use borrow.Author.Tests.{lt-ltb, le-ltb}
use Rattle.std.proofs.Math.Option as math
use Rattle.std.proofs.Math.Option.{none, some}
use Rattle.model.specs.Notation.{◌>>=◌, ◌is◌, is_none}
use Rattle.model.specs.Limits.{line_bytes}
use Rattle.model.specs.Numbers as refusal
use Rattle.model.specs.Bytes.{Bytes}
use Rattle.model.specs.Keys as keys
use Rattle.model.specs.Keys.{key_word, rank, is_tie_key}
use Rattle.model.specs.Lines.{Line, framed, read_fields, read_line}
use Rattle.model.specs.Declarations.{Sort}
use Rattle.model.specs.State.{State}
use Rattle.model.specs.Refusals.{◌if◌, first, unframed, out_of_order, malformed, over_limits, undeclared, wrong_sort, repeated, full, circular, line_refusal}
use Rattle.model.specs.Load.{stepped, key_of}
use Rattle.model.specs.Standing.{Standing}
use Rattle.model.proofs.Lines.{framed-exact}
use Rattle.codes.specs.declared.Key.{Key}
use Rattle.codes.specs.declared.Key.TheVariants as key
use Rattle.codes.specs.declared.Refusal.{Refusal}
use Rattle.codes.specs.declared.Refusal.TheVariants.{Unframed, OutOfOrder}
use Rattle.codes.specs.Codes.{coded, key_code}
use Rattle.codes.specs.Enums.{key_number, key_for, refusal_number, number_in}
use Rattle.codes.proofs.Codes.{key-injective}
use Rattle.codes.proofs.Enums.{key-numbered}
use Rattle.fields.specs.declared.Framed.{Framed}
use Rattle.fields.specs.Frames.{bytes_between, FrameTold}
use Rattle.fields.proofs.ToldParts.{not-framed, is_framed}
use Rattle.book.specs.Held.{Holds}
use Rattle.file.specs.LineSteps.{fields_refusal, FieldsRead, HolderRead, TieRead, FieldsOf, LineRead}

-- ---- the frame

pub fields-short : (line : Bytes) (k : keys.Key) (f : Bytes) → framed line ≡ some (k, f) → length f ≤ line_bytes
fields-short line k f e =
    let short = ((framed-exact line k f).0 e).1 in
    omega (arith, short, length-append (key_word k) (61 ∷ f))

-- ---- the tests of a line

-- what a line is refused for, by its frame
abbrev refusal_of : State → math.Option keys.Key → math.Option (keys.Key × Bytes) → ℕ
refusal_of S p c =
    let l = c >>= λ (key, fields). read_fields key fields in
    first (
    refusal.unframed if is_none c
    ∷ refusal.out_of_order if (c is λ (key, fields). p is λ q. ltb (rank key) (rank q))
    ∷ refusal.malformed if (c is λ (key, fields). is_none (read_fields key fields))
    ∷ refusal.over_limits if (l is over_limits)
    ∷ refusal.undeclared if (l is undeclared S.declared)
    ∷ refusal.wrong_sort if (l is wrong_sort S.declared)
    ∷ refusal.repeated if (l is repeated S)
    ∷ refusal.full if (l is full S.declared)
    ∷ refusal.circular if (l is circular S)
    ∷ [])

by-frame : (S : State) (p : math.Option keys.Key) (line : Bytes) (c : math.Option (keys.Key × Bytes)) → framed line ≡ c → line_refusal S p line ≡ refusal_of S p c
unfolding line_refusal unframed out_of_order malformed read_line
by-frame S p line c e = ap (refusal_of S p) e

behind-order : (S : State) (b : Bool) (o : math.Option Line) → b ≡ false
    → first (refusal.out_of_order if b ∷ refusal.malformed if is_none o ∷ refusal.over_limits if (o is over_limits) ∷ refusal.undeclared if (o is undeclared S.declared) ∷ refusal.wrong_sort if (o is wrong_sort S.declared) ∷ refusal.repeated if (o is repeated S) ∷ refusal.full if (o is full S.declared) ∷ refusal.circular if (o is circular S) ∷ [])
    ≡ fields_refusal S o
behind-order S b none e = rw e
behind-order S b (some l) e = rw e

-- a key before its predecessor's, by their numbers
module _ (k : keys.Key) (p : math.Option keys.Key) where
  is-before : key_number (key_for k) < coded key_code p → (p is λ q. ltb (rank k) (rank q)) ≡ true
  is-before l = go p l
    where
      go : (o : math.Option keys.Key) → key_number (key_for k) < coded key_code o → (o is λ q. ltb (rank k) (rank q)) ≡ true
      go none l = absurd (omega (arith, key-numbered k))
      go (some q) l = lt-ltb (rank k) (rank q) (omega (arith, key-numbered k, key-numbered q))

  not-before : coded key_code p ≤ key_number (key_for k) → (p is λ q. ltb (rank k) (rank q)) ≡ false
  not-before l = go p l
    where
      go : (o : math.Option keys.Key) → coded key_code o ≤ key_number (key_for k) → (o is λ q. ltb (rank k) (rank q)) ≡ false
      go none l = refl
      go (some q) l = le-ltb (rank k) (rank q) (omega (arith, key-numbered k, key-numbered q))

pub line-fields : (line : Bytes) (f : Framed) → FrameTold line (Some f) → length (bytes_between line f.start f.end) ≤ line_bytes
line-fields line f told = let (k, n, e) = is_framed line f told in fields-short line k (bytes_between line f.start f.end) e

module _ {book : List ℕ} {code : Bytes} (line : Bytes) (previous : ℕ) where
  pub line-unframed : {book' : List ℕ} {code' : Bytes} {r : Result Key Refusal} → FrameTold line None → r ≡ Err Unframed → LineRead book code line previous book' code' r
  line-unframed told z S standing held p at = (ap number_in z ∙ sym (by-frame S p line none (not-framed line told)), λ k w. absurd (cc))

  module _ (f : Framed) (told : FrameTold line (Some f)) where
    pub line-early : {book' : List ℕ} {code' : Bytes} → key_number f.key < previous → LineRead book code line previous book' code' (Err OutOfOrder)
    line-early l S standing held p at =
        let (k, n, e) = is_framed line f told in
        let before : key_number (key_for k) < coded key_code p = omega (arith, ap key_number n, at) in
        (sym (by-frame S p line (some (k, bytes_between line f.start f.end)) e ∙ rw (is-before k p before)), λ k w. absurd (cc))

    module _ (l : previous ≤ key_number f.key) {book' : List ℕ} {code' : Bytes} {n : ℕ} (step : FieldsOf book code f.key (bytes_between line f.start f.end) book' code' n) where
      stepped_number : (S : State) → Standing S → Holds book code S → (p : math.Option keys.Key) → previous ≡ coded key_code p
          → (n ≡ line_refusal S p line) × (n ≡ 0 → Holds book' code' (stepped S (read_line line)) × (key_number f.key ≡ coded key_code (key_of line)))
      unfolding read_line
      stepped_number S standing held p at =
          let (k, m, e) = is_framed line f told in
          let fields = bytes_between line f.start f.end in
          let (is_number, holds) = step k m S standing held in
          let behind : coded key_code p ≤ key_number (key_for k) = omega (arith, ap key_number m, at) in
          let tests = by-frame S p line (some (k, fields)) e ∙ behind-order S (p is λ q. ltb (rank k) (rank q)) (read_fields k fields) (not-before k p behind) in
          let read : read_line line ≡ read_fields k fields = ap (λ (c : math.Option (keys.Key × Bytes)). c >>= λ (key, fields). read_fields key fields) e in (
            is_number ∙ sym tests,
            λ z. (
              subst (λ (o : math.Option Line). Holds book' code' (stepped S o)) (sym read) (holds z),
              ap key_number m ∙ key-numbered k ∙ ap (λ (c : math.Option (keys.Key × Bytes)). coded key_code (c >>= λ (key, fields). some key)) (sym e),
            ),
          )

      pub line-refused : {r : Result Key Refusal} {e : Refusal} → r ≡ Err e → n ≡ refusal_number e → LineRead book code line previous book' code' r
      line-refused z w S standing held p at = (ap number_in z ∙ sym w ∙ (stepped_number S standing held p at).0, λ k v. absurd (cc))

      pub line-stepped : n ≡ 0 → LineRead book code line previous book' code' (Ok f.key)
      line-stepped z S standing held p at =
          let s = stepped_number S standing held p at in
          (sym z ∙ s.0, λ k v. let same : f.key ≡ k = cc in let h = s.1 z in (h.0, ap key_number (sym same) ∙ h.1))

-- ---- keys by their variants

-- the variant of one key is that of no other
one-key : (j k : keys.Key) → key_for j ≡ key_for k → j ≡ k
one-key j k e = key-injective j k (sym (key-numbered j) ∙ ap key_number e ∙ key-numbered k)

module _ (f : Bytes) {k : Key} where
  pub at_key : {book book' : List ℕ} {code code' : Bytes} {n : ℕ} (j : keys.Key) → k ≡ key_for j → FieldsRead book code (read_fields j f) book' code' n → FieldsOf book code k f book' code' n
  at_key {book} {book'} {code} {code'} {n} j here read i e = subst (λ (x : keys.Key). FieldsRead book code (read_fields x f) book' code' n) (one-key j i (sym here ∙ e)) read

module _ (f : Bytes) (k : Key) {book book' : List ℕ} {code : Bytes} {n : ℕ} where
  pub holder-keys : (k ≡ key.Ugroup) ⊎ ((k ≡ key.Ogroup) ⊎ ((k ≡ key.User) ⊎ (k ≡ key.Object))) → HolderRead book k f book' n → FieldsOf book code k f book' code n
  holder-keys (inl e) read = at_key f keys.Key.ugroup e (read Sort.ugroup refl (ap key_number e) code)
  holder-keys (inr (inl e)) read = at_key f keys.Key.ogroup e (read Sort.ogroup refl (ap key_number e) code)
  holder-keys (inr (inr (inl e))) read = at_key f keys.Key.user e (read Sort.user refl (ap key_number e) code)
  holder-keys (inr (inr (inr e))) read = at_key f keys.Key.object e (read Sort.object refl (ap key_number e) code)

  pub tie-keys : (k ≡ key.Parent) ⊎ ((k ≡ key.Member) ⊎ (k ≡ key.Value)) → TieRead book k f book' n → FieldsOf book code k f book' code n
  tie-keys (inl e) read = at_key f keys.Key.parent e (read keys.Key.parent refl e code)
  tie-keys (inr (inl e)) read = at_key f keys.Key.member e (read keys.Key.member refl e code)
  tie-keys (inr (inr e)) read = at_key f keys.Key.value e (read keys.Key.value refl e code)
