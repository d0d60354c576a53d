-- The tie of an edit's line, by its frame and its key: 4, 13, or that of its fields. Assumes nothing.
use Prim.Native.Nat.{ℕ}
use mathlib.Core.Path.{◌≡◌, refl, ap, sym, ◌∙◌}
use mathlib.Core.Logic.{◌⊎◌, ⊎_elim}
use mathlib.Core.Bool.{Bool, true, false, not}
use mathlib.Core.List.{List, ◌∷◌}
use Rattle.std.proofs.Common.{Result, Err, None, Some}
use Rattle.model.specs.Numbers as refusal
use Rattle.model.specs.Bytes.{Bytes}
use Rattle.model.specs.Keys as keys
use Rattle.model.specs.Keys.{is_tie_key}
use Rattle.model.specs.Lines.{read_fields, read_line}
use Rattle.model.specs.Refusals.{◌if◌, first, unframed, other_key, malformed}
use Rattle.codes.specs.declared.Key.{Key}
use Rattle.codes.specs.declared.Key.TheVariants as variant
use Rattle.codes.specs.declared.Refusal.{Refusal}
use Rattle.codes.specs.declared.Refusal.TheVariants.{Unframed, OtherKey}
use Rattle.codes.specs.Enums.{key_number, key_for}
use Rattle.codes.proofs.Enums.{key-numbered}
use Rattle.fields.specs.declared.Framed.{Framed}
use Rattle.fields.specs.Frames.{bytes_between, FrameTold}
use Rattle.fields.proofs.ToldParts.{not-framed, is_framed}
use Rattle.tielines.specs.declared.Tie.{Tie}
use Rattle.tielines.specs.TieReading.{field_tests, KeyTie}
use Rattle.edit.specs.EditSteps.{LineTie}

pub no-frame : {book : List ℕ} (line : Bytes) → FrameTold line None → LineTie book line (Err Unframed)
unfolding unframed
no-frame line told S code standing held = record { refusal = rw (not-framed line told); tie = λ t e. cc; fits = λ t e. absurd (cc) }

-- the keys of ties
pub tie-key : (k : keys.Key) {key : Key} → key ≡ key_for k → (key ≡ variant.Parent) ⊎ (key ≡ variant.Member) ⊎ (key ≡ variant.Value) → is_tie_key k ≡ true
tie-key keys.Key.parent e c = refl
tie-key keys.Key.member e c = refl
tie-key keys.Key.value e c = refl
tie-key keys.Key.attr e c = ⊎_elim (λ p. cc) (λ d. ⊎_elim (λ m. cc) (λ v. cc) d) c
tie-key keys.Key.op e c = ⊎_elim (λ p. cc) (λ d. ⊎_elim (λ m. cc) (λ v. cc) d) c
tie-key keys.Key.atom e c = ⊎_elim (λ p. cc) (λ d. ⊎_elim (λ m. cc) (λ v. cc) d) c
tie-key keys.Key.ugroup e c = ⊎_elim (λ p. cc) (λ d. ⊎_elim (λ m. cc) (λ v. cc) d) c
tie-key keys.Key.ogroup e c = ⊎_elim (λ p. cc) (λ d. ⊎_elim (λ m. cc) (λ v. cc) d) c
tie-key keys.Key.user e c = ⊎_elim (λ p. cc) (λ d. ⊎_elim (λ m. cc) (λ v. cc) d) c
tie-key keys.Key.object e c = ⊎_elim (λ p. cc) (λ d. ⊎_elim (λ m. cc) (λ v. cc) d) c
tie-key keys.Key.rule e c = ⊎_elim (λ p. cc) (λ d. ⊎_elim (λ m. cc) (λ v. cc) d) c

pub other-key : (k : keys.Key) {key : Key} → key ≡ key_for k → (key ≡ variant.Parent → ⊥) → (key ≡ variant.Member → ⊥) → (key ≡ variant.Value → ⊥) → is_tie_key k ≡ false
other-key keys.Key.parent e p m v = absurd (p e)
other-key keys.Key.member e p m v = absurd (m e)
other-key keys.Key.value e p m v = absurd (v e)
other-key keys.Key.attr e p m v = refl
other-key keys.Key.op e p m v = refl
other-key keys.Key.atom e p m v = refl
other-key keys.Key.ugroup e p m v = refl
other-key keys.Key.ogroup e p m v = refl
other-key keys.Key.user e p m v = refl
other-key keys.Key.object e p m v = refl
other-key keys.Key.rule e p m v = refl

module _ {book : List ℕ} (line : Bytes) (r : Framed) (told : FrameTold line (Some r)) where
  pub key-of-others : ((k : keys.Key) → r.key ≡ key_for k → is_tie_key k ≡ false) → LineTie book line (Err OtherKey)
  unfolding unframed other_key malformed read_line
  key-of-others other S code standing held =
      let (k, e, here) = is_framed line r told in record {
        refusal =
            rw here (sym (ap (λ (b : Bool). first (refusal.other_key if not b ∷ field_tests (read_fields k (bytes_between line r.start r.end)) S)) (other k e)));
        tie = λ t e. cc;
        fits = λ t e. absurd (cc);
      }

  pub key-of-ties : ((k : keys.Key) → r.key ≡ key_for k → is_tie_key k ≡ true) → {t : Result Tie Refusal} → KeyTie book (key_number r.key) (bytes_between line r.start r.end) t → LineTie book line t
  unfolding unframed other_key malformed read_line
  key-of-ties is-tie keyed S code standing held =
      let (k, e, here) = is_framed line r told in
      let i = is-tie k e in
      let a = keyed k i (ap key_number e ∙ key-numbered k) S code standing held in
      record { refusal = rw (here, i) a.refusal; tie = rw here a.tie; fits = a.fits }
