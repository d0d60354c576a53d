-- An atom is read exactly from the bytes that write it.
use Prim.Native.Nat.{ℕ}
use mathlib.Core.Path.{◌≡◌, refl, sym, ap, ◌∙◌}
use mathlib.Core.Logic.{◌↔◌}
use mathlib.Core.Bool.{Bool, true, false}
use mathlib.Core.List.{[], ◌∷◌, ◌++◌}
use mathlib.Core.Option.{Option, none, some, some-injective}
use borrow.Author.Tests.{leb-true, le-leb}
use lib.ListN.{length}
use lib.Dec.{leb}
use Rattle.model.specs.Notation.{◌>>=◌, is_empty, all_of}
use Rattle.model.specs.Limits.{largest_int, text_bytes}
use Rattle.model.specs.Bytes.{Bytes, bytes, newline, behind, one_of}
use Rattle.model.specs.Atoms.{Atom, int, str, bool, read_int, decimal, text_byte, is_text, quoted, read_str, bool_word, read_bool, read_atom, write_atom, is_atom}
use Rattle.model.proofs.WordTables.{false-is-true, one-of-word, bools, reads-bool}
use Rattle.model.proofs.Options.{parts, bound, condition, choice, no_result}
use Rattle.model.proofs.Lists.{all-parts, all_append, empty}
use Rattle.model.proofs.Cuts.{isnt, lacks, passing-lacks, cut-joined, cut-bound, behind-parts}
use Rattle.model.proofs.Decimals.{digit, digits_decimal, int-exact}

-- a text holds no double quote and no byte 10
pub text-lacks : (b : ℕ) → text_byte b ≡ false → (t : Bytes) → is_text t ≡ true → lacks b t ≡ true
unfolding is_text
text-lacks b off t e = passing-lacks text_byte b off t (parts (leb (length t) text_bytes) (all_of text_byte t) e).1

pub str-exact : (s t : Bytes) → (read_str s ≡ some t) ↔ ((is_text t ≡ true) × (s ≡ quoted t))
unfolding read_str
str-exact s t = (sound, λ h. rw h.1 (complete h.0))
  where
    sound : read_str s ≡ some t → (is_text t ≡ true) × (s ≡ quoted t)
    sound e = bound {o = behind (bytes "\"") s} e λ r h k. cut-bound 34 r k λ c p j q.
        let (d, z) = condition {a = c.0} q in
        let (d₁, d₂) = parts (is_empty c.1) (is_text c.0) d in
        (rw z at d₂, behind-parts (bytes "\"") s h ∙ rw (j, empty c.1 d₁, z))

    complete : is_text t ≡ true → read_str (quoted t) ≡ some t
    complete h = rw (cut-joined 34 t [] (text-lacks 34 refl t h), h)

pub bool-exact : (s : Bytes) (b : Bool) → (read_bool s ≡ some b) ↔ (s ≡ bool_word b)
unfolding read_bool
bool-exact s b = (λ e. sym (one-of-word bool_word bools s b e), λ e. ap (one_of bool_word bools) e ∙ reads-bool b)

-- quoted bytes are no number
quoted-no-int : (t : Bytes) → read_int (quoted t) ≡ none
quoted-no-int t = no_result (read_int (quoted t)) λ n e.
    let q = ((int-exact (quoted t) n).0 e).1 in
    false-is-true (all-parts digit 34 (t ++ 34 ∷ []) (ap (all_of digit) q ∙ digits_decimal n)).0

-- the words of truth values are neither numbers nor quoted
bool-atom : (b : Bool) → read_atom (bool_word b) ≡ some (bool b)
unfolding read_atom read_int read_str read_bool
bool-atom true = refl
bool-atom false = refl

pub atom-exact : (s : Bytes) (a : Atom) → (read_atom s ≡ some a) ↔ ((is_atom a ≡ true) × (s ≡ write_atom a))
unfolding read_atom
atom-exact s a = (sound, λ h. rw h.1 (complete a h.0))
  where
    made : {A : Type 0} (o : Option A) (f : A → Atom) → ((x : A) → o ≡ some x → (is_atom (f x) ≡ true) × (s ≡ write_atom (f x)))
        → (o >>= λ x. some (f x)) ≡ some a → (is_atom a ≡ true) × (s ≡ write_atom a)
    made o f k e = bound {o = o} e λ x p q. let z = some-injective _ _ q in rw z at (k x p)

    sound : read_atom s ≡ some a → (is_atom a ≡ true) × (s ≡ write_atom a)
    sound e =
        choice e (made (read_int s) int λ n p. let h = (int-exact s n).0 p in (le-leb n largest_int h.0, h.1)) λ q f.
        choice f (made (read_str s) str λ t p. (str-exact s t).0 p) λ r.
        made (read_bool s) bool λ b p. (refl, (bool-exact s b).0 p)

    complete : (a : Atom) → is_atom a ≡ true → read_atom (write_atom a) ≡ some a
    complete (int n) h = rw ((int-exact (decimal n) n).1 (leb-true n largest_int h, refl))
    complete (str t) h = rw (quoted-no-int t, (str-exact (quoted t) t).1 (h, refl))
    complete (bool b) h = bool-atom b

-- no atom holds byte 10
pub atom-lacks : (a : Atom) → is_atom a ≡ true → lacks newline (write_atom a) ≡ true
atom-lacks (int n) h = passing-lacks digit newline refl (decimal n) (digits_decimal n)
atom-lacks (str t) h = all_append (isnt newline) t (bytes "\"") (text-lacks newline refl t h) refl
atom-lacks (bool true) h = refl
atom-lacks (bool false) h = refl
