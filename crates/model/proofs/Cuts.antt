-- Bytes are cut at the first of a byte, and a text stands behind another, exactly where they are joined so.
use Prim.Native.Nat.{ℕ}
use mathlib.Core.Path.{◌≡◌, refl, sym, ap, ◌∙◌}
use mathlib.Core.Logic.{◌↔◌}
use mathlib.Core.Bool.{Bool, true, false, not}
use mathlib.Core.List.{[], ◌∷◌, ◌++◌}
use mathlib.Core.Option.{Option, some}
use borrow.Author.Tests.{eqb-true, eq-eqb, not-true}
use lib.Dec.{eqb}
use Rattle.model.specs.Notation.{◌>>=◌, is_empty, all_of}
use Rattle.model.specs.Bytes.{Bytes, newline, cut, behind, content}
use Rattle.model.proofs.WordTables.{false-is-true, none-is-some}
use Rattle.model.proofs.Options.{fields, bound, condition}
use Rattle.model.proofs.Lists.{all-parts, all_cons, all-by, empty}

-- no byte of a list is b
abbrev pub isnt : ℕ → ℕ → Bool
isnt b x = not (eqb x b)

abbrev pub lacks : ℕ → Bytes → Bool
lacks b s = all_of (isnt b) s

-- from the parts to the whole, and back
pub cut-joined : (b : ℕ) (l r : Bytes) → lacks b l ≡ true → cut b (l ++ b ∷ r) ≡ some (l, r)
cut-joined b [] r e = rw (cut, eq-eqb b b refl)
cut-joined b (x ∷ l) r e = let (p, q) = all-parts (isnt b) x l e in rw (cut, not-true (eqb x b) p, cut-joined b l r q)

pub cut_parts : (b : ℕ) (s : Bytes) {l r : Bytes} → cut b s ≡ some (l, r) → (lacks b l ≡ true) × (s ≡ l ++ b ∷ r)
cut_parts b [] e = none-is-some e
cut_parts b (x ∷ s) {l} {r} e = go (eqb x b) refl (λ l r. cut_parts b s {l = l} {r = r})
  where
    go : (t : Bool) → eqb x b ≡ t → ((l r : Bytes) → cut b s ≡ some (l, r) → (lacks b l ≡ true) × (s ≡ l ++ b ∷ r)) → (lacks b l ≡ true) × (x ∷ s ≡ l ++ b ∷ r)
    go true p f =
        let e' = rw (cut, p) at e in
        let (u, v) = fields e' in
        (rw (← u), rw (← u, eqb-true x b p, v))
    go false p f = bound {o = cut b s} (rw (cut, p) at e) λ c h k.
        let (m, j) = f c.0 c.1 h in
        let (u, v) = fields k in
        (rw (← u) (all_cons (isnt b) x c.0 (ap not p) m), rw (← u, ← v) (ap (λ (z : Bytes). x ∷ z) j))

pub cut-exact : (b : ℕ) (s l r : Bytes) → (cut b s ≡ some (l, r)) ↔ ((lacks b l ≡ true) × (s ≡ l ++ b ∷ r))
cut-exact b s l r = (cut_parts b s, λ h. rw h.1 (cut-joined b l r h.0))

pub behind-joined : (t r : Bytes) → behind t (t ++ r) ≡ some r
behind-joined [] r = refl
behind-joined (x ∷ t) r = rw (behind, eq-eqb x x refl, behind-joined t r)

pub behind-parts : (t s : Bytes) {r : Bytes} → behind t s ≡ some r → s ≡ t ++ r
behind-parts [] s e = cc
behind-parts (y ∷ t) [] e = none-is-some e
behind-parts (y ∷ t) (x ∷ s) {r} e = go (eqb x y) refl (behind-parts t s {r = r})
  where
    go : (b : Bool) → eqb x y ≡ b → (behind t s ≡ some r → s ≡ t ++ r) → x ∷ s ≡ y ∷ t ++ r
    go true p f = let q = eqb-true x y p in let z = f (rw (behind, p) at e) in cc
    go false p f = none-is-some (rw (behind, p) at e)

pub behind-exact : (t s r : Bytes) → (behind t s ≡ some r) ↔ (s ≡ t ++ r)
behind-exact t s r = (behind-parts t s, λ e. rw e (behind-joined t r))

-- a step that needs the parts of a cut
pub cut-bound : {B C : Type 0} (b : ℕ) (s : Bytes) {f : Bytes × Bytes → Option B} {y : B} → (cut b s >>= f) ≡ some y
    → ((c : Bytes × Bytes) → lacks b c.0 ≡ true → s ≡ c.0 ++ b ∷ c.1 → f c ≡ some y → C) → C
cut-bound b s e k = bound {o = cut b s} e λ c h q. let (p, j) = cut_parts b s h in k c p j q

-- bytes that pass a test hold none that fails it
pub passing-lacks : (p : ℕ → Bool) (b : ℕ) → p b ≡ false → (s : Bytes) → all_of p s ≡ true → lacks b s ≡ true
passing-lacks p b f = all-by p (isnt b) λ x h. go x h (eqb x b) refl
  where
    go : (x : ℕ) → p x ≡ true → (t : Bool) → eqb x b ≡ t → not t ≡ true
    go x h true e = false-is-true (sym f ∙ ap p (sym (eqb-true x b e)) ∙ h)
    go x h false e = refl

-- a line and its content: nothing stands behind the byte 10
pub content-exact : (s l : Bytes) → (content s ≡ some l) ↔ ((lacks newline l ≡ true) × (s ≡ l ++ newline ∷ []))
content-exact s l = (sound, λ h. rw (h.1, cut-joined newline l [] h.0))
  where
    sound : content s ≡ some l → (lacks newline l ≡ true) × (s ≡ l ++ newline ∷ [])
    sound e = cut-bound newline s e λ c p j q.
        let (d, z) = condition {t = is_empty c.1} {a = c.0} q in
        (rw z at p, j ∙ rw (empty c.1 d, z))
