-- A str is its text between two quotes.
use Prim.Native.Nat.{ℕ, suc, ◌-◌, ◌≤◌, ◌<◌}
use mathlib.Core.Path.{◌≡◌, refl, sym, ap, ◌∙◌}
use mathlib.Core.Bool.{Bool, true, false}
use mathlib.Core.List.{[], ◌∷◌, ◌++◌}
use native.Mathlib.Omega.{arith}
use lib.ListN.{length, get_or, take, length-append}
use lib.Seq.{take-suc, take_all, take_at, get_or_at}
use Rattle.model.specs.Bytes.{Bytes}
use Rattle.model.specs.Atoms.{is_text, quoted, read_str}
use Rattle.model.proofs.WordTables.{false-is-true}
use Rattle.model.proofs.Options.{no_result}
use Rattle.model.proofs.Atoms.{str-exact}
use Rattle.text.specs.Parts.{inside, Quoted}

-- what a quoted text shows
length-quoted : (t : Bytes) → length (quoted t) ≡ suc (suc (length t))
length-quoted t = rw (length-append t (34 ∷ [])) (omega arith)

module _ (t : Bytes) where
  inside-quoted : inside (quoted t) ≡ t
  inside-quoted = let n : length (quoted t) - 1 - 1 ≡ length t = omega (arith, length-quoted t) in rw n (take_at t (34 ∷ []) (length t) refl)

  last-quoted : get_or (quoted t) (length (quoted t) - 1) 0 ≡ 34
  last-quoted = let n : length (quoted t) - 1 ≡ suc (length t) = omega (arith, length-quoted t) in rw n (get_or_at t 34 [] 0 (length t) refl)

-- bytes between two quotes
pub quoted-inside : (s : Bytes) → 2 ≤ length s → get_or s 0 0 ≡ 34 → get_or s (length s - 1) 0 ≡ 34 → s ≡ quoted (inside s)
quoted-inside [] h e f = absurd (omega arith)
quoted-inside (x ∷ s) h e f = rw e (ap (λ (l : Bytes). 34 ∷ l) (body (length s - 1) (omega arith)))
  where
    body : (n : ℕ) → length s ≡ suc n → s ≡ take (suc (length s) - 1 - 1) s ++ 34 ∷ []
    body n m =
        let a : suc (length s) - 1 - 1 ≡ n = omega arith in
        let b : suc (length s) - 1 ≡ suc n = omega arith in
        let g : get_or s n 0 ≡ 34 = rw b at f in
        rw a (sym (take_all (suc n) s (omega arith)) ∙ take-suc s n 0 (omega arith) ∙ ap (λ (y : ℕ). take n s ++ y ∷ []) g)

-- how each way of reading ends
module _ (s : Bytes) where
  refused : ((t : Bytes) → is_text t ≡ true → s ≡ quoted t → ⊥) → Quoted s false
  refused f =
      record {
        long = λ e. false-is-true e;
        text = λ e. false-is-true e;
        other = λ _. no_result (read_str s) λ t e. let (p, q) = (str-exact s t).0 e in f t p q;
      }

  pub too_short : length s < 2 → Quoted s false
  too_short h = refused λ t p q. omega (arith, ap length q, length-quoted t)

  pub no_first : (get_or s 0 0 ≡ 34 → ⊥) → Quoted s false
  no_first n = refused λ t p q. n (ap (λ (l : Bytes). get_or l 0 0) q)

  pub no_last : (get_or s (length s - 1) 0 ≡ 34 → ⊥) → Quoted s false
  no_last n = refused λ t p q. n (ap (λ (l : Bytes). get_or l (length l - 1) 0) q ∙ last-quoted t)

  pub between : 2 ≤ length s → get_or s 0 0 ≡ 34 → get_or s (length s - 1) 0 ≡ 34 → (r : Bool) → r ≡ is_text (inside s) → Quoted s r
  between h e f true k =
      record {
        long = λ _. h;
        text = λ _. (str-exact s (inside s)).1 (sym k, quoted-inside s h e f);
        other = λ x. false-is-true (sym x);
      }
  between h e f false k = refused λ t p q. false-is-true (k ∙ ap (λ (l : Bytes). is_text (inside l)) q ∙ ap is_text (inside-quoted t) ∙ p)
