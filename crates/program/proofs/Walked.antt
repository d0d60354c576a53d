-- The walk over a policy's tokens comes to the verdict on the policy.
use Prim.Native.Nat.{ℕ, ◌+◌, ◌≤◌}
use mathlib.Core.Path.{◌≡◌, refl, sym, ap, ap₂, subst, ◌∙◌}
use mathlib.Core.Bool.{Bool, true, false}
use mathlib.Core.List.{List, [], ◌∷◌, ◌++◌, append-nil, append_assoc}
use mathlib.Core.Option.{none}
use native.Mathlib.Omega.{arith}
use lib.ListN.{length}
use Rattle.model.specs.Limits.{depth_limit}
use Rattle.model.specs.Truth.{Truth, FALSE, UNDEF, TRUE, ◌AND◌, ◌OR◌}
use Rattle.model.specs.Tokens.{Token, Mark}
use Rattle.model.specs.Grammar.{Policy, constant, lone, compare, Part, simple, term, conjunction, policy, Obeys, a-truth, a-lone, in-parentheses, plain, negation, comparison, one-term, joined-by-and, one-conjunction, joined-by-or, read_operator, read_comparison, terms, depth}
use Rattle.model.specs.Meaning.{Values}
use Rattle.model.specs.Causes.{built}
use Rattle.model.proofs.WordTables.{false-is-true}
use Rattle.model.proofs.Complete.{reads-comparison}
use Rattle.model.proofs.Nesting.{AND-associates, OR-associates}
use Rattle.model.proofs.Causes.{OnlyUndef, AND-causes, OR-causes, absent-undef, built-undef, true-not, false-not}
use Rattle.truth.specs.Verdicts.{Verdict, verdict, policy_verdict, both, either, signed}
use Rattle.program.specs.Walks.{Level, level, no_conjunction, no_term, fresh, Walk, walk, passed, is_passed, read_leaf, Ends}
use Rattle.program.specs.Walks as walks

sum : (a b n : ℕ) → a + (b + n) ≡ a + b + n
sum a b n = omega arith

right : (a : ℕ) → a + 0 ≡ a
right a = omega arith

-- ---- verdicts whose cause is one of UNDEF alone

abbrev Sound : Verdict → Type 0
Sound v = OnlyUndef v.value v.absent

both-sound : (v w : Verdict) → Sound (both v w)
both-sound v w = built-undef (v.value AND w.value) v.absent w.absent

either-sound : (v w : Verdict) → Sound (either v w)
either-sound v w = built-undef (v.value OR w.value) v.absent w.absent

both-associates : (u v w : Verdict) → Sound u → Sound v → Sound w → both (both u v) w ≡ both u (both v w)
both-associates u v w f g h =
    ap₂ verdict (AND-associates u.value v.value w.value) (AND-causes u.absent v.absent w.absent u.value v.value w.value f g h)

either-associates : (u v w : Verdict) → Sound u → Sound v → Sound w → either (either u v) w ≡ either u (either v w)
either-associates u v w f g h =
    ap₂ verdict (OR-associates u.value v.value w.value) (OR-causes u.absent v.absent w.absent u.value v.value w.value f g h)

-- what stands alone
cause-alone : (t : Truth) (a : Bool) → OnlyUndef t a → built t false a ≡ a
cause-alone FALSE a f = sym (false-not a f)
cause-alone UNDEF a f = refl
cause-alone TRUE a f = sym (true-not a f)

both-alone : (v : Verdict) → Sound v → both no_term v ≡ v
both-alone v f = ap (verdict v.value) (cause-alone v.value v.absent f)

either-alone : (v : Verdict) → Sound v → either no_conjunction v ≡ v
either-alone v f = ap (verdict v.value) (cause-alone v.value v.absent f)

none-sound : (t : Truth) → OnlyUndef t false
none-sound t e = false-is-true e

module _ (read : Values) where
  abbrev on : Policy → Verdict
  on = policy_verdict read

  sound : (p : Policy) → Sound (on p)
  sound p = absent-undef read p

  -- a part of a policy is walked over: a simple part and what is made of such by NOT and AND is one term more, and a policy that begins comes to what it is
  -- joined with by OR
  abbrev Walked : Part → List Token → Policy → Type 0
  Walked simple ts p =
      (e b : Verdict) (s : Bool) (ls : List Level) (rest : List Token) (n : ℕ) (t : Verdict) → read_operator rest ≡ none → length ls + depth p ≤ depth_limit
      → Ends read (walk (level e (both b (signed s (on p))) false) ls) rest n t → Ends read (walk (level e b s) ls) (ts ++ rest) (terms p + n) t
  Walked term ts p =
      (e b : Verdict) (ls : List Level) (rest : List Token) (n : ℕ) (t : Verdict) → read_operator rest ≡ none → length ls + depth p ≤ depth_limit
      → Ends read (walk (level e (both b (on p)) false) ls) rest n t → Ends read (walk (level e b false) ls) (ts ++ rest) (terms p + n) t
  Walked conjunction ts p =
      (e b : Verdict) (ls : List Level) (rest : List Token) (n : ℕ) (t : Verdict) → Sound b → read_operator rest ≡ none → length ls + depth p ≤ depth_limit
      → Ends read (walk (level e (both b (on p)) false) ls) rest n t → Ends read (walk (level e b false) ls) (ts ++ rest) (terms p + n) t
  Walked policy ts p =
      (e : Verdict) (ls : List Level) (rest : List Token) (n : ℕ) (t : Verdict) → Sound e → read_operator rest ≡ none → length ls + depth p ≤ depth_limit
      → ((f b : Verdict) → either f b ≡ either e (on p) → Ends read (walk (level f b false) ls) rest n t)
      → Ends read (walk (level e no_term false) ls) (ts ++ rest) (terms p + n) t

  walked : {part : Part} {ts : List Token} {p : Policy} → Obeys part ts p → Walked part ts p
  unfolding passed is_passed read_leaf read_comparison
  walked (a-truth v) = λ e b s ls rest n t c d k. walks.term (constant v, rest) refl k
  walked (a-lone a m) = λ e b s ls rest n t c d k. walks.term {ts = Token.name a m ∷ rest} (lone a m, rest) (rw c refl) k
  walked (in-parentheses {ts} {p} o) = λ e b s ls rest n t c d k.
      rw (append_assoc ts (Token.mark Mark.rparen ∷ []) rest)
      (walks.past {w = walk (level e b s) ls} {m = Mark.lparen} refl (omega arith)
      (walked o no_conjunction (level e b s ∷ ls) (Token.mark Mark.rparen ∷ rest) n t (none-sound FALSE) refl (omega arith) λ f g q.
      walks.past {w = walk (level f g false) (level e b s ∷ ls)} {m = Mark.rparen} refl (omega arith)
      (subst (λ (v : Verdict). Ends read (walk (level e (both b (signed s v)) false) ls) rest n t) (sym (q ∙ either-alone (on p) (sound p))) k)))
  walked (plain o) = λ e b ls rest n t c d k. walked o e b false ls rest n t c d k
  walked (negation o) = λ e b ls rest n t c d k. walks.past {w = walk (level e b false) ls} {m = Mark.NOT} refl (omega arith) (walked o e b true ls rest n t c d k)
  walked (comparison {ts} {us} {v} {w} o x y) = λ e b ls rest n t c d k. walks.term {ts = (ts ++ Token.operator o ∷ us) ++ rest} (compare o v w, rest) (rw (reads-comparison o x y rest) refl) k
  walked (one-term o) = λ e b ls rest n t sb c d k. walked o e b ls rest n t c d k
  walked (joined-by-and {ts} {us} {p} {q} o r) = λ e b ls rest n t sb c d k.
      rw (append_assoc ts (Token.mark Mark.AND ∷ us) rest)
      (subst (λ (m : ℕ). Ends read (walk (level e b false) ls) (ts ++ (Token.mark Mark.AND ∷ (us ++ rest))) m t) (sum (terms p) (terms q) n)
      (walked o e b ls (Token.mark Mark.AND ∷ (us ++ rest)) (terms q + n) t refl (omega arith)
      (walks.past {w = walk (level e (both b (on p)) false) ls} {m = Mark.AND} refl (omega arith)
      (walked r e (both b (on p)) ls rest n t (both-sound b (on p)) c (omega arith)
      (subst (λ (v : Verdict). Ends read (walk (level e v false) ls) rest n t) (sym (both-associates b (on p) (on q) sb (sound p) (sound q))) k)))))
  walked (one-conjunction {ts} {p} o) = λ e ls rest n t se c d k.
      walked o e no_term ls rest n t (none-sound TRUE) c d (k e (both no_term (on p)) (ap (either e) (both-alone (on p) (sound p))))
  walked (joined-by-or {ts} {us} {p} {q} o r) = λ e ls rest n t se c d k.
      rw (append_assoc ts (Token.mark Mark.OR ∷ us) rest)
      (subst (λ (m : ℕ). Ends read (walk (level e no_term false) ls) (ts ++ (Token.mark Mark.OR ∷ (us ++ rest))) m t) (sum (terms p) (terms q) n)
      (walked o e no_term ls (Token.mark Mark.OR ∷ (us ++ rest)) (terms q + n) t (none-sound TRUE) refl (omega arith)
      (subst (λ (v : Verdict). Ends read (walk (level e v false) ls) (Token.mark Mark.OR ∷ (us ++ rest)) (terms q + n) t) (sym (both-alone (on p) (sound p)))
      (walks.past {w = walk (level e (on p) false) ls} {m = Mark.OR} refl (omega arith)
      (walked r (either e (on p)) ls rest n t (either-sound e (on p)) c (omega arith) λ f b g. k f b (g ∙ either-associates e (on p) (on q) se (sound p) (sound q)))))))

  -- a whole policy that is no deeper than is allowed
  pub walks-over : {ts : List Token} {p : Policy} → Obeys policy ts p → depth p ≤ depth_limit → Ends read (walk fresh []) ts (terms p) (on p)
  walks-over {ts} {p} o d =
      rw append-nil at (subst (λ (m : ℕ). Ends read (walk fresh []) (ts ++ []) m (on p)) (right (terms p))
      (walked o no_conjunction [] [] 0 (on p) (none-sound FALSE) refl (omega arith) λ f b e.
      subst (Ends read (walk (level f b false) []) [] 0) (e ∙ either-alone (on p) (sound p)) walks.done))
