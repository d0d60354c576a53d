-- The code's answers where parts are joined, and where a parenthesis ends.
use Prim.Native.Nat.{ℕ, suc, ◌+◌, ◌*◌, ◌≤◌, ◌<◌}
use mathlib.Core.Path.{◌≡◌, refl, sym, ap, subst, ◌∙◌}
use mathlib.Core.Bool.{Bool}
use mathlib.Core.List.{List}
use mathlib.Core.Option.{Option, none, some}
use native.Mathlib.Omega.{arith}
use Rattle.std.specs.Prelude as std
use Rattle.std.specs.Prelude.{Some, None}
use lib.ListN.{length, get_or}
use Rattle.model.specs.Notation.{◌>>=◌}
use Rattle.model.specs.Bytes.{Bytes}
use Rattle.model.specs.Tokens as model
use Rattle.model.specs.Tokens.{Mark}
use Rattle.model.specs.Grammar as grammar
use Rattle.model.specs.Grammar.{Policy, and, or, parenthesised, behind_mark, joined_by, policy_within, conjunction_within, term_within}
use Rattle.model.proofs.Results.{Whenever}
use Rattle.model.proofs.Complete.{above}
use Rattle.codes.specs.Codes.{mark_code}
use Rattle.codes.proofs.TokenKinds.{mark-range}
use Rattle.policy.specs.Starts.{negated_if, closed_by}
use Rattle.policy.specs.Readers.{Asked, From, Answers, Ahead, Reader, Closes}
use Rattle.policy.proofs.Shorter.{Fewer, term-within, conjunction-within}
use Rattle.policy.proofs.CodeFronts.{inside, mark_on, mark-off, behind-mark}

-- a mark at the front, and the tokens behind it
front-mark : (m : Mark) (code : Bytes) (A : Asked) (at : ℕ) (ts : List model.Token) → From code A at ts → get_or code at 0 ≡ mark_code m
    → (rest : List model.Token) × (behind_mark m ts ≡ some rest) × From code A (at + 1) rest × (length rest < length ts)
front-mark m code A at ts f e =
    let y = mark_on m code A at ts f e in
    (y.rest, ap (behind_mark m) y.split ∙ behind-mark m y.rest, y.behind, omega (arith, ap length y.split))

-- ---- parts that are joined

-- what is read before the mark that may join, and the mark
module _ (code : Bytes) (A : Asked) (m : Mark) (join : Policy → Policy → Policy) (more : List model.Token → grammar.Reading) where
  abbrev joined_to : Policy → grammar.Reading → grammar.Reading
  joined_to p o = o >>= λ (q, rest). some (join p q, rest)

  abbrev gone : Policy → List model.Token → Option (List model.Token) → grammar.Reading
  gone p ts w = elim w [ some rest ↦ joined_to p (more rest) | none ↦ some (p, ts) ]

  join-none : (o : grammar.Reading) → Answers code A None o → Answers code A None (o >>= joined_by m join more)
  join-none none a = tt
  join-none (some y) a = absurd a

  join-stop : (n : ℕ) (o : grammar.Reading) → Answers code A (Some n) o → ((rest : List model.Token) → From code A n rest → behind_mark m rest ≡ none)
      → Answers code A (Some n) (o >>= joined_by m join more)
  join-stop n none a f = absurd a
  join-stop n (some (p, rest)) a f = subst (λ w. Answers code A (Some n) (gone p rest w)) (sym (f rest a)) a

  join_more : (k n : ℕ) (o : grammar.Reading) (r : std.Option ℕ) → Answers code A (Some n) o → Whenever (λ y. length y.1 < k) o
      → ((rest : List model.Token) → length rest < k → From code A n rest → (left : List model.Token) × (behind_mark m rest ≡ some left) × Answers code A r (more left))
      → Answers code A r (o >>= joined_by m join more)
  join_more k n none r a l f = absurd a
  join_more k n (some (p, rest)) r a l f =
      let (left, e, b) = f rest l a in
      subst (λ w. Answers code A r (gone p rest w)) (sym e) (go r (more left) b)
    where
      go : (r : std.Option ℕ) (o : grammar.Reading) → Answers code A r o → Answers code A r (joined_to p o)
      go (Some k) none b = absurd b
      go (Some k) (some y) b = b
      go None none b = tt
      go None (some y) b = absurd b

-- A level of joins: G is parts of F joined by the mark m. The conjunctions over terms, and the policies over conjunctions, are two such levels
pub record Level (F G : ℕ → List model.Token → grammar.Reading) (m : Mark) (join : Policy → Policy → Policy) : Type 0 where
  pub step : (n : ℕ) (ts : List model.Token) → G (suc n) ts ≡ (F n ts >>= joined_by m join (λ rest. G n rest))
  pub fewer : (n : ℕ) (ts : List model.Token) → Whenever (Fewer ts) (F n ts)

pub conjunctions : Level (λ n ts. term_within n ts) (λ n ts. conjunction_within n ts) Mark.AND and
unfolding policy_within
conjunctions = record { step = λ n ts. refl; fewer = λ n ts. term-within n ts }

pub policies : Level (λ n ts. conjunction_within n ts) (λ n ts. policy_within n ts) Mark.OR or
unfolding policy_within
policies = record { step = λ n ts. refl; fewer = λ n ts. conjunction-within n ts }

module _ (code : Bytes) (d : ℕ) {F G : ℕ → List model.Token → grammar.Reading} {m : Mark} {join : Policy → Policy → Policy} (J : Level F G m join) (at : ℕ) where
  step-to : (A : Asked) (q : std.Option ℕ) (ts : List model.Token)
      → ((n : ℕ) → 3 * length ts + d ≤ n → Answers code A q (F n ts >>= joined_by m join (λ rest. G n rest)))
      → (n : ℕ) → 3 * length ts + suc d ≤ n → Answers code A q (G n ts)
  step-to A q ts f n l =
      above (λ (g : ℕ). Answers code A q (G g ts)) (3 * length ts + d) n (omega arith)
      (λ k h. subst (Answers code A q) (sym (J.step k ts)) (f k h))

  pub level-none : Reader F d code at None → Reader G (suc d) code at None
  level-none R = record {
    ahead = tt;
    answers = λ A ts f. step-to A None ts λ n l. join-none code A m join (λ rest. G n rest) (F n ts) (R.answers A ts f n l);
  }

  module _ (x k : ℕ) (R : Reader F d code at (Some x)) (h : k ≡ get_or code x 0) where
    pub level-stop : (k ≡ mark_code m → ⊥) → Reader G (suc d) code at (Some x)
    level-stop z = record {
      ahead = R.ahead;
      answers = λ A ts f. step-to A (Some x) ts λ n l.
          join-stop code A m join (λ rest. G n rest) x (F n ts) (R.answers A ts f n l) λ rest g. mark-off m code A x rest g (λ y. z (h ∙ y));
    }

    -- a part that the mark follows, and where the next one begins
    pub level-falls : k ≡ mark_code m → (at ≤ x) × (x < length code)
    level-falls z = (R.ahead, inside code x (omega (arith, z, h, mark-range m)))

    pub level-more : (u : std.Option ℕ) → k ≡ mark_code m → Reader G (suc d) code (x + 1) u → Reader G (suc d) code at u
    level-more u z U =
        record {
          ahead = later u U.ahead;
          answers = λ A ts f. step-to A u ts λ n l.
              join_more code A m join (λ rest. G n rest) (length ts) x (F n ts) u (R.answers A ts f n l) (J.fewer n ts)
              (λ rest less g. let (left, is, b, fewer) = front-mark m code A x rest g (sym h ∙ z) in (left, is, U.answers A left b n (omega arith)));
        }
      where
        later : (u : std.Option ℕ) → Ahead (x + 1) u → Ahead at u
        later (Some y) a = let w = level-falls z in omega (arith, w.0)
        later None a = tt

-- ---- the end of a parenthesis

module _ (code : Bytes) (x k : ℕ) (h : k ≡ get_or code x 0) where
  abbrev ended : Bool → Policy → Option (List model.Token) → grammar.Reading
  ended b p w = (w >>= λ rest. some (parenthesised p, rest)) >>= λ (p, rest). some (negated_if b p, rest)

  pub close-off : (k ≡ 6 → ⊥) → Closes code x None
  close-off n = record { ahead = tt; answers = λ b A o a. go b A o a }
    where
      go : (b : Bool) (A : Asked) (o : grammar.Reading) → Answers code A (Some x) o → Answers code A None (closed_by b o)
      go b A none a = tt
      go b A (some (p, ts)) a = subst (λ w. Answers code A None (ended b p w)) (sym (mark-off Mark.rparen code A x ts a (λ z. n (h ∙ z)))) tt

  pub close-on : k ≡ 6 → Closes code x (Some (x + 1))
  close-on z = record { ahead = omega arith; answers = λ b A o a. go b A o a }
    where
      go : (b : Bool) (A : Asked) (o : grammar.Reading) → Answers code A (Some x) o → Answers code A (Some (x + 1)) (closed_by b o)
      go b A none a = absurd a
      go b A (some (p, ts)) a =
          let (rest, is, behind, l) = front-mark Mark.rparen code A x ts a (sym h ∙ z) in
          subst (λ w. Answers code A (Some (x + 1)) (ended b p w)) (sym is) behind
