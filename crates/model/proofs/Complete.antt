-- What obeys the grammar is read.
use Prim.Native.Nat.{ℕ, zero, suc, ◌+◌, ◌*◌, ◌≤◌}
use mathlib.Core.Path.{◌≡◌, refl, ap, ◌∙◌}
use mathlib.Core.List.{List, [], ◌∷◌, ◌++◌, append-nil, append_assoc}
use mathlib.Core.Option.{none, some}
use native.Mathlib.Omega.{arith}
use native.Mathlib.Nat.{not-suc-le-zero, le_of_suc-le-suc}
use lib.ListN.{length, length-append}
use Rattle.model.specs.Notation.{◌>>=◌, ◌or_else◌}
use Rattle.model.specs.Atoms.{Atom}
use Rattle.model.specs.Tokens.{Token, Operator, Mark, mark_word, as_constant}
use Rattle.model.specs.Grammar.{Var, constants, Policy, compare, not, and, or, parenthesised}
use Rattle.model.specs.Grammar.{Items, last, next, IsVar, a-constant, a-set, an-attribute}
use Rattle.model.specs.Grammar.{Part, simple, term, conjunction, policy, Obeys, a-truth, a-lone, in-parentheses, plain, negation, comparison, one-term, joined-by-and, one-conjunction, joined-by-or}
use Rattle.model.specs.Grammar.{behind_mark, read_operator, read_items, read_set, read_var, Reading, read_comparison, read_simple, read_term, joined_by, policy_within, conjunction_within, term_within, read_policy}
use Rattle.model.proofs.WordTables.{none-is-some, same_refl}

-- a set's constants, up to its last brace
reads-items : {us : List Token} {l : List Atom} → Items us l → (rest : List Token) → read_items (us ++ Token.mark Mark.rbrace ∷ rest) ≡ some (l, rest)
reads-items (last {t} {a} e) rest = rw e refl
reads-items (next {t} {a} {ts} {l} e i) rest = rw (e, reads-items i rest) refl

-- a constant, a set or an attribute is read as a var, and is no NOT
record VarRead (us : List Token) (v : Var) (rest : List Token) : Type 0 where
  no-not : behind_mark Mark.NOT (us ++ rest) ≡ none
  read : read_var (us ++ rest) ≡ some (v, rest)

reads-constant : (t : Token) (a : Atom) → as_constant t ≡ some a → (rest : List Token) → VarRead (t ∷ []) (constants (a ∷ [])) rest
reads-constant (Token.name s n) a e rest = none-is-some e
reads-constant (Token.int n) a e rest = record { no-not = refl; read = cc }
reads-constant (Token.str s) a e rest = record { no-not = refl; read = cc }
reads-constant (Token.truth t) a e rest = none-is-some e
reads-constant (Token.operator o) a e rest = none-is-some e
reads-constant (Token.mark m) a e rest = none-is-some e

reads-var : {us : List Token} {v : Var} → IsVar us v → (rest : List Token) → VarRead us v rest
unfolding read_set
reads-var (a-constant {t} {a} e) rest = reads-constant t a e rest
reads-var (a-set {ts} {l} i e) rest = record {
  no-not = refl;
  read = rw (append_assoc ts (Token.mark Mark.rbrace ∷ []) rest, reads-items i rest, e) refl;
}
reads-var (an-attribute s n) rest = record { no-not = refl; read = refl }

-- a comparison is read
pub reads-comparison : {ts us : List Token} {v w : Var} (o : Operator) → IsVar ts v → IsVar us w → (rest : List Token)
    → read_comparison ((ts ++ Token.operator o ∷ us) ++ rest) ≡ some (compare o v w, rest)
unfolding read_comparison
reads-comparison {ts} {us} o v w rest =
    rw (append_assoc ts (Token.operator o ∷ us) rest, (reads-var v (Token.operator o ∷ (us ++ rest))).read, (reads-var w rest).read) refl

-- what may follow a part: no operator, and no mark by which it would go on
abbrev Closes : Part → List Token → Type 0
Closes simple rest = read_operator rest ≡ none
Closes term rest = read_operator rest ≡ none
Closes conjunction rest = (read_operator rest ≡ none) × (behind_mark Mark.AND rest ≡ none)
Closes policy rest = (read_operator rest ≡ none) × (behind_mark Mark.AND rest ≡ none) × (behind_mark Mark.OR rest ≡ none)

-- what NOT may stand before is neither a NOT nor a comparison
record SimpleRead (us : List Token) (p : Policy) (rest : List Token) : Type 0 where
  no-not : behind_mark Mark.NOT (us ++ rest) ≡ none
  no-comparison : read_comparison (us ++ rest) ≡ none
  read : (n : ℕ) → 3 * length us ≤ n → read_simple (λ ts. policy_within n ts) (us ++ rest) ≡ some (p, rest)

-- a part is read within a bound, and what stands behind it is left
abbrev IsRead : Part → List Token → Policy → List Token → Type 0
IsRead simple us p rest = SimpleRead us p rest
IsRead term us p rest = (n : ℕ) → 3 * length us + 1 ≤ n → term_within n (us ++ rest) ≡ some (p, rest)
IsRead conjunction us p rest = (n : ℕ) → 3 * length us + 2 ≤ n → conjunction_within n (us ++ rest) ≡ some (p, rest)
IsRead policy us p rest = (n : ℕ) → 3 * length us + 3 ≤ n → policy_within n (us ++ rest) ≡ some (p, rest)

-- a bound is at least one more than another
pub above : (P : ℕ → Type 0) (m n : ℕ) → suc m ≤ n → ((k : ℕ) → m ≤ k → P (suc k)) → P n
above P m zero h f = absurd (not-suc-le-zero h)
above P m (suc k) h f = f k (le_of_suc-le-suc h)

-- a term, by what read_term gives
term-read : (us rest : List Token) (p : Policy)
    → ((n : ℕ) → 3 * length us ≤ n → read_term (λ ts. policy_within n ts) (us ++ rest) ≡ some (p, rest)) → IsRead term us p rest
unfolding policy_within
term-read us rest p f n h = above (λ k. term_within k (us ++ rest) ≡ some (p, rest)) (3 * length us) n (omega arith) f

-- parts joined by a mark: G reads what F reads, and goes on behind the mark
record GrammarLevel (F G : ℕ → List Token → Reading) (m : Mark) (join : Policy → Policy → Policy) : Type 0 where
  step : (n : ℕ) (ts : List Token) → G (suc n) ts ≡ (F n ts >>= joined_by m join (λ rest. G n rest))

and-level : GrammarLevel (λ n ts. term_within n ts) (λ n ts. conjunction_within n ts) Mark.AND and
unfolding policy_within
and-level = record { step = λ n ts. refl }

or-level : GrammarLevel (λ n ts. conjunction_within n ts) (λ n ts. policy_within n ts) Mark.OR or
unfolding policy_within
or-level = record { step = λ n ts. refl }

-- a part alone, and one that the mark and more follow
module _ {F G : ℕ → List Token → Reading} {m : Mark} {join : Policy → Policy → Policy} (L : GrammarLevel F G m join) (us rest : List Token) (p : Policy) (b : ℕ) where
  alone : ((n : ℕ) → 3 * length us + b ≤ n → F n (us ++ rest) ≡ some (p, rest)) → behind_mark m rest ≡ none
      → (n : ℕ) → 3 * length us + (b + 1) ≤ n → G n (us ++ rest) ≡ some (p, rest)
  alone f e n h =
      above (λ k. G k (us ++ rest) ≡ some (p, rest)) (3 * length us + b) n (omega arith)
      λ k l. L.step k (us ++ rest) ∙ ap (λ r. r >>= joined_by m join (λ ts. G k ts)) (f k l) ∙ rw (e, joined_by) refl

  followed : (vs : List Token) (q : Policy) → ((n : ℕ) → 3 * length us + b ≤ n → F n (us ++ (Token.mark m ∷ (vs ++ rest))) ≡ some (p, Token.mark m ∷ (vs ++ rest)))
      → ((n : ℕ) → 3 * length vs + (b + 1) ≤ n → G n (vs ++ rest) ≡ some (q, rest))
      → (n : ℕ) → 3 * length (us ++ Token.mark m ∷ vs) + (b + 1) ≤ n → G n ((us ++ Token.mark m ∷ vs) ++ rest) ≡ some (join p q, rest)
  followed vs q f g n h =
      let s = length-append us (Token.mark m ∷ vs) in
      above (λ k. G k ((us ++ Token.mark m ∷ vs) ++ rest) ≡ some (join p q, rest)) (3 * length us + 3 * length vs + b + 3) n (omega (arith, s))
      λ k l. L.step k ((us ++ Token.mark m ∷ vs) ++ rest) ∙ rw (append_assoc us (Token.mark m ∷ vs) rest, f k (omega arith)) (rw (same_refl (mark_word m), joined_by) (rw (g k (omega arith)) refl))

-- the kinds of terms
parenthesised-read : (us rest : List Token) (p : Policy) → IsRead policy us p (Token.mark Mark.rparen ∷ rest)
    → SimpleRead (Token.mark Mark.lparen ∷ us ++ Token.mark Mark.rparen ∷ []) (parenthesised p) rest
unfolding read_comparison
parenthesised-read us rest p r = record {
  no-not = refl;
  no-comparison = refl;
  read = λ n h. rw (append_assoc us (Token.mark Mark.rparen ∷ []) rest, r n (omega (arith, length-append us (Token.mark Mark.rparen ∷ [])))) refl;
}

unnegated : (inner : List Token → Reading) (ts : List Token) → behind_mark Mark.NOT ts ≡ none
    → read_term inner ts ≡ (read_comparison ts or_else read_simple inner ts)
unfolding read_term
unnegated inner ts e = rw (e, read_term) refl

plain-read : (us rest : List Token) (p : Policy) → SimpleRead us p rest → IsRead term us p rest
plain-read us rest p s = term-read us rest p λ n h. rw (unnegated (λ ts. policy_within n ts) (us ++ rest) s.no-not, s.no-comparison) (s.read n h)

negation-read : (us rest : List Token) (p : Policy) → SimpleRead us p rest → IsRead term (Token.mark Mark.NOT ∷ us) (not p) rest
unfolding read_term
negation-read us rest p s = term-read (Token.mark Mark.NOT ∷ us) rest (not p) λ n h. rw (s.read n (omega arith)) refl

comparison-read : {ts us : List Token} {v w : Var} (o : Operator) → IsVar ts v → IsVar us w → (rest : List Token)
    → IsRead term (ts ++ Token.operator o ∷ us) (compare o v w) rest
comparison-read {ts} {us} {v} {w} o a b rest =
    let e : behind_mark Mark.NOT ((ts ++ Token.operator o ∷ us) ++ rest) ≡ none =
    rw (append_assoc ts (Token.operator o ∷ us) rest) (reads-var a (Token.operator o ∷ (us ++ rest))).no-not in
    term-read (ts ++ Token.operator o ∷ us) rest (compare o v w) λ n h.
    rw (unnegated (λ l. policy_within n l) ((ts ++ Token.operator o ∷ us) ++ rest) e, reads-comparison o a b rest) refl

-- every part is read, by induction on how it obeys the grammar
reads : {part : Part} {us : List Token} {p : Policy} → Obeys part us p → (rest : List Token) → Closes part rest → IsRead part us p rest
unfolding read_comparison
reads (a-truth t) rest c = record { no-not = refl; no-comparison = refl; read = λ n h. refl }
reads (a-lone s n) rest c = record { no-not = refl; no-comparison = rw c refl; read = λ n h. refl }
reads (in-parentheses {ts} {p} o) rest c = parenthesised-read ts rest p (reads o (Token.mark Mark.rparen ∷ rest) (refl, refl, refl))
reads (plain {ts} {p} o) rest c = plain-read ts rest p (reads o rest c)
reads (negation {ts} {p} o) rest c = negation-read ts rest p (reads o rest c)
reads (comparison o v w) rest c = comparison-read o v w rest
reads (one-term {ts} {p} o) rest c = alone and-level ts rest p 1 (reads o rest c.0) c.1
reads (joined-by-and {ts} {us} {p} {q} o r) rest c =
    followed and-level ts rest p 1 us q (reads o (Token.mark Mark.AND ∷ (us ++ rest)) refl) (reads r rest c)
reads (one-conjunction {ts} {p} o) rest c = alone or-level ts rest p 2 (reads o rest (c.0, c.1)) c.2
reads (joined-by-or {ts} {us} {p} {q} o r) rest c =
    followed or-level ts rest p 2 us q (reads o (Token.mark Mark.OR ∷ (us ++ rest)) (refl, refl)) (reads r rest c)

-- what is a policy is read, as that policy
pub complete : (ts : List Token) (p : Policy) → Obeys policy ts p → read_policy ts ≡ some p
unfolding read_policy
complete ts p o = rw (rw (append-nil ts) at (reads o [] (refl, refl, refl) (3 * length ts + 3) (omega arith))) refl
