-- What the readers of policies read obeys the grammar.
use Prim.Native.Nat.{ℕ, zero, suc, ◌+◌, ◌*◌}
use mathlib.Core.Path.{◌≡◌, refl, sym, ap, ap₂, subst, ◌∙◌}
use mathlib.Core.Bool.{true}
use mathlib.Core.List.{List, [], ◌∷◌, ◌++◌, append-nil, append_assoc}
use mathlib.Core.Option.{some}
use lib.ListN.{length}
use Rattle.model.specs.Notation.{◌>>=◌}
use Rattle.model.specs.Atoms.{Atom}
use Rattle.model.specs.Tokens.{Token, Mark, mark_word, as_constant}
use Rattle.model.specs.Grammar.{constants, Policy, and, or}
use Rattle.model.specs.Grammar.{one_type, Items, last, next, IsVar, a-constant, a-set, an-attribute}
use Rattle.model.specs.Grammar.{Part, simple, term, conjunction, policy, Obeys, a-truth, a-lone, in-parentheses, plain, negation, comparison, one-term, joined-by-and, one-conjunction, joined-by-or}
use Rattle.model.specs.Grammar.{is_mark, behind_mark, read_operator, read_items, read_set, read_var, Reading, read_comparison, read_simple, read_term, joined_by, policy_within, conjunction_within, term_within, wholly, read_policy}
use Rattle.model.proofs.Results.{Whenever, result, bind-so, case-so, map-so, only_so, else-so}
use Rattle.model.proofs.WordTables.{same_word, marks, reads-mark}

-- marks of one word are equal
is-mark : (m k : Mark) → is_mark m k ≡ true → m ≡ k
is-mark m k e = same_word mark_word marks reads-mark m k e

-- a mark at the front
mark-so : (m : Mark) (ts : List Token) → Whenever (λ rest. ts ≡ Token.mark m ∷ rest) (behind_mark m ts)
mark-so m [] = tt
mark-so m (Token.name s n ∷ ts) = tt
mark-so m (Token.int n ∷ ts) = tt
mark-so m (Token.str s ∷ ts) = tt
mark-so m (Token.truth t ∷ ts) = tt
mark-so m (Token.operator o ∷ ts) = tt
mark-so m (Token.mark k ∷ ts) =
    only_so (λ rest. Token.mark k ∷ ts ≡ Token.mark m ∷ rest) (is_mark m k) ts (λ e. ap (λ (j : Mark). Token.mark j ∷ ts) (sym (is-mark m k e)))

-- an operator at the front
operator-so : (ts : List Token) → Whenever (λ x. ts ≡ Token.operator x.0 ∷ x.1) (read_operator ts)
operator-so [] = tt
operator-so (Token.name s n ∷ ts) = tt
operator-so (Token.int n ∷ ts) = tt
operator-so (Token.str s ∷ ts) = tt
operator-so (Token.truth t ∷ ts) = tt
operator-so (Token.operator o ∷ ts) = refl
operator-so (Token.mark m ∷ ts) = tt

-- the tokens begin with some that are what was read, and those left follow
record ReadFront {A : Type 0} (Is : List Token → A → Type 0) (ts : List Token) (x : A × List Token) : Type 0 where
  used : List Token
  split : ts ≡ used ++ x.1
  is : Is used x.0

-- two parts with a token between them
around : (us vs left : List Token) {ts mid more : List Token} {t : Token} → ts ≡ us ++ mid → mid ≡ t ∷ more → more ≡ vs ++ left
    → ts ≡ (us ++ t ∷ vs) ++ left
around us vs left {t} e f g = e ∙ ap (λ l. us ++ l) (f ∙ ap (λ l. t ∷ l) g) ∙ sym (append_assoc us (t ∷ vs) left)

-- constants and the brace behind them
record Closing (ts : List Token) (l : List Atom) : Type 0 where
  items : List Token
  ends : ts ≡ items ++ Token.mark Mark.rbrace ∷ []
  are : Items items l

items-so : (ts : List Token) → Whenever (ReadFront Closing ts) (read_items ts)
items-so [] = tt
items-so (t ∷ []) = tt
items-so (t ∷ u ∷ ts) =
    let Q = ReadFront Closing (t ∷ u ∷ ts) in
    let more = items-so ts in
    bind-so (λ a. as_constant t ≡ some a) Q _ (as_constant t) (result (as_constant t)) λ a e.
    case-so (λ rest. u ∷ ts ≡ Token.mark Mark.rbrace ∷ rest) (Whenever Q) _ _ (behind_mark Mark.rbrace (u ∷ ts)) (mark-so Mark.rbrace (u ∷ ts))
    (λ rest f. record {
      used = t ∷ Token.mark Mark.rbrace ∷ [];
      split = ap (λ l. t ∷ l) f;
      is = record { items = t ∷ []; ends = refl; are = last e };
    })
    (bind-so (λ rest. u ∷ ts ≡ Token.mark Mark.comma ∷ rest) Q _ (behind_mark Mark.comma (u ∷ ts)) (mark-so Mark.comma (u ∷ ts)) λ rest f.
    bind-so (ReadFront Closing ts) Q _ (read_items ts) more λ x h.
    let s : u ≡ Token.mark Mark.comma = cc in
    record {
      used = t ∷ Token.mark Mark.comma ∷ h.used;
      split = ap₂ (λ v l. t ∷ v ∷ l) s h.split;
      is = record { items = t ∷ Token.mark Mark.comma ∷ h.is.items; ends = ap (λ l. t ∷ Token.mark Mark.comma ∷ l) h.is.ends; are = next e h.is.are };
    })

-- a set, behind its first brace
set_so : (ts : List Token) → Whenever (ReadFront (λ us v. IsVar (Token.mark Mark.lbrace ∷ us) v) ts) (read_set ts)
unfolding read_set
set_so ts =
    let Q = ReadFront (λ us v. IsVar (Token.mark Mark.lbrace ∷ us) v) ts in
    bind-so (ReadFront Closing ts) Q _ (read_items ts) (items-so ts) λ x h. only_so Q (one_type x.0) _ λ e.
    record {
      used = h.used;
      split = h.split;
      is = subst (λ us. IsVar (Token.mark Mark.lbrace ∷ us) (constants x.0)) (sym h.is.ends) (a-set h.is.are e);
    }

-- a var at the front
var-so : (ts : List Token) → Whenever (ReadFront IsVar ts) (read_var ts)
var-so [] = tt
var-so (Token.name s n ∷ ts) = record { used = Token.name s n ∷ []; split = refl; is = an-attribute s n }
var-so (Token.int n ∷ ts) = record { used = Token.int n ∷ []; split = refl; is = a-constant refl }
var-so (Token.str s ∷ ts) = record { used = Token.str s ∷ []; split = refl; is = a-constant refl }
var-so (Token.truth t ∷ ts) = tt
var-so (Token.operator o ∷ ts) = tt
var-so (Token.mark m ∷ ts) =
    let Q = ReadFront IsVar (Token.mark m ∷ ts) in
    bind-so (λ rest. Token.mark m ∷ ts ≡ Token.mark Mark.lbrace ∷ rest) Q _ (behind_mark Mark.lbrace (Token.mark m ∷ ts)) (mark-so Mark.lbrace (Token.mark m ∷ ts)) λ rest e.
    map-so (ReadFront (λ us v. IsVar (Token.mark Mark.lbrace ∷ us) v) rest) Q (read_set rest) (set_so rest) λ x h.
    record { used = Token.mark Mark.lbrace ∷ h.used; split = e ∙ ap (λ l. Token.mark Mark.lbrace ∷ l) h.split; is = h.is }

-- a comparison at the front
comparison-so : (ts : List Token) → Whenever (ReadFront (Obeys term) ts) (read_comparison ts)
unfolding read_comparison
comparison-so ts =
    let Q = ReadFront (Obeys term) ts in
    bind-so (ReadFront IsVar ts) Q _ (read_var ts) (var-so ts) λ x f.
    bind-so (λ y. x.1 ≡ Token.operator y.0 ∷ y.1) Q _ (read_operator x.1) (operator-so x.1) λ y g.
    bind-so (ReadFront IsVar y.1) Q _ (read_var y.1) (var-so y.1) λ z h.
    record {
      used = f.used ++ Token.operator y.0 ∷ h.used;
      split = around f.used h.used z.1 f.split g h.split;
      is = comparison y.0 f.is h.is;
    }

-- a term at the front, where `inner` reads only policies in parentheses
module _ (inner : List Token → Reading) (inner-so : (ts : List Token) → Whenever (ReadFront (Obeys policy) ts) (inner ts)) where
  simple-so : (ts : List Token) → Whenever (ReadFront (Obeys simple) ts) (read_simple inner ts)
  simple-so [] = tt
  simple-so (Token.name s n ∷ ts) = record { used = Token.name s n ∷ []; split = refl; is = a-lone s n }
  simple-so (Token.int n ∷ ts) = tt
  simple-so (Token.str s ∷ ts) = tt
  simple-so (Token.truth t ∷ ts) = record { used = Token.truth t ∷ []; split = refl; is = a-truth t }
  simple-so (Token.operator o ∷ ts) = tt
  simple-so (Token.mark m ∷ ts) =
      let Q = ReadFront (Obeys simple) (Token.mark m ∷ ts) in
      let opened : List Token → Type 0 = λ us. Token.mark m ∷ ts ≡ Token.mark Mark.lparen ∷ us in
      let R : Policy × List Token → Type 0 = λ x. (us : List Token) × opened us × ReadFront (Obeys policy) us x in
      bind-so R Q _ (behind_mark Mark.lparen (Token.mark m ∷ ts) >>= inner)
      (bind-so opened R _ (behind_mark Mark.lparen (Token.mark m ∷ ts)) (mark-so Mark.lparen (Token.mark m ∷ ts)) λ us e.
      map-so (ReadFront (Obeys policy) us) R (inner us) (inner-so us) λ x f. (us, e, f)) λ x r.
      bind-so (λ rest. x.1 ≡ Token.mark Mark.rparen ∷ rest) Q _ (behind_mark Mark.rparen x.1) (mark-so Mark.rparen x.1) λ rest g.
      record {
        used = Token.mark Mark.lparen ∷ r.2.used ++ Token.mark Mark.rparen ∷ [];
        split = around (Token.mark Mark.lparen ∷ r.2.used) [] rest (r.1 ∙ ap (λ l. Token.mark Mark.lparen ∷ l) r.2.split) g refl;
        is = in-parentheses r.2.is;
      }

  term-so : (ts : List Token) → Whenever (ReadFront (Obeys term) ts) (read_term inner ts)
  unfolding read_term
  term-so ts =
      let Q = ReadFront (Obeys term) ts in
      case-so (λ rest. ts ≡ Token.mark Mark.NOT ∷ rest) (Whenever Q) _ _ (behind_mark Mark.NOT ts) (mark-so Mark.NOT ts)
      (λ rest e. bind-so (ReadFront (Obeys simple) rest) Q _ (read_simple inner rest) (simple-so rest) λ x f.
      record { used = Token.mark Mark.NOT ∷ f.used; split = e ∙ ap (λ l. Token.mark Mark.NOT ∷ l) f.split; is = negation f.is })
      (else-so Q (read_comparison ts) (read_simple inner ts) (comparison-so ts)
      (map-so (ReadFront (Obeys simple) ts) Q (read_simple inner ts) (simple-so ts) λ x f. record { used = f.used; split = f.split; is = plain f.is }))

-- parts of one kind, alone or joined by a mark, make one of another
record JoinedBy (part whole : Part) (m : Mark) (join : Policy → Policy → Policy) : Type 0 where
  alone : {ts : List Token} {p : Policy} → Obeys part ts p → Obeys whole ts p
  joined : {ts us : List Token} {p q : Policy} → Obeys part ts p → Obeys whole us q → Obeys whole (ts ++ Token.mark m ∷ us) (join p q)

by_and : JoinedBy term conjunction Mark.AND and
by_and = record { alone = one-term; joined = joined-by-and }

by-or : JoinedBy conjunction policy Mark.OR or
by-or = record { alone = one-conjunction; joined = joined-by-or }

joined-so : {part whole : Part} {m : Mark} {join : Policy → Policy → Policy} → JoinedBy part whole m join → (first more : List Token → Reading)
    → ((ts : List Token) → Whenever (ReadFront (Obeys part) ts) (first ts)) → ((ts : List Token) → Whenever (ReadFront (Obeys whole) ts) (more ts))
    → (ts : List Token) → Whenever (ReadFront (Obeys whole) ts) (first ts >>= joined_by m join more)
joined-so {part} {whole} {m} {join} J first more first_so more-so ts =
    let Q = ReadFront (Obeys whole) ts in
    bind-so (ReadFront (Obeys part) ts) Q _ (first ts) (first_so ts) λ x f.
    case-so (λ rest. x.1 ≡ Token.mark m ∷ rest) (Whenever Q) _ _ (behind_mark m x.1) (mark-so m x.1)
    (λ rest g. bind-so (ReadFront (Obeys whole) rest) Q _ (more rest) (more-so rest) λ y h.
    record { used = f.used ++ Token.mark m ∷ h.used; split = around f.used h.used y.1 f.split g h.split; is = J.joined f.is h.is })
    (record { used = f.used; split = f.split; is = J.alone f.is })

-- the three readers that call one another, by induction on the bound
mutual
  unfolding policy_within

  policy-within : (n : ℕ) (ts : List Token) → Whenever (ReadFront (Obeys policy) ts) (policy_within n ts)
  policy-within zero ts = tt
  policy-within (suc n) ts =
      joined-so by-or (λ us. conjunction_within n us) (λ us. policy_within n us) (λ us. conjunction-within n us) (λ us. policy-within n us) ts

  conjunction-within : (n : ℕ) (ts : List Token) → Whenever (ReadFront (Obeys conjunction) ts) (conjunction_within n ts)
  conjunction-within zero ts = tt
  conjunction-within (suc n) ts =
      joined-so by_and (λ us. term_within n us) (λ us. conjunction_within n us) (λ us. term-within n us) (λ us. conjunction-within n us) ts

  term-within : (n : ℕ) (ts : List Token) → Whenever (ReadFront (Obeys term) ts) (term_within n ts)
  term-within zero ts = tt
  term-within (suc n) ts = term-so (λ us. policy_within n us) (λ us. policy-within n us) ts

wholly-so : (ts : List Token) (x : Policy × List Token) → ReadFront (Obeys policy) ts x → Whenever (Obeys policy ts) (wholly x)
wholly-so ts (p, []) f = subst (λ us. Obeys policy us p) (sym (f.split ∙ append-nil f.used)) f.is
wholly-so ts (p, t ∷ left) f = tt

-- what is read is a policy
pub sound : (ts : List Token) (p : Policy) → read_policy ts ≡ some p → Obeys policy ts p
unfolding read_policy
sound ts p e =
    let n = 3 * length ts + 3 in
    subst (Whenever (Obeys policy ts)) e
    (bind-so (ReadFront (Obeys policy) ts) (Obeys policy ts) wholly (policy_within n ts) (policy-within n ts) (wholly-so ts))
