-- Constants, sets and attributes in rule code.
use Prim.Native.Nat.{ℕ, ◌+◌, ◌*◌, ◌≤◌, ◌<◌, min}
use mathlib.Core.Path.{◌≡◌, refl, sym, ap, ap₂, subst, ◌∙◌}
use mathlib.Core.Bool.{Bool, true, false}
use mathlib.Core.List.{List, [], ◌∷◌, ◌++◌}
use mathlib.Core.Option.{Option, none, some, some-injective}
use native.Mathlib.Omega.{arith}
use Rattle.std.specs.Prelude as std
use Rattle.std.specs.Prelude.{Some, None}
use lib.Dec.{eqb, leb, ltb}
use lib.ListN.{length, get_or}
use borrow.Author.Tests.{eq-eqb, ne_eqb}
use Rattle.model.specs.Notation.{◌>>=◌, only_if, all_of, is_none, if◌then◌otherwise◌}
use Rattle.model.specs.Bytes.{Bytes}
use Rattle.model.specs.Attributes.{AtomType, same_type}
use Rattle.model.specs.Atoms.{Atom, is_atom, type_of}
use Rattle.model.specs.Tokens.{Token, name, int, str, truth, operator, mark, Mark, as_constant, is_token}
use Rattle.model.specs.Declarations.{Declarations, attribute_number}
use Rattle.model.specs.Grammar.{constants, one_type, behind_mark, read_items, read_set, read_var}
use Rattle.model.proofs.WordTables.{false-is-true, none-is-some}
use Rattle.model.proofs.Lists.{all_cons}
use Rattle.codes.specs.Codes.{kind_of, type_code}
use Rattle.codes.proofs.TokenKinds.{truth-range, operator-range, mark-range}
use Rattle.text.specs.declared.Words.{Words}
use Rattle.text.specs.Values.{atom_words}
use Rattle.rows.specs.Rows.{number_or}
use Rattle.tokens.specs.RuleCode.{encode_token, rule_code, Coded, size, unknown_number}
use Rattle.tokens.proofs.RuleCode.{size-carried, code-cons, coded-within, name-here, name-number, str-length}
use Rattle.values.specs.Operands.{operand, no_values, row_type, constants_from, Stands, values_from, first_of, attribute_operand}
use Rattle.values.proofs.RuleConstants.{step, none-behind}
use Rattle.policy.specs.declared.Meant.TheVariants.{Constants as MeantConstants, Attribute}
use Rattle.policy.specs.declared.Var.{Var}
use Rattle.policy.specs.declared.Constants.{Constants}
use Rattle.policy.specs.Readers.{Lending, lent_with, Asked, From, VarReads, VarAnswers, Past, Vars, SetVars, ConstantEnds, of_kind, EndsWithin, ItemsAnswers, ItemsFrom}
use Rattle.policy.proofs.CodeFronts.{inside, told, ended, mark_on, mark-off, constant-off}

-- ---- one constant

-- what a token says of its constant
module _ (a : Atom) where
  kind-of : (t : Token) → as_constant t ≡ some a → kind_of t ≡ type_code (type_of a)
  kind-of (name x n) e = none-is-some e
  kind-of (int n) e = ap (λ (b : Atom). type_code (type_of b)) (some-injective (Atom.int n) a e)
  kind-of (str s) e = ap (λ (b : Atom). type_code (type_of b)) (some-injective (Atom.str s) a e)
  kind-of (truth v) e = none-is-some e
  kind-of (operator o) e = none-is-some e
  kind-of (mark m) e = none-is-some e

  written-atom : (t : Token) → as_constant t ≡ some a → is_token t ≡ true → is_atom a ≡ true
  written-atom (name x n) e w = none-is-some e
  written-atom (int n) e w = subst (λ (b : Atom). is_atom b ≡ true) (some-injective (Atom.int n) a e) w
  written-atom (str s) e w = subst (λ (b : Atom). is_atom b ≡ true) (some-injective (Atom.str s) a e) w
  written-atom (truth v) e w = none-is-some e
  written-atom (operator o) e w = none-is-some e
  written-atom (mark m) e w = none-is-some e

-- the values from a constant on: its own, and those from the place on where the next one begins
constant-first : (code : Bytes) (A : Asked) (kind at end : ℕ) → end ≤ length code → A.valued ≡ true → (a : Atom) (t : Token) (rest : List Token)
    → as_constant t ≡ some a → kind ≡ type_code (type_of a) → From code A at (t ∷ rest) → at + size t ≤ end
    → constants_from kind code end at ≡ atom_words a ∷ constants_from kind code end (at + size t + 1)
constant-first code A kind at end m v a t rest e k f l =
    let D = A.declared in
    let n : at + length (encode_token D t) + 1 ≡ at + size t + 1 = omega (arith, size-carried D t) in
    step D kind code end m t a e (sym k) (written-atom a t e ((told f).written v)) at (rule_code D rest ++ f.coded.rest)
    (f.coded.from ∙ code-cons D t rest f.coded.rest) (omega (arith, size-carried D t))
    ∙ ap (λ (i : ℕ). atom_words a ∷ constants_from kind code end i) n

-- the values of one constant
constant-only : (code : Bytes) (A : Asked) (kind at end : ℕ) → end ≤ length code → A.valued ≡ true → (a : Atom) (t : Token) (rest : List Token)
    → as_constant t ≡ some a → kind ≡ type_code (type_of a) → From code A at (t ∷ rest) → end ≡ at + size t → constants_from kind code end at ≡ atom_words a ∷ []
constant-only code A kind at end m v a t rest e k f n =
    constant-first code A kind at end m v a t rest e k f (omega arith)
    ∙ ap (λ (l : List Words). atom_words a ∷ l) (none-behind A.declared kind code end m (at + size t + 1) (omega arith))

-- where a constant ends
module _ (code : Bytes) (kind at : ℕ) where
  pub end-int : (kind ≡ 2 → ⊥) → ConstantEnds code kind at (at + 5)
  end-int n = record { further = omega arith; ends = λ D t ts c e lo hi. go t e lo hi }
    where
      go : (t : Token) → kind ≡ kind_of t → 1 ≤ kind → kind ≤ 2 → at + 5 ≡ at + size t
      go (name x y) e lo hi = absurd (omega arith)
      go (int x) e lo hi = refl
      go (str x) e lo hi = absurd (n e)
      go (truth x) e lo hi = absurd (omega (arith, truth-range x))
      go (operator x) e lo hi = absurd (omega (arith, operator-range x))
      go (mark x) e lo hi = absurd (omega (arith, mark-range x))

  pub end-str : (n : ℕ) → kind ≡ 2 → n ≡ get_or code (at + 1) 0 → ConstantEnds code kind at (at + 2 + n)
  end-str n z q = record { further = omega arith; ends = λ D t ts c e lo hi. go D t ts c e }
    where
      go : (D : Declarations) (t : Token) (ts : List Token) → Coded D code at (t ∷ ts) → kind ≡ kind_of t → at + 2 + n ≡ at + size t
      go D (name x y) ts c e = absurd (omega arith)
      go D (int x) ts c e = absurd (omega arith)
      go D (str x) ts c e = omega (arith, q ∙ str-length c)
      go D (truth x) ts c e = absurd (omega (arith, truth-range x))
      go D (operator x) ts c e = absurd (omega (arith, operator-range x))
      go D (mark x) ts c e = absurd (omega (arith, mark-range x))

-- a constant at the front, by its number
record Constant (code : Bytes) (A : Asked) (kind at end : ℕ) (ts : List Token) : Type 0 where
  pub token : Token
  pub atom : Atom
  pub rest : List Token
  pub split : ts ≡ token ∷ rest
  pub is : as_constant token ≡ some atom
  pub kind-is : kind ≡ kind_of token
  pub ends : end ≡ at + size token
  pub from : From code A at (token ∷ rest)
  pub behind : From code A end rest

module _ (code : Bytes) (kind at end : ℕ) (q : kind ≡ get_or code at 0) (E : ConstantEnds code kind at end) (lo : 1 ≤ kind) (hi : kind ≤ 2) (A : Asked) where
  constant_of : (t : Token) (rest : List Token) → From code A at (t ∷ rest) → (a : Atom) × (as_constant t ≡ some a)
  constant_of (name x n) rest f = absurd (omega (arith, q, (told f).kind-is))
  constant_of (int n) rest f = (Atom.int n, refl)
  constant_of (str s) rest f = (Atom.str s, refl)
  constant_of (truth x) rest f = absurd (omega (arith, q, (told f).kind-is, truth-range x))
  constant_of (operator x) rest f = absurd (omega (arith, q, (told f).kind-is, operator-range x))
  constant_of (mark x) rest f = absurd (omega (arith, q, (told f).kind-is, mark-range x))

  constant-on : (ts : List Token) → From code A at ts → Constant code A kind at end ts
  constant-on [] f = absurd (omega (arith, q, ended f))
  constant-on (t ∷ rest) f =
      let (a, e) = constant_of t rest f in
      let k = q ∙ (told f).kind-is in
      let n : end ≡ at + size t = E.ends A.declared t rest f.coded k lo hi in
      record {
        token = t;
        atom = a;
        rest = rest;
        split = refl;
        is = e;
        kind-is = k;
        ends = n;
        from = f;
        behind = subst (λ (i : ℕ). From code A i rest) (sym n) (told f).behind;
      }

-- ---- the constants of a set

-- what is read from a constant on begins with it
items-from : (t : Token) (a : Atom) → as_constant t ≡ some a → (P : Option (List Atom × List Token) → Type 0)
    → P none → ((l : List Atom) (rest : List Token) → P (some (a ∷ l, rest))) → (ts : List Token) → P (read_items (t ∷ ts))
items-from t a e P p q [] = p
items-from t a e P p q (u ∷ ts) = rw e (go (behind_mark Mark.rbrace (u ∷ ts)) (behind_mark Mark.comma (u ∷ ts)) (read_items ts))
  where
    go : (w x : Option (List Token)) (y : Option (List Atom × List Token))
        → P (elim w as (λ _. Option (List Atom × List Token)) [ some rest ↦ some (a ∷ [], rest) | none ↦ x >>= λ rest. y >>= λ (l, rest). some (a ∷ l, rest) ])
    go (some rest) x y = q [] rest
    go none none y = p
    go none (some rest) none = p
    go none (some rest) (some (l, left)) = q l left

items-not : (t : Token) (ts : List Token) → as_constant t ≡ none → read_items (t ∷ ts) ≡ none
items-not t [] e = refl
items-not t (u ∷ ts) e = rw e

module _ (t : Token) (a : Atom) (e : as_constant t ≡ some a) where
  items-end : (rest : List Token) → read_items (t ∷ mark Mark.rbrace ∷ rest) ≡ some (a ∷ [], rest)
  items-end rest = rw e

  items-next : (rest : List Token) → read_items (t ∷ mark Mark.comma ∷ rest) ≡ (read_items rest >>= λ (l, left). some (a ∷ l, left))
  items-next rest = rw e

  items-neither : (ts : List Token) → behind_mark Mark.rbrace ts ≡ none → behind_mark Mark.comma ts ≡ none → read_items (t ∷ ts) ≡ none
  items-neither [] f g = refl
  items-neither (u ∷ ts) f g =
      rw e (ap₂ (λ (w x : Option (List Token)). elim w as (λ _. Option (List Atom × List Token)) [ some rest ↦ some (a ∷ [], rest) | none ↦ x >>= λ rest. read_items ts >>= λ (l, rest). some (a ∷ l, rest) ]) f g)

-- constants, and n more before them; no further than is needed to see that the limit is passed
abbrev n_more : ℕ → std.Option Constants → std.Option Constants
n_more n None = None
n_more n (Some r) = Some (record { atoms = min 9 (n + r.atoms); end = r.end })

abbrev one_more : std.Option Constants → std.Option Constants
one_more None = None
one_more (Some r) = Some (record { atoms = min 9 (r.atoms + 1); end = r.end })

-- an atom of the kind is followed by others of it
of-kind-cons : (kind : ℕ) (a : Atom) (l : List Atom) → kind ≡ type_code (type_of a) → all_of (of_kind kind) (a ∷ l) ≡ all_of (of_kind kind) l
of-kind-cons kind a l e =
    ap (λ (b : Bool). elim b as (λ _. Bool) [ true ↦ all_of (of_kind kind) l | false ↦ false ]) (eq-eqb (type_code (type_of a)) kind (sym e))

module _ (code : Bytes) (kind at : ℕ) where
  pub items-short : length code ≤ at → ItemsFrom code kind at None
  items-short l = record { within = tt; answers = λ lo hi A ts f. absurd (omega (arith, coded-within f.coded)) }

  pub items-other : (get_or code at 0 ≡ kind → ⊥) → ItemsFrom code kind at None
  items-other n = record { within = tt; answers = λ lo hi A ts f. go A ts f }
    where
      go : (A : Asked) (ts : List Token) → From code A at ts → ItemsAnswers code A kind at None (read_items ts)
      go A [] f = tt
      go A (t ∷ ts) f = case (as_constant t) refl
        where
          case : (o : Option Atom) → as_constant t ≡ o → ItemsAnswers code A kind at None (read_items (t ∷ ts))
          case none q = subst (ItemsAnswers code A kind at None) (sym (items-not t ts q)) tt
          case (some a) q = items-from t a q (ItemsAnswers code A kind at None) tt (λ l rest.
              ap (λ (b : Bool). elim b as (λ _. Bool) [ true ↦ all_of (of_kind kind) l | false ↦ false ]) (ne_eqb (type_code (type_of a)) kind (λ z. n ((told f).kind-is ∙ kind-of a t q ∙ z)))) ts

  module _ (q : get_or code at 0 ≡ kind) (end k : ℕ) (E : ConstantEnds code kind at end) (h : k ≡ get_or code end 0) where
    pub items-within : 0 < k → end < length code
    items-within z = inside code end (omega arith)

    front : 1 ≤ kind → kind ≤ 2 → (A : Asked) (ts : List Token) → From code A at ts → Constant code A kind at end ts
    front lo hi A ts f = constant-on code kind at end (sym q) E lo hi A ts f

    pub items-last : k ≡ 8 → ItemsFrom code kind at (Some (record { atoms = 1; end = end }))
    items-last z = record {
      within = (E.further, items-within (omega arith));
      answers = λ lo hi A ts f.
          let r : std.Option Constants = Some (record { atoms = 1; end = end }) in
          let c = front lo hi A ts f in
          let b = mark_on Mark.rbrace code A end c.rest c.behind (sym h ∙ z) in
          let w = items-within (omega arith) in
          let k : kind ≡ type_code (type_of c.atom) = c.kind-is ∙ kind-of c.atom c.token c.is in
          subst (λ us. ItemsAnswers code A kind at r (read_items us)) (sym (c.split ∙ ap (λ us. c.token ∷ us) b.split))
          (subst (ItemsAnswers code A kind at r) (sym (items-end c.token c.atom c.is b.rest)) (record {
            behind = b.behind;
            atom-count = refl;
            some-atoms = omega arith;
            of-kind = of-kind-cons kind c.atom [] k;
            coded = λ v. constant-only code A kind at end (omega arith) v c.atom c.token c.rest c.is k c.from c.ends;
            written = λ v. all_cons is_atom c.atom [] (written-atom c.atom c.token c.is ((told c.from).written v)) refl;
          }));
    }

    pub items_more : (r : std.Option Constants) → ItemsFrom code kind (end + 1) r → k ≡ 9 → ItemsFrom code kind at (one_more r)
    items_more r R z = record {
      within = ends r R.within;
      answers = λ lo hi A ts f.
          let c = front lo hi A ts f in
          let b = mark_on Mark.comma code A end c.rest c.behind (sym h ∙ z) in
          subst (λ us. ItemsAnswers code A kind at (one_more r) (read_items us)) (sym (c.split ∙ ap (λ us. c.token ∷ us) b.split))
          (subst (ItemsAnswers code A kind at (one_more r)) (sym (items-next c.token c.atom c.is b.rest))
          (go r R.within A ts c (read_items b.rest) (R.answers lo hi A b.rest b.behind)));
    }
      where
        ends : (r : std.Option Constants) → EndsWithin code (end + 1) r → EndsWithin code at (one_more r)
        ends (Some x) (a, b) = (omega (arith, E.further), b)
        ends None e = tt

        go : (r : std.Option Constants) → EndsWithin code (end + 1) r → (A : Asked) (ts : List Token) (c : Constant code A kind at end ts)
            (o : Option (List Atom × List Token)) → ItemsAnswers code A kind (end + 1) r o
            → ItemsAnswers code A kind at (one_more r) (o >>= λ (l, left). some (c.atom ∷ l, left))
        go None w A ts c none a = tt
        go None w A ts c (some (l, left)) a = of-kind-cons kind c.atom l (c.kind-is ∙ kind-of c.atom c.token c.is) ∙ a
        go (Some r) w A ts c none a = absurd a
        go (Some r) (x, y) A ts c (some (l, left)) i =
            let k : kind ≡ type_code (type_of c.atom) = c.kind-is ∙ kind-of c.atom c.token c.is in
            let s : at + size c.token + 1 ≡ end + 1 = omega (arith, c.ends) in
            record {
              behind = i.behind;
              atom-count = omega (arith, i.atom-count);
              some-atoms = omega arith;
              of-kind = of-kind-cons kind c.atom l k ∙ i.of-kind;
              coded = λ v.
                  constant-first code A kind at r.end (omega arith) v c.atom c.token c.rest c.is k c.from (omega (arith, c.ends))
                  ∙ ap (λ (l : List Words). atom_words c.atom ∷ l) (ap (constants_from kind code r.end) s ∙ i.coded v);
              written = λ v. all_cons is_atom c.atom l (written-atom c.atom c.token c.is ((told c.from).written v)) (i.written v);
            }

    pub items-off : (k ≡ 8 → ⊥) → (k ≡ 9 → ⊥) → ItemsFrom code kind at None
    items-off x y = record {
      within = tt;
      answers = λ lo hi A ts f.
          let c = front lo hi A ts f in
          subst (λ us. ItemsAnswers code A kind at None (read_items us)) (sym c.split)
          (subst (ItemsAnswers code A kind at None) (sym (items-neither c.token c.atom c.is c.rest
          (mark-off Mark.rbrace code A end c.rest c.behind (λ w. x (h ∙ w))) (mark-off Mark.comma code A end c.rest c.behind (λ w. y (h ∙ w))))) tt);
    }

-- ---- the constants of a set, one after another

-- what is read from `at` on tells what is read from `first` on, n constants before
abbrev pub Passed : Bytes → ℕ → ℕ → ℕ → ℕ → Type 0
Passed code kind first at n = (r : std.Option Constants) → ItemsFrom code kind at r → ItemsFrom code kind first (n_more n r)

module _ (code : Bytes) (kind at : ℕ) where
  pub none_passed : Passed code kind at at 0
  none_passed None R = R
  none_passed (Some r) R = record { within = R.within; answers = λ lo hi A ts g. go A (read_items ts) (R.answers lo hi A ts g) }
    where
      go : (A : Asked) (o : Option (List Atom × List Token)) → ItemsAnswers code A kind at (Some r) o → ItemsAnswers code A kind at (n_more 0 (Some r)) o
      go A none a = absurd a
      go A (some y) i = record {
        behind = i.behind;
        atom-count = omega (arith, i.atom-count);
        some-atoms = i.some-atoms;
        of-kind = i.of-kind;
        coded = i.coded;
        written = i.written;
      }

module _ (code : Bytes) (kind first at n : ℕ) (P : Passed code kind first at n) where
  pub no-constant : ItemsFrom code kind at None → ItemsFrom code kind first None
  no-constant R = P None R

  module _ (q : get_or code at 0 ≡ kind) (end k m : ℕ) (E : ConstantEnds code kind at end) (h : k ≡ get_or code end 0) (j : m ≡ min 9 (n + 1)) where
    pub last-constant : k ≡ 8 → ItemsFrom code kind first (Some (record { atoms = m; end = end }))
    last-constant z =
        subst (λ (i : ℕ). ItemsFrom code kind first (Some (record { atoms = i; end = end }))) (sym j)
        (P (Some (record { atoms = 1; end = end })) (items-last code kind at q end k E h z))

    pub constant-passed : k ≡ 9 → Passed code kind first (end + 1) m
    constant-passed z None R = P None (items_more code kind at q end k E h None R z)
    constant-passed z (Some r) R =
        subst (λ (i : ℕ). ItemsFrom code kind first (Some (record { atoms = i; end = r.end }))) (omega (arith, j))
        (P (one_more (Some r)) (items_more code kind at q end k E h (Some r) R z))

-- ---- a set

same-type : (s t : AtomType) → same_type s t ≡ eqb (type_code t) (type_code s)
same-type AtomType.int AtomType.int = refl
same-type AtomType.int AtomType.str = refl
same-type AtomType.int AtomType.bool = refl
same-type AtomType.str AtomType.int = refl
same-type AtomType.str AtomType.str = refl
same-type AtomType.str AtomType.bool = refl
same-type AtomType.bool AtomType.int = refl
same-type AtomType.bool AtomType.str = refl
same-type AtomType.bool AtomType.bool = refl

same-types : (a : Atom) (l : List Atom) → all_of (λ b. same_type (type_of a) (type_of b)) l ≡ all_of (of_kind (type_code (type_of a))) l
same-types a [] = refl
same-types a (b ∷ l) =
    ap₂ (λ (x y : Bool). elim x as (λ _. Bool) [ true ↦ y | false ↦ false ]) (same-type (type_of a) (type_of b)) (same-types a l)

module _ (code : Bytes) (at k : ℕ) (e : k ≡ get_or code at 0) where
  abbrev Same : Option (List Atom × List Token) → Type 0
  Same o = (y : List Atom × List Token) → o ≡ some y → one_type y.0 ≡ all_of (of_kind k) y.0

  -- the constants of a set are of one type where they are all of the first one's kind
  one_type_lem : 1 ≤ k → k ≤ 2 → (A : Asked) (ts : List Token) → From code A at ts → Same (read_items ts)
  one_type_lem lo hi A [] f = λ y q. none-is-some q
  one_type_lem lo hi A (t ∷ ts) f = case (as_constant t) refl
    where
      case : (o : Option Atom) → as_constant t ≡ o → Same (read_items (t ∷ ts))
      case none q = subst Same (sym (items-not t ts q)) (λ y z. none-is-some z)
      case (some a) q =
          let s : k ≡ type_code (type_of a) = e ∙ (told f).kind-is ∙ kind-of a t q in
          items-from t a q Same (λ y z. none-is-some z) (λ l rest y z.
          subst (λ (x : List Atom × List Token). one_type x.0 ≡ all_of (of_kind k) x.0) (some-injective (a ∷ l, rest) y z)
          (same-types a l ∙ ap (λ (i : ℕ). all_of (of_kind i) l) (sym s) ∙ sym (of-kind-cons k a l s))) ts

  pub set-none : (1 ≤ k → k ≤ 2 → ⊥) → SetVars code at None
  unfolding read_set
  set-none n = record { past = tt; answers = λ L A ts f. go L A ts f }
    where
      go : (L : Lending) (A : Asked) (ts : List Token) → From code A at ts → VarAnswers code L A None (read_set ts)
      go L A [] f = tt
      go L A (t ∷ ts) f =
          subst (λ o. VarAnswers code L A None (o >>= λ (l, rest). only_if (one_type l) (constants l, rest)))
          (sym (items-not t ts (constant-off code A at t ts f (λ a b. n (omega arith) (omega arith))))) tt

  module _ (lo : 1 ≤ k) (hi : k ≤ 2) where
    pub set-off : ItemsFrom code k at None → SetVars code at None
    unfolding read_set
    set-off R = record { past = tt; answers = λ L A ts f. go L A (read_items ts) (R.answers lo hi A ts f) (one_type_lem lo hi A ts f) }
      where
        go : (L : Lending) (A : Asked) (o : Option (List Atom × List Token)) → ItemsAnswers code A k at None o
            → ((y : List Atom × List Token) → o ≡ some y → one_type y.0 ≡ all_of (of_kind k) y.0)
            → VarAnswers code L A None (o >>= λ (l, rest). only_if (one_type l) (constants l, rest))
        go L A none a s = tt
        go L A (some y) a s = subst (λ (b : Bool). VarAnswers code L A None (only_if b (constants y.0, y.1))) (sym (s y refl ∙ a)) tt

    pub set_on : (r : Constants) → ItemsFrom code k at (Some r)
        → SetVars code at (Some (record { meant = MeantConstants k at r.end; atoms = r.atoms; next = r.end + 1 }))
    unfolding read_set values_from first_of
    set_on r R = record {
      past = omega (arith, R.within.0);
      answers = λ L A ts f. go L A (read_items ts) (R.answers lo hi A ts f) (one_type_lem lo hi A ts f);
    }
      where
        go : (L : Lending) (A : Asked) (w : Option (List Atom × List Token)) → ItemsAnswers code A k at (Some r) w
            → ((y : List Atom × List Token) → w ≡ some y → one_type y.0 ≡ all_of (of_kind k) y.0)
            → VarAnswers code L A (Some (record { meant = MeantConstants k at r.end; atoms = r.atoms; next = r.end + 1 })) (w >>= λ (l, rest). only_if (one_type l) (constants l, rest))
        go L A none a s = absurd a
        go L A (some y) i s =
            subst (λ (b : Bool). VarAnswers code L A (Some (record { meant = MeantConstants k at r.end; atoms = r.atoms; next = r.end + 1 })) (only_if b (constants y.0, y.1)))
            (sym (s y refl ∙ i.of-kind)) (record {
              behind = i.behind;
              atom-count = i.atom-count;
              some-atoms = i.some-atoms;
              near = λ rows. (omega (arith, R.within.0, R.within.1), omega (arith, R.within.1));
              stands = λ v read g. record { coded = i.coded v; typed = i.of-kind; written = i.written v };
            })

-- ---- a var

-- the numbers of an attribute's operand are no larger than its own
operand-near : (rows : List ℕ) (k : ℕ) → ((attribute_operand rows k).start ≤ k) × ((attribute_operand rows k).end ≤ k)
unfolding attribute_operand
operand-near rows k = go (ltb k 32) (eqb (get_or rows (8 * k) 0) 0) (leb (get_or rows (8 * k) 0) 3)
  where
    go : (a b c : Bool)
        → ((if a then (if b then no_values otherwise (if c then operand (row_type rows k) 0 k 0 otherwise operand (row_type rows k) 1 k 0)) otherwise no_values).start ≤ k)
        × ((if a then (if b then no_values otherwise (if c then operand (row_type rows k) 0 k 0 otherwise operand (row_type rows k) 1 k 0)) otherwise no_values).end ≤ k)
    go true true c = (omega arith, omega arith)
    go true false true = (omega arith, omega arith)
    go true false false = (omega arith, omega arith)
    go false b c = (omega arith, omega arith)

constant-read : (code : Bytes) (L : Lending) (A : Asked) (v : Var) (t : Token) (a : Atom) (rest : List Token) → as_constant t ≡ some a
    → VarReads code L A v (constants (a ∷ [])) rest → VarAnswers code L A (Some v) (read_var (t ∷ rest))
constant-read code L A v (name x n) a rest q r = none-is-some q
constant-read code L A v (int n) a rest q r =
    subst (λ (b : Atom). VarReads code L A v (constants (b ∷ [])) rest) (sym (some-injective (Atom.int n) a q)) r
constant-read code L A v (str n) a rest q r =
    subst (λ (b : Atom). VarReads code L A v (constants (b ∷ [])) rest) (sym (some-injective (Atom.str n) a q)) r
constant-read code L A v (truth x) a rest q r = none-is-some q
constant-read code L A v (operator x) a rest q r = none-is-some q
constant-read code L A v (mark x) a rest q r = none-is-some q

module _ (code : Bytes) (at k : ℕ) (e : k ≡ get_or code at 0) where
  pub var-within : 0 < k → at < length code
  var-within h = inside code at (omega arith)

  pub var-constant : 1 ≤ k → k ≤ 2 → (end : ℕ) → ConstantEnds code k at end
      → Vars code at (Some (record { meant = MeantConstants k at end; atoms = 1; next = end }))
  unfolding values_from first_of
  var-constant lo hi end E = record {
    past = E.further;
    answers = λ L A ts f.
        let v : Var = record { meant = MeantConstants k at end; atoms = 1; next = end } in
        let c = constant-on code k at end e E lo hi A ts f in
        let s : k ≡ type_code (type_of c.atom) = c.kind-is ∙ kind-of c.atom c.token c.is in
        let w : at + size c.token < length code = (told c.from).within in
        subst (λ us. VarAnswers code L A (Some v) (read_var us)) (sym c.split)
        (constant-read code L A v c.token c.atom c.rest c.is (record {
          behind = c.behind;
          atom-count = refl;
          some-atoms = omega arith;
          near = λ rows. (omega arith, omega (arith, c.ends));
          stands = λ v read g. record {
            coded = constant-only code A k at end (omega (arith, c.ends)) v c.atom c.token c.rest c.is s c.from c.ends;
            typed = of-kind-cons k c.atom [] s;
            written = all_cons is_atom c.atom [] (written-atom c.atom c.token c.is ((told c.from).written v)) refl;
          };
        }));
  }

  pub var-name : k ≡ 4 → (n : ℕ) → n ≡ get_or code (at + 1) 0 → n < 256
      → Vars code at (Some (record { meant = Attribute n; atoms = 0; next = at + 2 }))
  var-name z n m few = record {
    past = omega arith;
    answers = λ L A ts f.
        let (s, x, us, g, c) = name-here f.coded (sym e ∙ z) in
        let h : From code A at (name s x ∷ us) = subst (From code A at) g f in
        subst (λ us. VarAnswers code L A (Some (record { meant = Attribute n; atoms = 0; next = at + 2 })) (read_var us)) (sym g) (record {
          behind = (told h).behind;
          atom-count = refl;
          some-atoms = tt;
          near = λ rows. (omega (arith, (operand-near rows n).0), omega (arith, (operand-near rows n).1));
          stands = λ v read r.
              let (i, j) = declared (attribute_number A.declared s x) ((told h).known v) in
              let d : n ≡ i = m ∙ name-number h.coded ∙ ap (number_or unknown_number) j in
              subst (λ (w : ℕ). Stands (lent_with code L) (attribute_operand L.attributes w) (read s x)) (sym d) (r s x i j);
        });
  }
    where
      declared : (o : Option ℕ) → is_none o ≡ false → (i : ℕ) × (o ≡ some i)
      declared none w = false-is-true (sym w)
      declared (some i) w = (i, refl)

  pub var-set : (v : std.Option Var) → k ≡ 7 → SetVars code (at + 1) v → Vars code at v
  var-set v z S = record {
    past = past v S.past;
    answers = λ L A ts f.
        let b = mark_on Mark.lbrace code A at ts f (sym e ∙ z) in
        subst (λ us. VarAnswers code L A v (read_var us)) (sym b.split) (S.answers L A b.rest b.behind);
  }
    where
      past : (v : std.Option Var) → Past (at + 1) v → Past at v
      past (Some v) l = omega arith
      past None l = tt

  pub var-none : (1 ≤ k → k ≤ 2 → ⊥) → (k ≡ 4 → ⊥) → (k ≡ 7 → ⊥) → Vars code at None
  var-none a b d = record { past = tt; answers = λ L A ts f. go L A ts f }
    where
      go : (L : Lending) (A : Asked) (ts : List Token) → From code A at ts → VarAnswers code L A None (read_var ts)
      go L A [] f = tt
      go L A (name y n ∷ ts) f = absurd (b (e ∙ (told f).kind-is))
      go L A (int n ∷ ts) f = absurd (a (omega (arith, e, (told f).kind-is)) (omega (arith, e, (told f).kind-is)))
      go L A (str n ∷ ts) f = absurd (a (omega (arith, e, (told f).kind-is)) (omega (arith, e, (told f).kind-is)))
      go L A (truth y ∷ ts) f = tt
      go L A (operator y ∷ ts) f = tt
      go L A (mark m ∷ ts) f =
          subst (λ w. VarAnswers code L A None (w >>= read_set)) (sym (mark-off Mark.lbrace code A at (mark m ∷ ts) f (λ w. d (e ∙ w)))) tt
