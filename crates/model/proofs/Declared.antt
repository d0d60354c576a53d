-- Declarations stay well declared when an accepted line adds to them. Assumes nothing.
use Prim.Native.Nat.{ℕ, zero, suc, ◌+◌, ◌≤◌, ◌<◌}
use mathlib.Core.Path.{◌≡◌, refl, sym, ap, subst, ◌∙◌}
use mathlib.Core.Logic.{◌⊎◌, inl, inr, ⊎_elim}
use mathlib.Core.Bool.{Bool, true, false, ◌&&◌, not, true≢false}
use mathlib.Core.List.{List, [], ◌∷◌}
use mathlib.Core.Option.{Option, none, some, some-injective}
use native.Mathlib.Decide.{ℕ_discrete, dec_lt}
use native.Mathlib.Omega.{arith}
use lib.ListN.{length}
use lib.Dec.{eqb, leb, ltb}
use borrow.Author.Tests.{leb-false, not-false, not-true, eqb-true, eqb-false, eq-eqb, ne_eqb, lt-ltb, le-ltb}
use Rattle.model.specs.Notation.{if◌then◌otherwise◌, ◌>>=◌, ◌is◌, is_none, any_of, all_of, nth, place}
use Rattle.model.specs.Limits.{Edition, attribute_limit, operation_limit, pair_limit, holder_numbers, group_limit, rule_limit}
use Rattle.model.specs.Bytes.{Bytes, bytes, same}
use Rattle.model.specs.Names.{is_name}
use Rattle.model.specs.Attributes.{Source, AtomType, source_word, sources, same_source, type_word, types, from_block, same_type}
use Rattle.model.specs.Atoms.{Atom, type_of, is_atom, same_atom, bool_word}
use Rattle.model.specs.Tokens.{Token, is_token, as_name}
use Rattle.model.specs.Grammar.{read_policy, too_large}
use Rattle.model.specs.Lines.{Line, attr, op, atom, holder, parent, member, value, rule, is_line}
use Rattle.model.specs.Declarations.{Declarations, Attribute, Pair, Holder, Rule, Sort, same_source_and_name, attribute_number, attribute_of, operation_number, pair_number, holder_number, holder_of, is_holder, holder_numbers_of, groups, is_sort, is_group, nothing_declared}
use Rattle.model.specs.State.{State, declare, with_attribute, with_operation, with_pair, with_holder, with_rule}
use Rattle.model.specs.Refusals.{unknown_name, over_limits, undeclared, wrong_sort, repeated, full}
use Rattle.model.specs.Standing.{PairStands, PairsStand, HoldersStand, RuleStands, RulesStand, WellDeclared}
use Rattle.model.proofs.WordTables.{none-is-some, false-is-true, same-eq, same_refl, same_word, reads-source, reads_type, bools, reads-bool}
use Rattle.model.proofs.Options.{parts, both, bind-some, some-not}
use Rattle.model.proofs.Lists.{true-or-false, or-none, nth-append, place-nth}
use Rattle.model.proofs.Numbered.{find_none, found_number, find-inserted, length_inserted, count-inserted, rising-inserted, length-map}
use Rattle.model.proofs.Growing.{each_more, unique-more, place-append, place-nowhere, any-none-by, one-longer}

-- ---- tests that tell what is alike

pub same-sym : (s t : Bytes) → same s t ≡ true → same t s ≡ true
same-sym s t e = rw (same-eq s t e) (same_refl t)

pub named-eq : (s : Source) (n : Bytes) (t : Source) (m : Bytes) → same_source_and_name s n t m ≡ true → (s ≡ t) × (n ≡ m)
named-eq s n t m e =
    let (p, q) = parts (same_source s t) (same n m) e in
    (same_word source_word sources reads-source s t p, same-eq n m q)

pub eq-named : (s : Source) (n : Bytes) (t : Source) (m : Bytes) → s ≡ t → n ≡ m → same_source_and_name s n t m ≡ true
eq-named s n t m p q = rw (p, q) (both (same_refl (source_word t)) (same_refl m))

named-sym : (s : Source) (n : Bytes) (t : Source) (m : Bytes) → same_source_and_name s n t m ≡ true → same_source_and_name t m s n ≡ true
named-sym s n t m e = let (p, q) = named-eq s n t m e in eq-named t m s n (sym p) (sym q)

pub same-atom-eq : (a b : Atom) → same_atom a b ≡ true → a ≡ b
same-atom-eq (Atom.int m) (Atom.int n) e = ap Atom.int (eqb-true m n e)
same-atom-eq (Atom.int m) (Atom.str t) e = false-is-true e
same-atom-eq (Atom.int m) (Atom.bool b) e = false-is-true e
same-atom-eq (Atom.str s) (Atom.int n) e = false-is-true e
same-atom-eq (Atom.str s) (Atom.str t) e = ap Atom.str (same-eq s t e)
same-atom-eq (Atom.str s) (Atom.bool b) e = false-is-true e
same-atom-eq (Atom.bool a) (Atom.int n) e = false-is-true e
same-atom-eq (Atom.bool a) (Atom.str t) e = false-is-true e
same-atom-eq (Atom.bool a) (Atom.bool b) e = ap Atom.bool (same_word bool_word bools reads-bool a b e)

pub same-atom-refl : (a : Atom) → same_atom a a ≡ true
same-atom-refl (Atom.int n) = eq-eqb n n refl
same-atom-refl (Atom.str s) = same_refl s
same-atom-refl (Atom.bool b) = same_refl (bool_word b)

abbrev alike_pairs : Pair → Pair → Bool
alike_pairs p q = same_source_and_name p.source p.name q.source q.name && same_atom p.atom q.atom

pairs-sym : (p q : Pair) → alike_pairs p q ≡ true → alike_pairs q p ≡ true
pairs-sym p q e =
    let (named, same) = parts (same_source_and_name p.source p.name q.source q.name) (same_atom p.atom q.atom) e in
    both (named-sym p.source p.name q.source q.name named) (rw (same-atom-eq p.atom q.atom same) (same-atom-refl q.atom))

-- what no old thing is alike to is not alike to any old thing
apart : {A : Type 0} (alike : A → A → Bool) → ((x y : A) → alike x y ≡ true → alike y x ≡ true) → (xs : List A) (x : A)
    → place (λ y. alike y x) xs ≡ none → (i : ℕ) (y : A) → nth xs i ≡ some y → (alike y x ≡ false) × (alike x y ≡ false)
apart alike flip xs x e i y f =
    let off = place-nowhere (λ z. alike z x) xs e i y f in
    (off, ⊎_elim (λ on. absurd (true≢false (sym (flip x y on) ∙ off))) (λ no. no) (true-or-false (alike x y)))

not_found : {A : Type 0} (o : Option A) → not (is_none o) ≡ false → o ≡ none
not_found none e = refl
not_found (some a) e = absurd (true≢false e)

found : {A : Type 0} (o : Option A) → is_none o ≡ false → (a : A) × (o ≡ some a)
found none e = absurd (true≢false e)
found (some a) e = (a, refl)

-- ---- what stands on declarations stays when they grow

-- what is found by SRC and NAME stays found
abbrev AttributesStay : Declarations → Declarations → Type 0
AttributesStay D E = (s : Source) (n : Bytes) (k : ℕ) → attribute_number D s n ≡ some k → attribute_number E s n ≡ some k

module _ (D E : Declarations) (attributes-stay : AttributesStay D E) where
  known-stays : (t : Token) → unknown_name D t ≡ false → unknown_name E t ≡ false
  known-stays t e = go (as_name t) e
    where
      go : (o : Option (Source × Bytes)) → (o is λ (s, n). is_none (attribute_number D s n)) ≡ false → (o is λ (s, n). is_none (attribute_number E s n)) ≡ false
      go none f = refl
      go (some (s, n)) f = let (k, q) = found (attribute_number D s n) f in ap is_none (attributes-stay s n k q)

  rule-stays : ((o : Bytes) (k : ℕ) → operation_number D o ≡ some k → operation_number E o ≡ some k) → (r : Rule) → RuleStands D r → RuleStands E r
  rule-stays operations-stay r stands = record {
    operation-declared = let (k, q) = found (operation_number D r.operation) stands.operation-declared in ap is_none (operations-stay r.operation k q);
    written = stands.written;
    policy = stands.policy;
    reads = stands.reads;
    within = stands.within;
    names-declared = any-none-by (unknown_name D) (unknown_name E) known-stays r.tokens stands.names-declared;
  }

  pair-stays : ((i : ℕ) (a : Attribute) → nth D.attributes i ≡ some a → nth E.attributes i ≡ some a) → (p : Pair) → PairStands D p → PairStands E p
  unfolding attribute_of
  pair-stays rows_stay p stands =
      let (k, q, r) = bind-some (attribute_number D p.source p.name) (nth D.attributes) stands.declared in
      record {
        attribute = stands.attribute;
        declared = rw (attributes-stay p.source p.name k q) (rows_stay k stands.attribute r);
        typed = stands.typed;
        of-holders = stands.of-holders;
        written = stands.written;
      }

-- ---- a holder more

no_number : (o : Option Holder) → (o >>= λ h. some h.number) ≡ none → o ≡ none
no_number none e = refl
no_number (some h) e = none-is-some (sym e)

module _ (D : Declarations) (h : Holder) (free : holder_of D h.number ≡ none) where
  -- the holder of a number: the new one, or the one it was
  pub holder-with : (k : ℕ) (P : Option Holder → Type 0) → (h.number ≡ k → P (some h)) → ((h.number ≡ k → ⊥) → P (holder_of D k)) → P (holder_of (with_holder h D) k)
  holder-with k P new old = subst P (sym (find-inserted (λ g. g.number) h D.holders free k)) (go (eqb h.number k) refl)
    where
      go : (b : Bool) → eqb h.number k ≡ b → P (if b then some h otherwise holder_of D k)
      go true e = new (eqb-true h.number k e)
      go false e = old (eqb-false h.number k e)

  pub holder-cases : (k : ℕ) (g : Holder) → holder_of (with_holder h D) k ≡ some g → (holder_of D k ≡ some g) ⊎ ((h.number ≡ k) × (h ≡ g))
  holder-cases k g = holder-with k (λ o. o ≡ some g → (holder_of D k ≡ some g) ⊎ ((h.number ≡ k) × (h ≡ g))) (λ e f. inr (e, some-injective h g f)) (λ e f. inl f)

  pub holder-stays : (k : ℕ) (g : Holder) → holder_of D k ≡ some g → holder_of (with_holder h D) k ≡ some g
  holder-stays k g e = holder-with k (λ o. o ≡ some g) (λ f. none-is-some (sym (ap (holder_of D) (sym f) ∙ free) ∙ e)) (λ f. e)

-- ---- one thing more of each key

module _ {D : Declarations} (well : WellDeclared D) where
  -- rules where no more than their operations and attributes are looked at, and pairs where no more than attributes
  rules-kept : (E : Declarations) → AttributesStay D E → ((o : Bytes) (k : ℕ) → operation_number D o ≡ some k → operation_number E o ≡ some k)
      → E.rules ≡ D.rules → RulesStand E
  rules-kept E stay operations-stay e = record {
    each = λ i r f. rule-stays D E stay operations-stay r (well.rules.each i r (ap (λ (l : List Rule). nth l i) (sym e) ∙ f));
    few = rw e well.rules.few;
  }

  pairs-kept : (E : Declarations) → AttributesStay D E → ((i : ℕ) (a : Attribute) → nth D.attributes i ≡ some a → nth E.attributes i ≡ some a)
      → E.pairs ≡ D.pairs → PairsStand E
  pairs-kept E stay rows_stay e = record {
    each = λ i p f. pair-stays D E stay rows_stay p (well.pairs.each i p (ap (λ (l : List Pair). nth l i) (sym e) ∙ f));
    unique = rw e well.pairs.unique;
    few = rw e well.pairs.few;
  }

  holders-kept : (E : Declarations) → E.edition ≡ D.edition → E.holders ≡ D.holders → HoldersStand E
  unfolding holder_numbers_of groups
  holders-kept E same e = record {
    ordered = rw e well.holders.ordered;
    gapless = rw e well.holders.gapless;
    admin-first = rw e well.holders.admin-first;
    others = rw e well.holders.others;
    named = rw e well.holders.named;
    unique = rw e well.holders.unique;
    few = rw (same, e) well.holders.few;
    few-groups = rw e well.holders.few-groups;
  }

  attribute-more : (a : Attribute) → is_name a.name ≡ true → (from_block a.source && same_type a.type AtomType.str) ≡ false
      → attribute_number D a.source a.name ≡ none → leb attribute_limit (length D.attributes) ≡ false → WellDeclared (with_attribute a D)
  unfolding attribute_number operation_number
  attribute-more a named typed new room =
      let stay : AttributesStay D (with_attribute a D) = λ s n k e. place-append (λ b. same_source_and_name b.source b.name s n) D.attributes (a ∷ []) e in
      record {
        attributes = record {
          named = each_more D.attributes a well.attributes.named named;
          typed = each_more D.attributes a well.attributes.typed typed;
          unique =
              unique-more (λ a b. same_source_and_name a.source a.name b.source b.name) D.attributes a well.attributes.unique
              (apart (λ a b. same_source_and_name a.source a.name b.source b.name) (λ x y. named-sym x.source x.name y.source y.name) D.attributes a new);
          few = one-longer attribute_limit D.attributes a room;
        };
        operations = well.operations;
        pairs = pairs-kept (with_attribute a D) stay (λ i b e. nth-append D.attributes (a ∷ []) i e) refl;
        holders = holders-kept (with_attribute a D) refl refl;
        rules = rules-kept (with_attribute a D) stay (λ o k e. e) refl;
      }

  operation-more : (n : Bytes) → is_name n ≡ true → operation_number D n ≡ none → leb operation_limit (length D.operations) ≡ false → WellDeclared (with_operation n D)
  unfolding attribute_number operation_number
  operation-more n named new room = record {
    attributes = well.attributes;
    operations = record {
      named = each_more D.operations n well.operations.named named;
      unique =
          unique-more same D.operations n well.operations.unique
          (λ i m e. let (p, q) = apart (λ a b. same b a) (λ x y. same-sym y x) D.operations n new i m e in (q, p));
      few = one-longer operation_limit D.operations n room;
    };
    pairs = pairs-kept (with_operation n D) (λ s m k e. e) (λ i a e. e) refl;
    holders = holders-kept (with_operation n D) refl refl;
    rules = rules-kept (with_operation n D) (λ s m k e. e) (λ o k e. place-append (same o) D.operations (n ∷ []) e) refl;
  }

  pair-more : (p : Pair) → PairStands D p → pair_number D p.source p.name p.atom ≡ none → leb pair_limit (length D.pairs) ≡ false → WellDeclared (with_pair p D)
  unfolding attribute_number operation_number pair_number
  pair-more p stands new room = record {
    attributes = well.attributes;
    operations = well.operations;
    pairs = record {
      each = λ i q e. pair-stays D (with_pair p D) (λ s m k e. e) (λ i a e. e) q (each_more D.pairs p well.pairs.each stands i q e);
      unique = unique-more alike_pairs D.pairs p well.pairs.unique (apart alike_pairs pairs-sym D.pairs p new);
      few = one-longer pair_limit D.pairs p room;
    };
    holders = holders-kept (with_pair p D) refl refl;
    rules = rules-kept (with_pair p D) (λ s m k e. e) (λ o k e. e) refl;
  }

  rule-more : (r : Rule) → RuleStands D r → leb rule_limit (length D.rules) ≡ false → WellDeclared (with_rule r D)
  unfolding attribute_number operation_number
  rule-more r stands room = record {
    attributes = well.attributes;
    operations = well.operations;
    pairs = pairs-kept (with_rule r D) (λ s m k e. e) (λ i a e. e) refl;
    holders = holders-kept (with_rule r D) refl refl;
    rules = record {
      each = λ i q e. rule-stays D (with_rule r D) (λ s m k e. e) (λ o k e. e) q (each_more D.rules r well.rules.each stands i q e);
      few = one-longer rule_limit D.rules r room;
    };
  }

  -- the next number is free
  pub next-free : holder_of D (length D.holders) ≡ none
  next-free = not_found _ (well.holders.gapless (length D.holders) ∙ le-ltb (length D.holders) (length D.holders) (omega arith))

  holder-more : (h : Holder) → h.number ≡ length D.holders → is_sort h.sort Sort.admin ≡ false → is_name h.name ≡ true → holder_number D h.name ≡ none
      → full D (holder h.sort h.name) ≡ false → WellDeclared (with_holder h D)
  unfolding attribute_number operation_number holder_number holder_numbers_of groups
  holder-more h at no-admin named new room =
      let (room-for-holders, room-for-groups) =
      or-none (leb (holder_numbers D.edition) (length (holder_numbers_of D))) (is_group h.sort && leb group_limit (groups D)) room in
      let free : holder_of D h.number ≡ none = ap (holder_of D) at ∙ next-free in
      let longer = length_inserted (λ g. g.number) h D.holders in
      record {
        attributes = well.attributes;
        operations = well.operations;
        pairs = pairs-kept (with_holder h D) (λ s m k e. e) (λ i a e. e) refl;
        holders = record {
          ordered = rising-inserted (λ g. g.number) h D.holders well.holders.ordered free;
          gapless = λ k. holder-with D h free k (λ o. not (is_none o) ≡ ltb k (length (with_holder h D).holders))
              (λ e. sym (lt-ltb k (length (with_holder h D).holders) (omega (arith, e, at, longer))))
              (λ e. well.holders.gapless k ∙ same-below k (length D.holders) (length (with_holder h D).holders) longer (λ z. e (at ∙ sym z)));
          admin-first = holder-with D h free 0 (λ o. o ≡ some (record { number = 0; sort = Sort.admin; name = bytes "admin" }))
              (λ e. none-is-some (sym (ap (holder_of D) (sym e) ∙ free) ∙ well.holders.admin-first)) (λ e. well.holders.admin-first);
          others = λ k g e. ⊎_elim (well.holders.others k g) (λ q. rw q.1 at no-admin) (holder-cases D h free (suc k) g e);
          named = λ k g e. ⊎_elim (well.holders.named k g) (λ q. rw q.1 at named) (holder-cases D h free k g e);
          unique = λ j k g f e d s. only j k g f s (holder-cases D h free j g e) (holder-cases D h free k f d);
          few = omega (arith, length-map (λ g. g.number) (with_holder h D).holders, length-map (λ g. g.number) D.holders, longer, leb-false (holder_numbers D.edition) (length (holder_numbers_of D)) room-for-holders);
          few-groups = rw (count-inserted (λ g. g.number) h (λ g. is_group g.sort) D.holders) (one-more-group (is_group h.sort) (groups D) well.holders.few-groups room-for-groups);
        };
        rules = rules-kept (with_holder h D) (λ s m k e. e) (λ o k e. e) refl;
      }
    where
      one-more-group : (t : Bool) (n : ℕ) → n ≤ group_limit → (t && leb group_limit n) ≡ false → n + (if t then 1 otherwise 0) ≤ group_limit
      one-more-group true n few off = omega (arith, leb-false group_limit n off)
      one-more-group false n few off = omega arith

      same-below : (k m n : ℕ) → n ≡ suc m → (k ≡ m → ⊥) → ltb k m ≡ ltb k n
      same-below k m n e z = go (dec_lt k m)
        where
          go : Dec (k < m) → ltb k m ≡ ltb k n
          go (yes l) = lt-ltb k m l ∙ sym (lt-ltb k n (omega arith))
          go (no l) = le-ltb k m (omega arith) ∙ sym (le-ltb k n (past (ℕ_discrete k m)))
            where
              past : Dec (k ≡ m) → n ≤ k
              past (yes w) = absurd (z w)
              past (no w) = omega arith

      -- no other holder has the name
      other : (k : ℕ) (g : Holder) → holder_of D k ≡ some g → same g.name h.name ≡ true → ⊥
      other k g e s = true≢false (sym s ∙ find_none (λ x. same x.name h.name) D.holders (no_number _ new) (found_number (λ x. x.number) D.holders k g e).0)

      only : (j k : ℕ) (g f : Holder) → same g.name f.name ≡ true → (holder_of D j ≡ some g) ⊎ ((h.number ≡ j) × (h ≡ g)) → (holder_of D k ≡ some f) ⊎ ((h.number ≡ k) × (h ≡ f)) → j ≡ k
      only j k g f s (inl a) (inl b) = well.holders.unique j k g f a b s
      only j k g f s (inl a) (inr (b, c)) = absurd (other j g a (rw (← c) at s))
      only j k g f s (inr (b, c)) (inl a) = absurd (other k f a (same-sym h.name f.name (rw (← c) at s)))
      only j k g f s (inr (a, _)) (inr (b, _)) = sym a ∙ b

-- ---- an accepted line

-- the conditions of the numbers of a line that do not depend on ties: none of them holds
pub record Acceptable (S : State) (l : Line) : Type 0 where
  pub formed : is_line l ≡ true
  pub within : over_limits l ≡ false
  pub known : undeclared S.declared l ≡ false
  pub sorted : wrong_sort S.declared l ≡ false
  pub new : repeated S l ≡ false
  pub room : full S.declared l ≡ false

-- a pair that an atom line declares
pair-of-line : (D : Declarations) (s : Source) (n : Bytes) (a : Atom) → is_atom a ≡ true → undeclared D (atom s n a) ≡ false → wrong_sort D (atom s n a) ≡ false
    → PairStands D (record { source = s; name = n; atom = a })
unfolding attribute_of attribute_number
pair-of-line D s n a written known sorted =
    let (k, q) = found (attribute_number D s n) known in
    let (b, r, t) = place-nth (λ x. same_source_and_name x.source x.name s n) D.attributes k q in
    let (block, typed) = or-none (from_block s) (attribute_of D s n is λ b. not (same_type b.type (type_of a))) sorted in
    let declared : attribute_of D s n ≡ some b = ap (λ (o : Option ℕ). o >>= nth D.attributes) q ∙ r in
    record {
      attribute = b;
      declared = declared;
      typed = same_word type_word types reads_type b.type (type_of a) (not-false _ (some-not (attribute_of D s n) (λ b. not (same_type b.type (type_of a))) typed b declared));
      of-holders = block;
      written = written;
    }

pub rule-of-line : (D : Declarations) (o : Bytes) (ts : List Token) → is_line (rule o ts) ≡ true → over_limits (rule o ts) ≡ false → undeclared D (rule o ts) ≡ false
    → RuleStands D (record { operation = o; tokens = ts })
rule-of-line D o ts formed within known =
    let (front, policy) = parts (is_name o && all_of is_token ts) (not (is_none (read_policy ts))) formed in
    let (p, reads) = found (read_policy ts) (not-true (is_none (read_policy ts)) policy) in
    let (operation, names) = or-none (is_none (operation_number D o)) (any_of (unknown_name D) ts) known in
    record {
      operation-declared = operation;
      written = (parts (is_name o) (all_of is_token ts) front).1;
      policy = p;
      reads = reads;
      within = some-not (read_policy ts) too_large within p reads;
      names-declared = names;
    }

pub declare-well : (S : State) (l : Line) → WellDeclared S.declared → Acceptable S l → WellDeclared (declare l S.declared)
declare-well S (attr s n t) well a = attribute-more well _ a.formed a.sorted (not_found _ a.new) a.room
declare-well S (op n) well a = operation-more well n a.formed (not_found _ a.new) a.room
declare-well S (atom s n v) well a =
    pair-more well _ (pair-of-line S.declared s n v (parts (is_name n) (is_atom v) a.formed).1 a.known a.sorted) (not_found _ a.new) a.room
declare-well S (holder s n) well a =
    let (no-admin, named) = parts (not (is_sort s Sort.admin)) (is_name n) a.formed in
    holder-more well _ refl (not-true _ no-admin) named (not_found _ a.new) a.room
declare-well S (parent c g) well a = well
declare-well S (member p g) well a = well
declare-well S (value h n v) well a = well
declare-well S (rule o ts) well a = rule-more well _ (rule-of-line S.declared o ts a.formed a.within a.known) a.room

-- "the empty D": holder 0 alone
pub alone : (e : Edition) (k : ℕ) → holder_of (nothing_declared e) (suc k) ≡ none
alone e k = rw (ne_eqb 0 (suc k) (λ e. omega arith))

pub nothing-well : (e : Edition) → WellDeclared (nothing_declared e)
unfolding holder_numbers_of groups is_name
nothing-well edition = record {
  attributes = record { named = λ i x e. none-is-some e; typed = λ i x e. none-is-some e; unique = λ i j x y e. none-is-some e; few = omega arith };
  operations = record { named = λ i x e. none-is-some e; unique = λ i j x y e. none-is-some e; few = omega arith };
  pairs = record { each = λ i x e. none-is-some e; unique = λ i j x y e. none-is-some e; few = omega arith };
  holders = record {
    ordered = refl;
    gapless = gapless;
    admin-first = refl;
    others = λ k h e. none-is-some (sym (alone edition k) ∙ e);
    named = one (λ h. is_name h.name ≡ true) refl;
    unique = λ j k g h e f s. only j g e ∙ sym (only k h f);
    few = omega arith;
    few-groups = omega arith;
  };
  rules = record { each = λ i x e. none-is-some e; few = omega arith };
}
  where
    gapless : (k : ℕ) → is_holder (nothing_declared edition) k ≡ ltb k 1
    gapless zero = refl
    gapless (suc k) = ap (λ (o : Option Holder). not (is_none o)) (alone edition k) ∙ sym (le-ltb (suc k) 1 (omega arith))

    only : (k : ℕ) (h : Holder) → holder_of (nothing_declared edition) k ≡ some h → k ≡ 0
    only zero h e = refl
    only (suc k) h e = none-is-some (sym (alone edition k) ∙ e)

    one : (P : Holder → Type 0) → P (record { number = 0; sort = Sort.admin; name = bytes "admin" }) → (k : ℕ) (h : Holder) → holder_of (nothing_declared edition) k ≡ some h → P h
    one P p zero h e = rw (some-injective _ _ e) at p
    one P p (suc k) h e = none-is-some (sym (alone edition k) ∙ e)

-- a pair's attribute, by its number
pub record PairDeclared (D : Declarations) (p : Pair) : Type 0 where
  pub number : ℕ
  pub attribute : Attribute
  pub number_is : attribute_number D p.source p.name ≡ some number
  pub attribute-is : nth D.attributes number ≡ some attribute
  pub typed : type_of p.atom ≡ attribute.type

pub pair-declared : {D : Declarations} → WellDeclared D → (i : ℕ) (p : Pair) → nth D.pairs i ≡ some p → PairDeclared D p
unfolding attribute_of
pair-declared {D} well i p e =
    let stands = well.pairs.each i p e in
    let (k, q, r) = bind-some (attribute_number D p.source p.name) (nth D.attributes) stands.declared in
    record { number = k; attribute = stands.attribute; number_is = q; attribute-is = r; typed = sym stands.typed }
