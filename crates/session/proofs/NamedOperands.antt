-- The operand of an attribute stands for what rules read by its name. Assumes nothing.
use Prim.Native.Nat.{ℕ, zero, suc, ◌+◌, ◌*◌, ◌≤◌, ◌<◌}
use native.Mathlib.Omega.{arith}
use mathlib.Core.Path.{◌≡◌, refl, sym, ap, ap₂, subst, ◌∙◌}
use mathlib.Core.Bool.{Bool, true, false, ◌&&◌, true≢false, and_comm}
use mathlib.Core.List.{List, [], ◌∷◌}
use mathlib.Core.Option.{Option, none, some, some-injective}
use lib.Dec.{eqb, leb}
use lib.ListN.{length, get_or}
use borrow.Author.Tests.{eq-eqb, eqb-true, le-leb}
use Rattle.model.specs.Notation.{if◌then◌otherwise◌, ◌is◌, map, each, nth}
use Rattle.model.specs.Limits.{largest_int}
use Rattle.model.specs.Bytes.{Bytes}
use Rattle.model.specs.Attributes.{Source, AtomType, from_block, same_type}
use Rattle.model.specs.Atoms.{type_of, is_atom}
use Rattle.model.specs.Declarations.{Declarations, Attribute, Pair, same_source_and_name, attribute_number}
use Rattle.model.specs.Table.{effective_set}
use Rattle.model.specs.State.{State}
use Rattle.model.specs.Block.{Block, activated}
use Rattle.model.specs.Session.{pairs_of, held, given, entry_value, entered, user_values, read_by}
use Rattle.model.specs.Standing.{WellDeclared}
use Rattle.model.proofs.WordTables.{none-is-some}
use Rattle.model.proofs.Lists.{place-nth, nth-lt, same_truth}
use Rattle.bits.specs.Bits.{holds}
use Rattle.codes.specs.Codes.{source_code, type_code}
use Rattle.text.specs.declared.Words.{Words}
use Rattle.text.specs.Values.{words, atom_words}
use Rattle.model.proofs.Growing.{place-nowhere}
use Rattle.model.proofs.Declared.{named-eq, eq-named, PairDeclared, pair-declared}
use Rattle.rows.specs.Rows.{is_pair_of, number_or, PairRows}
use Rattle.rows.proofs.RowsOfAttributes.{number_small, number-injective}
use Rattle.values.specs.declared.Operand.{Operand}
use Rattle.values.specs.Operands.{Lent, lent, chosen, pair_words, row_type, attribute_operand, operand, Stands}
use Rattle.values.proofs.AttributeOperands.{no_number, in_words, in-entries}
use Rattle.values.proofs.Stands.{session-values, block-values, none-stand}
use Rattle.session.specs.Opened.{reads_pair, may_read, SessionOf}
use Rattle.session.proofs.HeldValues.{held_from, held-each, held_none, At, held_all}
use Rattle.session.proofs.Entries.{nothing-entered, entered-each, entered-values}

type-small : (t : AtomType) → (if leb (type_code t) 3 then type_code t otherwise 0) ≡ type_code t
type-small AtomType.int = refl
type-small AtomType.str = refl
type-small AtomType.bool = refl

words-eq : (a b c : ℕ) (w : Words) → a ≡ w.first → b ≡ w.second → c ≡ w.third → words a b c ≡ w
words-eq a b c w p q r = λ i. record { first = p i; second = q i; third = r i }

-- the source's number tells where the values are
held-source : (s : Source) → from_block s ≡ false → (source_code s ≡ 0 → ⊥) × (source_code s ≤ 3)
held-source Source.user e = (λ z. omega arith, omega arith)
held-source Source.object e = (λ z. omega arith, omega arith)
held-source Source.admin e = (λ z. omega arith, omega arith)
held-source Source.env e = absurd (true≢false e)
held-source Source.connect e = absurd (true≢false e)

block-source : (s : Source) → from_block s ≡ true → (source_code s ≡ 0 → ⊥) × (3 < source_code s)
block-source Source.user e = absurd (true≢false (sym e))
block-source Source.object e = absurd (true≢false (sym e))
block-source Source.admin e = absurd (true≢false (sym e))
block-source Source.env e = (λ z. omega arith, omega arith)
block-source Source.connect e = (λ z. omega arith, omega arith)

-- an entry's value has the type of its attribute, which is not str
entry-type : (t : AtomType) (v : ℕ) → same_type t AtomType.str ≡ false → eqb (type_code (type_of (entry_value t v))) (type_code t) ≡ true
entry-type AtomType.int v e = refl
entry-type AtomType.str v e = absurd (true≢false e)
entry-type AtomType.bool v e = refl

entry-atom : (t : AtomType) (v : ℕ) → v ≤ largest_int → is_atom (entry_value t v) ≡ true
entry-atom AtomType.int v h = le-leb v largest_int h
entry-atom AtomType.str v h = le-leb v largest_int h
entry-atom AtomType.bool v h = refl

-- a pair is of the attribute of that source and name
abbrev named : Source → Bytes → Pair → Bool
named s n x = same_source_and_name x.source x.name s n

-- the pairs of an attribute that is declared
module _ {D : Declarations} (declarations : WellDeclared D) (s : Source) (n : Bytes) (k : ℕ) (number : attribute_number D s n ≡ some k) where
  named-number : (x : Pair) (p : PairDeclared D x) → eqb k p.number ≡ named s n x
  named-number x p =
      same_truth (eqb k p.number) (named s n x)
      (λ e.
      let (q, r) = number-injective D x.source s x.name n k (p.number_is ∙ ap some (sym (eqb-true k p.number e))) number in
      eq-named x.source x.name s n q r)
      (λ e.
      let (q, r) = named-eq x.source x.name s n e in
      eq-eqb k p.number (some-injective k p.number (sym number ∙ sym (ap₂ (attribute_number D) q r) ∙ p.number_is)))

  pair_of : (i : ℕ) (x : Pair) → nth D.pairs i ≡ some x → is_pair_of D k i ≡ named s n x
  unfolding is_pair_of
  pair_of i x e =
      let p = pair-declared declarations i x e in
      ap (λ (o : Option Pair). o is λ q. attribute_number D q.source q.name is eqb k) e
      ∙ ap (λ (o : Option ℕ). o is eqb k) p.number_is
      ∙ named-number x p

  no-pair-of : (i : ℕ) → length D.pairs ≤ i → is_pair_of D k i ≡ false
  unfolding is_pair_of
  no-pair-of i h = ap (λ (o : Option Pair). o is λ q. attribute_number D q.source q.name is eqb k) (behind D.pairs i h)
    where
      behind : {A : Type 0} (xs : List A) (i : ℕ) → length xs ≤ i → nth xs i ≡ none
      behind [] i h = refl
      behind (x ∷ xs) zero h = absurd (omega arith)
      behind (x ∷ xs) (suc i) h = behind xs i (omega arith)

  -- words that hold those of its pairs that are in a set
  module _ (pairs : List ℕ) (pair-rows : PairRows pairs D) (eff here : ℕ → Bool) (so : (p : ℕ) → p < 256 → here p ≡ (is_pair_of D k p && eff p)) where
    pair-at : (i : ℕ) (x : Pair) → nth D.pairs i ≡ some x → At eff (named s n) here (pair_words pairs) 256 i x
    pair-at i x e =
        let p = pair-declared declarations i x e in
        let row = pair-rows.row i p.number x e p.number_is in
        let l : i < 256 = omega (arith, nth-lt D.pairs i e, pair-rows.within) in
        record {
          present = so i l ∙ ap (λ (t : Bool). t && eff i) (pair_of i x e) ∙ and_comm (named s n x) (eff i);
          valued = λ q. words-eq (get_or pairs (4 * i + 1) 0) (get_or pairs (4 * i + 2) 0) (get_or pairs (4 * i + 3) 0) (atom_words x.atom)
              row.first row.second row.third;
        }

    no-pair : (i : ℕ) → length D.pairs ≤ i → i < 256 → here i ≡ false
    no-pair i h l = so i l ∙ ap (λ (t : Bool). t && eff i) (no-pair-of i h)

    pub held-pairs : chosen here (pair_words pairs) 256 0 ≡ map atom_words (held_from eff (named s n) 0 D.pairs)
    held-pairs = held_all eff (named s n) here (pair_words pairs) 256 D.pairs pair-rows.within pair-at no-pair

module _ (S : State) (b : Block) (attributes pairs session : List ℕ) (entries : Bytes) (of : SessionOf S b attributes pairs session entries) (code : Bytes) where
  abbrev D : Declarations
  D = S.declared

  abbrev L : Lent
  L = lent code pairs session entries

  -- an attribute that is declared
  module _ (s : Source) (n : Bytes) (k : ℕ) (a : Attribute) (number : attribute_number D s n ≡ some k)
      (at : nth D.attributes k ≡ some a) (has : same_source_and_name a.source a.name s n ≡ true) where
    small : k < 32
    small = number_small D attributes of.attribute-rows s n k number

    typed-row : type_code a.type ≡ row_type attributes k
    unfolding row_type
    typed-row = sym (rw (of.attribute-rows.row k a at).type (type-small a.type))

    source_row : get_or attributes (8 * k) 0 ≡ source_code s
    source_row = (of.attribute-rows.row k a at).source ∙ ap source_code (named-eq a.source a.name s n has).0

    words-operand : from_block s ≡ false → operand (type_code a.type) 0 k 0 ≡ attribute_operand attributes k
    words-operand from =
        let (some-source, low) = held-source s from in
        let zero-not : get_or attributes (8 * k) 0 ≡ 0 → ⊥ = λ e. some-source (sym source_row ∙ e) in
        let at-most : get_or attributes (8 * k) 0 ≤ 3 = omega (arith, source_row) in
        in_words attributes k small zero-not at-most (type_code a.type) typed-row

    same-type : (x : Pair) (p : PairDeclared D x) → named s n x ≡ true → type_of x.atom ≡ a.type
    same-type x p e =
        let m : k ≡ p.number = eqb-true k p.number (named-number of.declarations s n k number x p ∙ e) in
        p.typed ∙ ap (λ (c : Attribute). c.type) (some-injective p.attribute a (sym p.attribute-is ∙ ap (nth D.attributes) (sym m) ∙ at))

    -- the bits of the attribute's words
    bits-so : (p : ℕ) → p < 256 → holds session k p ≡ (is_pair_of D k p && reads_pair S b k p s)
    unfolding may_read
    bits-so p h =
        of.opened k p small h
        ∙ ap (λ (o : Option Attribute). is_pair_of D k p && (o is λ c. reads_pair S b k p c.source)) at
        ∙ ap (λ (t : Source). is_pair_of D k p && reads_pair S b k p t) (named-eq a.source a.name s n has).0

    module _ (eff : ℕ → Bool) (reads : (p : ℕ) → reads_pair S b k p s ≡ eff p) where
      held-stand : from_block s ≡ false → Stands L (attribute_operand attributes k) (held_from eff (named s n) 0 D.pairs)
      held-stand from =
          subst (λ (o : Operand). Stands L o (held_from eff (named s n) 0 D.pairs)) (words-operand from)
          (record {
            coded = session-values L (type_code a.type) k small
                ∙ held-pairs of.declarations s n k number pairs of.pair-rows eff (holds session k) (λ p h. bits-so p h ∙ ap (λ (t : Bool). is_pair_of D k p && t) (reads p));
            typed = held-each eff (named s n) (λ x. eqb (type_code (type_of x)) (type_code a.type)) 0 D.pairs
                (λ i x e q. eq-eqb (type_code (type_of x.atom)) (type_code a.type) (ap type_code (same-type x (pair-declared of.declarations i x e) q)));
            written = held-each eff (named s n) is_atom 0 D.pairs (λ i x e q. (of.declarations.pairs.each i x e).written);
          })

    holder-stand : from_block s ≡ false → (holder : ℕ) → ((p : ℕ) → reads_pair S b k p s ≡ effective_set D S.ties holder p)
        → Stands L (attribute_operand attributes k) (held S holder s n)
    unfolding held pairs_of
    holder-stand from holder reads = held-stand (effective_set D S.ties holder) reads from

    nothing-held : (i : ℕ) (xs : List Pair) → held_from (λ p. false) (named s n) i xs ≡ []
    nothing-held i [] = refl
    nothing-held i (x ∷ xs) = nothing-held (suc i) xs

    block-stand : from_block s ≡ true → Stands L (attribute_operand attributes k) (entered S b s n)
    unfolding entered
    block-stand from =
        let (some-source, high) = block-source s from in
        let zero-not : get_or attributes (8 * k) 0 ≡ 0 → ⊥ = λ e. some-source (sym source_row ∙ e) in
        let above : 3 < get_or attributes (8 * k) 0 = omega (arith, source_row) in
        let block = of.entries-of in
        let not-str : same_type a.type AtomType.str ≡ false =
        sym (ap (λ (t : Bool). t && same_type a.type AtomType.str) (ap from_block (named-eq a.source a.name s n has).0 ∙ from)) ∙ of.declarations.attributes.typed k a at in
        subst (λ (o : Operand). Stands L o (each (λ e. given s n e.value (nth D.attributes e.attribute)) b.entries))
        (in-entries attributes k small zero-not above (type_code a.type) typed-row)
        (subst (λ (l : List _). Stands L (operand (type_code a.type) 1 k 0) (each (λ e. given s n e.value (nth D.attributes e.attribute)) l)) (sym block.are)
        (record {
          coded = block-values L (type_code a.type) k
              ∙ entered-values D.attributes s n k a at has of.declarations.attributes.unique entries block.bytes block.count block.long;
          typed = entered-each D.attributes s n k a at has of.declarations.attributes.unique entries block.bytes
              (λ x. eqb (type_code (type_of x)) (type_code a.type)) (λ v h. entry-type a.type v not-str) block.count 0;
          written = entered-each D.attributes s n k a at has of.declarations.attributes.unique entries block.bytes
              is_atom (λ v h. entry-atom a.type v h) block.count 0;
        }))

  user-stand : (n : Bytes) (k : ℕ) (a : Attribute) → attribute_number D Source.user n ≡ some k → nth D.attributes k ≡ some a
      → same_source_and_name a.source a.name Source.user n ≡ true → Stands L (attribute_operand attributes k) (user_values S b n)
  unfolding user_values
  user-stand n k a number at has =
      subst (λ (t : Option ℕ). Stands L (attribute_operand attributes k) (if t is activated b then held S b.user Source.user n otherwise [])) (sym number) (go (activated b k) refl)
    where
      go : (t : Bool) → activated b k ≡ t → Stands L (attribute_operand attributes k) (if t then held S b.user Source.user n otherwise [])
      go true e =
          holder-stand Source.user n k a number at has refl b.user (λ p. ap (λ (t : Bool). t && effective_set D S.ties b.user p) e)
      go false e =
          subst (Stands L (attribute_operand attributes k)) (nothing-held Source.user n k a number at has 0 D.pairs)
          (held-stand Source.user n k a number at has (λ p. false) (λ p. ap (λ (t : Bool). t && effective_set D S.ties b.user p) e) refl)

  -- the attribute of number k stands for what its name reads
  pub reads-number : (s : Source) (n : Bytes) (k : ℕ) → attribute_number D s n ≡ some k → Stands L (attribute_operand attributes k) (read_by S b s n)
  unfolding read_by attribute_number
  reads-number s n k number =
      let (a, at, has) = place-nth (λ c. same_source_and_name c.source c.name s n) D.attributes k number in
      go s a number at has
    where
      go : (s : Source) (a : Attribute) → attribute_number D s n ≡ some k → nth D.attributes k ≡ some a → same_source_and_name a.source a.name s n ≡ true
          → Stands L (attribute_operand attributes k) (read_by S b s n)
      go Source.user a number at has = user-stand n k a number at has
      go Source.object a number at has = holder-stand Source.object n k a number at has refl b.object (λ p. refl)
      go Source.admin a number at has = holder-stand Source.admin n k a number at has refl 0 (λ p. refl)
      go Source.env a number at has = block-stand Source.env n k a number at has refl
      go Source.connect a number at has = block-stand Source.connect n k a number at has refl

  -- a name that is not declared reads nothing
  module _ (s : Source) (n : Bytes) (number : attribute_number D s n ≡ none) where
    unnamed : (i : ℕ) (c : Attribute) → nth D.attributes i ≡ some c → same_source_and_name c.source c.name s n ≡ false
    unfolding attribute_number
    unnamed = place-nowhere (λ c. same_source_and_name c.source c.name s n) D.attributes number

    unnamed-pair : (i : ℕ) (x : Pair) → nth D.pairs i ≡ some x → same_source_and_name x.source x.name s n ≡ false
    unnamed-pair i x e = go (same_source_and_name x.source x.name s n) refl
      where
        go : (t : Bool) → same_source_and_name x.source x.name s n ≡ t → same_source_and_name x.source x.name s n ≡ false
        go false q = q
        go true q =
            let p = pair-declared of.declarations i x e in
            let (u, v) = named-eq x.source x.name s n q in
            none-is-some (sym number ∙ sym (ap₂ (attribute_number D) u v) ∙ p.number_is)

    held-nowhere : (holder : ℕ) → held S holder s n ≡ []
    unfolding held pairs_of
    held-nowhere holder = held_none (effective_set D S.ties holder) (λ x. same_source_and_name x.source x.name s n) 0 D.pairs unnamed-pair

    entered-nowhere : entered S b s n ≡ []
    unfolding entered
    entered-nowhere = nothing-entered D.attributes s n unnamed b.entries

  pub reads_nothing : (s : Source) (n : Bytes) → attribute_number D s n ≡ none → read_by S b s n ≡ []
  unfolding read_by user_values
  reads_nothing Source.user n e = ap (λ (t : Option ℕ). if t is activated b then held S b.user Source.user n otherwise []) e
  reads_nothing Source.object n e = held-nowhere Source.object n e b.object
  reads_nothing Source.admin n e = held-nowhere Source.admin n e 0
  reads_nothing Source.env n e = entered-nowhere Source.env n e
  reads_nothing Source.connect n e = entered-nowhere Source.connect n e

  -- so the number that rule code has for a name stands for what the name reads: `unknown` is any number of no attribute
  pub reads-name : (unknown : ℕ) → 32 ≤ unknown → (s : Source) (n : Bytes)
      → Stands L (attribute_operand attributes (number_or unknown (attribute_number D s n))) (read_by S b s n)
  reads-name unknown h s n = go (attribute_number D s n) refl
    where
      go : (o : Option ℕ) → attribute_number D s n ≡ o → Stands L (attribute_operand attributes (number_or unknown o)) (read_by S b s n)
      go (some k) e = reads-number s n k e
      go none e =
          subst (Stands L (attribute_operand attributes unknown)) (sym (reads_nothing s n e))
          (subst (λ (o : Operand). Stands L o []) (no_number attributes unknown h) (none-stand L))
