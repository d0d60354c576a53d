-- The values that an attribute has in a session have one type, in every state that calls leave: so the type of a comparison's operand is that of its
-- first value. Assumes nothing.
use Prim.Native.Nat.{ℕ}
use mathlib.Core.Path.{◌≡◌, refl, sym, ap, ap₂, ◌∙◌}
use mathlib.Core.Logic.{⊎_elim}
use mathlib.Core.Bool.{Bool, true, false}
use mathlib.Core.List.Memᴰ
use mathlib.Core.List.Memᴰ.{head as here}
use mathlib.Core.List.Memᴰ.{tail as there}
use mathlib.Core.List.{List, [], ◌∷◌}
use mathlib.Core.Option.{Option, none, some}
use Rattle.model.specs.Notation.{if◌then◌otherwise◌, ◌>>=◌, ◌is◌, all_of, place, nth, numbered, each}
use Rattle.model.specs.Bytes.{Bytes}
use Rattle.model.specs.Attributes.{Source, AtomType, type_word, same_type}
use Rattle.model.specs.Atoms.{Atom, type_of}
use Rattle.model.specs.Grammar.{one_type}
use Rattle.model.specs.Declarations.{Declarations, Attribute, Pair, same_source_and_name, attribute_number, attribute_of}
use Rattle.model.specs.Table.{effective_set}
use Rattle.model.specs.State.{State}
use Rattle.model.specs.Block.{Block, Entry, activated}
use Rattle.model.specs.Session.{pairs_of, held, entry_value, given, entered, user_values, read_by}
use Rattle.model.specs.Standing.{WellDeclared, Standing}
use Rattle.model.proofs.WordTables.{same_refl, false-is-true}
use Rattle.model.proofs.Lists.{◌∈◌, all_cons, in-filter, in_map, in-numbered, place-nth}
use Rattle.model.proofs.Growing.{place-nowhere}
use Rattle.model.proofs.Declared.{named-eq, eq-named}

all_in : {A : Type 0} (p : A → Bool) (xs : List A) → ((x : A) → x ∈ xs → p x ≡ true) → all_of p xs ≡ true
all_in p [] f = refl
all_in p (x ∷ xs) f = all_cons p x xs (f x (here refl)) (all_in p xs (λ y m. f y (there m)))

one-type-of : (t : AtomType) (l : List Atom) → ((a : Atom) → a ∈ l → type_of a ≡ t) → one_type l ≡ true
one-type-of t [] f = refl
one-type-of t (a ∷ l) f = all_in (λ b. same_type (type_of a) (type_of b)) l (λ b m. ap₂ same_type (f a (here refl)) (f b (there m)) ∙ same_refl (type_word t))

-- the type of an attribute that is declared
type_for : Option Attribute → AtomType
type_for none = AtomType.int
type_for (some a) = a.type

-- a holder's values: each is of a pair of that attribute
held-type : {S : State} → Standing S → (k : ℕ) (s : Source) (n : Bytes) (a : Atom) → a ∈ held S k s n → type_of a ≡ type_for (attribute_of S.declared s n)
unfolding held pairs_of type_for
held-type {S} standing k s n a m =
    let D = S.declared in
    let x = in_map (λ (pair : Pair). pair.atom) _ m in
    let named = in-filter (λ (pair : Pair). same_source_and_name pair.source pair.name s n) _ x.1 in
    let v = in_map (λ ((p, pair) : ℕ × Pair). pair) _ named.0 in
    let at = in-numbered 0 D.pairs (in-filter (λ ((p, pair) : ℕ × Pair). effective_set D S.ties k p) (numbered D.pairs) v.1).0 in
    let stands = standing.declarations.pairs.each at.0 v.0.1 at.2 in
    let told = named-eq x.0.source x.0.name s n named.1 in
    let declared : attribute_of D s n ≡ some stands.attribute = ap₂ (attribute_of D) (sym told.0 ∙ ap (λ (p : Pair). p.source) v.2) (sym told.1 ∙ ap (λ (p : Pair). p.name) v.2) ∙ stands.declared in
    ap type_of (x.2 ∙ ap (λ (p : Pair). p.atom) v.2) ∙ sym stands.typed ∙ ap type_for (sym declared)

-- an attribute that is so named is the one that is found by that source and name
named-found : {D : Declarations} → WellDeclared D → (s : Source) (n : Bytes) (i : ℕ) (c : Attribute) → nth D.attributes i ≡ some c
    → same_source_and_name c.source c.name s n ≡ true → attribute_of D s n ≡ some c
unfolding attribute_of attribute_number
named-found {D} well s n i c at named = go (place so D.attributes) refl
  where
    so : Attribute → Bool
    so a = same_source_and_name a.source a.name s n

    go : (o : Option ℕ) → place so D.attributes ≡ o → (o >>= nth D.attributes) ≡ some c
    go none e = false-is-true (sym (place-nowhere so D.attributes e i c at) ∙ named)
    go (some j) e =
        let x = place-nth so D.attributes j e in
        let p = named-eq x.0.source x.0.name s n x.2 in
        let q = named-eq c.source c.name s n named in
        let k : j ≡ i = well.attributes.unique j i x.0 c x.1 at (eq-named x.0.source x.0.name c.source c.name (p.0 ∙ sym q.0) (p.1 ∙ sym q.1)) in
        ap (nth D.attributes) k ∙ at

entry-type : (t : AtomType) (v : ℕ) → type_of (entry_value t v) ≡ type_of (entry_value t 0)
entry-type AtomType.int v = refl
entry-type AtomType.str v = refl
entry-type AtomType.bool v = refl

in-each : {A B : Type 0} (f : A → List B) (xs : List A) {y : B} → y ∈ each f xs → (x : A) × (y ∈ f x)
in-each f [] m = elim m [ ]
in-each f (x ∷ xs) m = ⊎_elim (λ l. (x, l)) (λ r. in-each f xs r) (Memᴰ.append_cases (f x) m)

-- an entry's value is of that attribute
given-type : {D : Declarations} → WellDeclared D → (s : Source) (n : Bytes) (v i : ℕ) (a : Atom) → a ∈ given s n v (nth D.attributes i)
    → type_of a ≡ type_of (entry_value (type_for (attribute_of D s n)) 0)
unfolding type_for
given-type {D} well s n v i a m = go (nth D.attributes i) refl m
  where
    named : (c : Attribute) → nth D.attributes i ≡ some c → (t : Bool) → same_source_and_name c.source c.name s n ≡ t
        → a ∈ (if t then entry_value c.type v ∷ [] otherwise []) → type_of a ≡ type_of (entry_value (type_for (attribute_of D s n)) 0)
    named c at false e m = elim m [ ]
    named c at true e m =
        ap type_of (Memᴰ.eq_of_singleton m) ∙ entry-type c.type v
        ∙ ap (λ (o : Option Attribute). type_of (entry_value (type_for o) 0)) (sym (named-found well s n i c at e))

    go : (o : Option Attribute) → nth D.attributes i ≡ o → a ∈ given s n v o → type_of a ≡ type_of (entry_value (type_for (attribute_of D s n)) 0)
    go none e m = elim m [ ]
    go (some c) e m = named c e (same_source_and_name c.source c.name s n) refl m

held_one : {S : State} → Standing S → (k : ℕ) (s : Source) (n : Bytes) → one_type (held S k s n) ≡ true
held_one {S} standing k s n = one-type-of (type_for (attribute_of S.declared s n)) (held S k s n) (held-type standing k s n)

entered-one : {S : State} → Standing S → (b : Block) (s : Source) (n : Bytes) → one_type (entered S b s n) ≡ true
unfolding entered
entered-one {S} standing b s n =
    one-type-of (type_of (entry_value (type_for (attribute_of S.declared s n)) 0)) (entered S b s n)
    (λ a m.
    let e = in-each (λ (e : Entry). given s n e.value (nth S.declared.attributes e.attribute)) b.entries m in
    given-type standing.declarations s n e.0.value e.0.attribute a e.1)

-- whatever the block
pub read-of-one-type : {S : State} → Standing S → (b : Block) (s : Source) (n : Bytes) → one_type (read_by S b s n) ≡ true
unfolding read_by user_values
read-of-one-type {S} standing b Source.user n = go (attribute_number S.declared Source.user n is activated b)
  where
    go : (t : Bool) → one_type (if t then held S b.user Source.user n otherwise []) ≡ true
    go true = held_one standing b.user Source.user n
    go false = refl
read-of-one-type standing b Source.object n = held_one standing b.object Source.object n
read-of-one-type standing b Source.admin n = held_one standing 0 Source.admin n
read-of-one-type standing b Source.env n = entered-one standing b Source.env n
read-of-one-type standing b Source.connect n = entered-one standing b Source.connect n
