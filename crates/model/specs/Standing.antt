-- Not from document 01: what theorems and contracts say of every state that calls leave, as each accepted line and edit made sure of it. Such a state
-- stands; document 01 says so of ties alone.
use Rattle.std.specs.Prelude.{ℕ, suc, ◌≤◌, ◌≡◌, Bool, true, false, ◌&&◌, List, [], ◌∷◌, length, ltb}
use Rattle.std.proofs.Math.Option.{Option, some}
use Rattle.model.specs.Notation.{is_none, any_of, all_of, nth}
use Rattle.model.specs.Limits.{attribute_limit, operation_limit, pair_limit, holder_numbers, group_limit, rule_limit}
use Rattle.model.specs.Bytes.{Bytes, bytes, same}
use Rattle.model.specs.Names.{is_name}
use Rattle.model.specs.Attributes.{AtomType, from_block, same_type}
use Rattle.model.specs.Atoms.{type_of, is_atom, same_atom}
use Rattle.model.specs.Tokens.{is_token}
use Rattle.model.specs.Grammar.{Policy, read_policy, too_large}
use Rattle.model.specs.Declarations.{Declarations, Attribute, Pair, Holder, Rule, Sort, same_source_and_name, attribute_of, operation_number, holder_of, is_holder, sort_of, holder_numbers_of, groups, is_sort, source_for, parent_sort, group_sort}
use Rattle.model.specs.Ties.{Tie, Ties, edited_holder, Acyclic}
use Rattle.model.specs.State.{State}
use Rattle.model.specs.Refusals.{unknown_name}

-- each thing of a list is so; no two of them are the same
abbrev pub Each : {A : Type 0} → (A → Type 0) → List A → Type 0
Each {A} P xs = (i : ℕ) (x : A) → nth xs i ≡ some x → P x

abbrev pub Unique : {A : Type 0} → (A → A → Bool) → List A → Type 0
Unique {A} alike xs = (i j : ℕ) (x y : A) → nth xs i ≡ some x → nth xs j ≡ some y → alike x y ≡ true → i ≡ j

-- numbers rise along a list
abbrev pub rising : {A : Type 0} → (A → ℕ) → List A → Bool
rising number [] = true
rising number (x ∷ xs) = all_of (λ y. ltb (number x) (number y)) xs && rising number xs

-- attr: "env and connect are never str. At most 32 … Unique by SRC and NAME"
pub record AttributesStand (attributes : List Attribute) : Type 0 where
  pub named : Each (λ a. is_name a.name ≡ true) attributes
  pub typed : Each (λ a. (from_block a.source && same_type a.type AtomType.str) ≡ false) attributes
  pub unique : Unique (λ a b. same_source_and_name a.source a.name b.source b.name) attributes
  pub few : length attributes ≤ attribute_limit

-- op: "at most 8"
pub record OperationsStand (operations : List Bytes) : Type 0 where
  pub named : Each (λ n. is_name n ≡ true) operations
  pub unique : Unique same operations
  pub few : length operations ≤ operation_limit

-- atom: "a pair of a user, object or admin attribute and a value of its type. At most 256"
pub record PairStands (D : Declarations) (p : Pair) : Type 0 where
  pub attribute : Attribute
  pub declared : attribute_of D p.source p.name ≡ some attribute
  pub typed : attribute.type ≡ type_of p.atom
  pub of-holders : from_block p.source ≡ false
  pub written : is_atom p.atom ≡ true

-- all pairs
pub record PairsStand (D : Declarations) : Type 0 where
  pub each : Each (PairStands D) D.pairs
  pub unique : Unique (λ p q. same_source_and_name p.source p.name q.source q.name && same_atom p.atom q.atom) D.pairs
  pub few : length D.pairs ≤ pair_limit

-- holders: "Holder 0 is `admin`, always there. Others are numbered from 1 …, at most 255, of which at most 64 groups … Names are unique". In the second
-- edition at most 1,023
pub record HoldersStand (D : Declarations) : Type 0 where
  pub ordered : rising (λ h. h.number) D.holders ≡ true
  pub gapless : (k : ℕ) → is_holder D k ≡ ltb k (length D.holders)
  pub admin-first : holder_of D 0 ≡ some (record { number = 0; sort = Sort.admin; name = bytes "admin" })
  pub others : (k : ℕ) (h : Holder) → holder_of D (suc k) ≡ some h → is_sort h.sort Sort.admin ≡ false
  pub named : (k : ℕ) (h : Holder) → holder_of D k ≡ some h → is_name h.name ≡ true
  pub unique : (j k : ℕ) (g h : Holder) → holder_of D j ≡ some g → holder_of D k ≡ some h → same g.name h.name ≡ true → j ≡ k
  pub few : length (holder_numbers_of D) ≤ holder_numbers D.edition
  pub few-groups : groups D ≤ group_limit

-- rule: the operation is declared, the tokens are those of a policy within the limits, and its names are declared. "at most 32"
pub record RuleStands (D : Declarations) (r : Rule) : Type 0 where
  pub operation-declared : is_none (operation_number D r.operation) ≡ false
  pub written : all_of is_token r.tokens ≡ true
  pub policy : Policy
  pub reads : read_policy r.tokens ≡ some policy
  pub within : too_large policy ≡ false
  pub names-declared : any_of (unknown_name D) r.tokens ≡ false

-- all rules
pub record RulesStand (D : Declarations) : Type 0 where
  pub each : Each (RuleStands D) D.rules
  pub few : length D.rules ≤ rule_limit

-- all that is declared
pub record WellDeclared (D : Declarations) : Type 0 where
  pub attributes : AttributesStand D.attributes
  pub operations : OperationsStand D.operations
  pub pairs : PairsStand D
  pub holders : HoldersStand D
  pub rules : RulesStand D

-- two holders of fitting sorts, by the rule of which sort stands above which: so a group has no member tie, a user or object no parent tie
pub record SortsFit (above : Sort → Option Sort) (D : Declarations) (lower upper : ℕ) : Type 0 where
  pub lower-sort : Sort
  pub upper-sort : Sort
  pub lower-is : sort_of D lower ≡ some lower-sort
  pub upper_is : sort_of D upper ≡ some upper-sort
  pub one-above : above lower-sort ≡ some upper-sort

-- a holder and a declared pair of the source that the holder's sort fixes
pub record PairFits (D : Declarations) (h p : ℕ) : Type 0 where
  pub sort : Sort
  pub pair : Pair
  pub sort-is : sort_of D h ≡ some sort
  pub pair_is : nth D.pairs p ≡ some pair
  pub source_is : pair.source ≡ source_for sort

-- a tie is between declared holders and pairs
abbrev pub TieFits : Declarations → Tie → Type 0
TieFits D (Tie.parent c g) = SortsFit parent_sort D c g
TieFits D (Tie.member p g) = SortsFit group_sort D p g
TieFits D (Tie.value h p) = PairFits D h p

-- the state
pub record Standing (S : State) : Type 0 where
  pub declarations : WellDeclared S.declared
  pub ties-fit : (t : Tie) → S.ties t ≡ true → TieFits S.declared t
  pub acyclic : Acyclic S.ties

-- T and U differ in ties of the holder e alone
abbrev pub DifferAt : ℕ → Ties → Ties → Type 0
DifferAt e T U = (t : Tie) → (edited_holder t ≡ e → ⊥) → U t ≡ T t
