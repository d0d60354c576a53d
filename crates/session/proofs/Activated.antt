-- Refusal 17, read off the table. Assumes nothing.
use Prim.Native.Nat.{ℕ, zero, suc, ◌+◌, ◌-◌, ◌*◌, ◌<◌}
use native.Mathlib.Omega.{arith}
use mathlib.Core.Path.{◌≡◌, refl, sym, ap, ap₂, ◌∙◌}
use mathlib.Core.Bool.{Bool, true, false, not, ◌&&◌, and_comm, true≢false}
use mathlib.Core.List.{List, [], ◌∷◌, ◌++◌}
use mathlib.Core.Option.{Option, none, some}
use lib.Dec.{eqb, ltb}
use lib.ListN.{length, get_or}
use borrow.Author.Tests.{lt-ltb}
use Rattle.model.specs.Notation.{◌is◌, is_empty, any_of, map, filter, below, nth}
use Rattle.model.specs.Attributes.{Source, same_source}
use Rattle.model.specs.Declarations.{Declarations, Attribute, same_source_and_name, attribute_number}
use Rattle.model.specs.State.{State}
use Rattle.model.specs.Block.{Block, activated}
use Rattle.model.specs.Table.{effective_set}
use Rattle.model.specs.Session.{pairs_of, held}
use Rattle.model.specs.Standing.{WellDeclared}
use Rattle.model.specs.Refusals.{is_held, not_held}
use Rattle.model.proofs.Lists.{any-ext, in-below}
use Rattle.bits.specs.Bits.{bit, any_below}
use Rattle.codes.specs.Codes.{source_code}
use Rattle.text.specs.declared.Words.{Words}
use Rattle.text.specs.Values.{atom_words}
use Rattle.rows.specs.Rows.{AttributeRows, PairRows, masked, is_pair_of}
use Rattle.rows.proofs.FirstPlaces.{place-first}
use Rattle.model.proofs.Declared.{eq-named}
use Rattle.values.specs.Operands.{up_from, chosen, pair_words}
use Rattle.session.specs.Words.{in_table, SetOf, held_in, unheld_in}
use Rattle.session.proofs.Opens.{its-set, mask-bit, no-attribute}
use Rattle.session.proofs.NamedOperands.{held-pairs}

-- lists
up-last : (k n : ℕ) → up_from k (suc n) ≡ up_from k n ++ (k + n) ∷ []
up-last k zero = let e : k ≡ k + 0 = omega arith in ap (λ (m : ℕ). m ∷ []) e
up-last k (suc n) =
    let e : suc k + n ≡ k + suc n = omega arith in
    ap (λ (l : List ℕ). k ∷ l) (up-last (suc k) n) ∙ ap (λ (m : ℕ). k ∷ (up_from (suc k) n ++ m ∷ [])) e

below_up : (n : ℕ) → below n ≡ up_from 0 n
below_up zero = refl
below_up (suc n) = let e : n ≡ 0 + n = omega arith in ap₂ (λ (l : List ℕ) (m : ℕ). l ++ m ∷ []) (below_up n) e ∙ sym (up-last 0 n)

some-filtered : (p : ℕ → Bool) (f : ℕ → Words) (l : List ℕ) → any_of p l ≡ not (is_empty (map f (filter p l)))
some-filtered p f [] = refl
some-filtered p f (x ∷ l) = go (p x) (some-filtered p f l)
  where
    go : (t : Bool) → any_of p l ≡ not (is_empty (map f (filter p l)))
        → (elim t as (λ _. Bool) [ true ↦ true | false ↦ any_of p l ])
        ≡ not (is_empty (map f (elim t as (λ _. List ℕ) [ true ↦ x ∷ filter p l | false ↦ filter p l ])))
    go true e = refl
    go false e = e

some-chosen : (p : ℕ → Bool) (f : ℕ → Words) (top : ℕ) → any_below top p ≡ not (is_empty (chosen p f top 0))
unfolding any_below chosen
some-chosen p f top =
    let d : top - 0 ≡ top = omega arith in
    ap (any_of p) (below_up top) ∙ some-filtered p f (up_from 0 top) ∙ sym (ap (λ (n : ℕ). not (is_empty (map f (filter p (up_from 0 n))))) d)

some_mapped : {A B : Type 0} (f : A → B) (l : List A) → not (is_empty (map f l)) ≡ ltb 0 (length l)
some_mapped f [] = refl
some_mapped f (x ∷ l) = sym (lt-ltb 0 (length (x ∷ l)) (omega arith))

user-source : (s : Source) → eqb (source_code s) 1 ≡ same_source s Source.user
user-source Source.user = refl
user-source Source.object = refl
user-source Source.admin = refl
user-source Source.env = refl
user-source Source.connect = refl

is-user : (s : Source) → same_source s Source.user ≡ true → s ≡ Source.user
is-user Source.user e = refl
is-user Source.object e = absurd (true≢false (sym e))
is-user Source.admin e = absurd (true≢false (sym e))
is-user Source.env e = absurd (true≢false (sym e))
is-user Source.connect e = absurd (true≢false (sym e))

module _ (S : State) (b : Block) (attributes pairs table : List ℕ) (declarations : WellDeclared S.declared)
    (attribute-rows : AttributeRows attributes S.declared) (pair-rows : PairRows pairs S.declared) (user-set : SetOf S table b.user) where
  abbrev D : Declarations
  D = S.declared

  module _ (k : ℕ) (small : k < 32) where
    abbrev here : ℕ → Bool
    here p = in_table table b.user p && masked attributes k p

    -- a user attribute has the number of its place
    number-so : (a : Attribute) → nth D.attributes k ≡ some a → attribute_number D a.source a.name ≡ some k
    unfolding attribute_number
    number-so a at =
        place-first (λ c. same_source_and_name c.source c.name a.source a.name) D.attributes k a at
        (eq-named a.source a.name a.source a.name refl refl) (λ i c l e. other i c l e (same_source_and_name c.source c.name a.source a.name) refl)
      where
        other : (i : ℕ) (c : Attribute) → i < k → nth D.attributes i ≡ some c
            → (t : Bool) → same_source_and_name c.source c.name a.source a.name ≡ t → same_source_and_name c.source c.name a.source a.name ≡ false
        other i c l e false q = q
        other i c l e true q = let z = declarations.attributes.unique i k c a e at q in absurd (omega arith)

    -- the pairs of the attribute in the user's set
    here-so : (p : ℕ) → p < 256 → here p ≡ (is_pair_of D k p && effective_set D S.ties b.user p)
    here-so p h =
        ap₂ (λ (t u : Bool). t && u) (its-set S table b.user p user-set h) (attribute-rows.mask k p small h)
        ∙ and_comm (effective_set D S.ties b.user p) (is_pair_of D k p)

    held-so : (a : Attribute) → nth D.attributes k ≡ some a → a.source ≡ Source.user → any_below 256 here ≡ ltb 0 (length (held S b.user Source.user a.name))
    unfolding held pairs_of
    held-so a at user =
        let number : attribute_number D Source.user a.name ≡ some k = ap (λ (s : Source). attribute_number D s a.name) (sym user) ∙ number-so a at in
        some-chosen here (pair_words pairs) 256
        ∙ ap (λ (l : List Words). not (is_empty l))
        (held-pairs declarations Source.user a.name k number pairs pair-rows (effective_set D S.ties b.user) here here-so)
        ∙ some_mapped atom_words (held S b.user Source.user a.name)

    held-attribute : held_in attributes table b.user k ≡ is_held S b k
    unfolding held_in is_held
    held-attribute = go (nth D.attributes k) refl
      where
        known : (a : Attribute) → nth D.attributes k ≡ some a → (t : Bool) → same_source a.source Source.user ≡ t
            → (t && any_below 256 here) ≡ (t && ltb 0 (length (held S b.user Source.user a.name)))
        known a at true e = held-so a at (is-user a.source e)
        known a at false e = refl

        go : (o : Option Attribute) → nth D.attributes k ≡ o
            → (eqb (get_or attributes (8 * k) 0) 1 && any_below 256 here)
            ≡ (o is λ a. same_source a.source Source.user && ltb 0 (length (held S b.user Source.user a.name)))
        go (some a) at =
            ap (λ (t : Bool). t && any_below 256 here) (ap (λ (n : ℕ). eqb n 1) (attribute-rows.row k a at).source ∙ user-source a.source)
            ∙ known a at (same_source a.source Source.user) refl
        go none at = ap (λ (n : ℕ). eqb n 1 && any_below 256 here) (attribute-rows.other k (no-attribute D.attributes k at) small)

  pub unheld-so : unheld_in attributes table b.user b.mask ≡ not_held S b
  unfolding not_held any_below
  unheld-so =
      any-ext (λ k. bit b.mask k && not (held_in attributes table b.user k)) (λ k. activated b k && not (is_held S b k)) (below 32)
      (λ k m. ap₂ (λ (t u : Bool). t && not u) (mask-bit b k) (held-attribute k (in-below 32 m)))
