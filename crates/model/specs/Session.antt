-- The values that each attribute has for a request.
use Rattle.std.specs.Prelude.{ℕ, List, [], ◌∷◌, eqb}
use Rattle.std.proofs.Math.Option.{Option, none, some}
use Rattle.model.specs.Notation.{if◌then◌otherwise◌, ◌is◌, map, each, filter, numbered, nth}
use Rattle.model.specs.Bytes.{Bytes}
use Rattle.model.specs.Attributes.{Source, AtomType}
use Rattle.model.specs.Atoms.{Atom}
use Rattle.model.specs.Declarations.{Attribute, Pair, same_source_and_name, attribute_number}
use Rattle.model.specs.Table.{effective_set}
use Rattle.model.specs.State.{State}
use Rattle.model.specs.Block.{Block, activated}
use Rattle.model.specs.Meaning.{Values}

-- the effective pairs of holder k
unfoldable pub pairs_of : State → ℕ → List Pair
pairs_of S k = map (λ (p, pair). pair) (filter (λ (p, pair). effective_set S.declared S.ties k p) (numbered S.declared.pairs))

-- the values that holder k has of an attribute
unfoldable pub held : State → ℕ → Source → Bytes → List Atom
held S k s n = map (λ pair. pair.atom) (filter (λ pair. same_source_and_name pair.source pair.name s n) (pairs_of S k))

-- "a 32-bit value … (bool 0 or 1)"; "env and connect are never str", so the clause for str is never met
abbrev pub entry_value : AtomType → ℕ → Atom
entry_value AtomType.int v = Atom.int v
entry_value AtomType.str v = Atom.int v
entry_value AtomType.bool v = Atom.bool (eqb v 1)

-- the value of an entry, where its attribute has that SRC and NAME; else nothing
abbrev pub given : Source → Bytes → ℕ → Option Attribute → List Atom
given s n v none = []
given s n v (some a) = if same_source_and_name a.source a.name s n then entry_value a.type v ∷ [] otherwise []

-- "Repeated attributes form a set"
unfoldable pub entered : State → Block → Source → Bytes → List Atom
entered S b s n = each (λ e. given s n e.value (nth S.declared.attributes e.attribute)) b.entries

-- "`user.` names read the user's effective values of activated attributes only …, each with all its values"
unfoldable pub user_values : State → Block → Bytes → List Atom
user_values S b n =
    if attribute_number S.declared Source.user n is activated b then held S b.user Source.user n otherwise []

-- "`object.` and `admin.` read those holders' sets, `env.` and `connect.` the entries"
unfoldable pub read_by : State → Block → Values
read_by S b Source.user n = user_values S b n
read_by S b Source.object n = held S b.object Source.object n
read_by S b Source.admin n = held S 0 Source.admin n
read_by S b Source.env n = entered S b Source.env n
read_by S b Source.connect n = entered S b Source.connect n
