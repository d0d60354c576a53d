-- A session: what the rules of a state and a pass block may read.
use Rattle.std.specs.Prelude.{ℕ, ◌<◌, ◌≡◌, Bool, false, ◌&&◌, List}
use Rattle.model.specs.Notation.{nth, ◌is◌}
use Rattle.model.specs.Limits.{attribute_limit, pair_limit}
use Rattle.model.specs.Bytes.{Bytes}
use Rattle.model.specs.Attributes.{Source}
use Rattle.model.specs.Table.{effective_set}
use Rattle.model.specs.State.{State}
use Rattle.model.specs.Block.{Block, activated}
use Rattle.bits.specs.Bits.{holds}
use Rattle.model.specs.Standing.{WellDeclared}
use Rattle.rows.specs.Rows.{is_pair_of, AttributeRows, PairRows}
use Rattle.session.specs.Entries.{EntriesOf}

-- whether the set that names of a source read has pair p: "the user's effective values of activated attributes only", the object's, admin's
abbrev pub reads_pair : State → Block → ℕ → ℕ → Source → Bool
reads_pair S b k p Source.user = activated b k && effective_set S.declared S.ties b.user p
reads_pair S b k p Source.object = effective_set S.declared S.ties b.object p
reads_pair S b k p Source.admin = effective_set S.declared S.ties 0 p
reads_pair S b k p Source.env = false
reads_pair S b k p Source.connect = false

-- pair p is one of attribute k, and rules may read it
unfoldable pub may_read : State → Block → ℕ → ℕ → Bool
may_read S b k p = is_pair_of S.declared k p && (nth S.declared.attributes k is λ a. reads_pair S b k p a.source)

-- the four words of each attribute are those of the pairs that rules may read
abbrev pub Opened : State → Block → List ℕ → Type 0
Opened S b session = (k p : ℕ) → k < attribute_limit → p < pair_limit → holds session k p ≡ may_read S b k p

-- rows, session and entries are those of a state and a block
pub record SessionOf (S : State) (b : Block) (attributes pairs session : List ℕ) (entries : Bytes) : Type 0 where
  pub declarations : WellDeclared S.declared
  pub attribute-rows : AttributeRows attributes S.declared
  pub pair-rows : PairRows pairs S.declared
  pub opened : Opened S b session
  pub entries-of : EntriesOf b entries
