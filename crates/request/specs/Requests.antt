-- What is lent for a request, and what its tests say. Assumes nothing: these are definitions.
use Rattle.std.specs.Prelude.{ℕ, ◌+◌, ◌*◌, ◌<◌, ◌≡◌, Bool, false, List, length}
use Rattle.std.proofs.Math.Option.{none, some}
use Rattle.model.specs.Notation.{if◌then◌otherwise◌, ◌is◌, all_of, nth}
use Rattle.model.specs.Limits.{pair_limit, entry_bytes}
use Rattle.model.specs.Bytes.{Bytes, same}
use Rattle.model.specs.Truth.{FALSE}
use Rattle.model.specs.Declarations.{Declarations}
use Rattle.model.specs.State.{State}
use Rattle.model.specs.Block.{Block, read_block, entries_of}
use Rattle.model.specs.Session.{read_by}
use Rattle.model.specs.Refusals.{entry_fits, wrong_number}
use Rattle.model.specs.Standing.{WellDeclared}
use Rattle.rows.specs.Rows.{AttributeRows, PairRows}
use Rattle.session.specs.Entries.{EntriesOf}
use Rattle.session.specs.Opened.{SessionOf}
use Rattle.session.specs.Words.{SetsOf}
use Rattle.truth.specs.declared.verdict.Verdict as code
use Rattle.truth.specs.Verdicts.{Verdict, verdict, verdict_of, rule_verdict}
use Rattle.index.specs.Index.{chains}
use Rattle.book.specs.Sections as section
use Rattle.book.specs.Sections.{Section}
use Rattle.book.specs.Held.{CountsOf, SortRows, RuleRows}

-- the rows of pairs stand in the section of their index, behind its chains
abbrev pub pair_rows : Section
pair_rows = record { start = (section.pairs).start + (chains + pair_limit); size = 4 * pair_limit }

-- r tells whether an entry of attribute k and that value is one, whatever declarations the rows are those of
abbrev pub EntryFits : List ℕ → ℕ → ℕ → Bool → Type 0
EntryFits rows k value r = (D : Declarations) → AttributeRows rows D → r ≡ entry_fits D (record { attribute = k; value = value })

-- r tells whether each of the entries is one
abbrev pub EntriesFit : List ℕ → Bytes → Bool → Type 0
EntriesFit rows entries r =
    (D : Declarations) → AttributeRows rows D → (n : ℕ) → length entries ≡ entry_bytes * n → r ≡ all_of (entry_fits D) (entries_of n entries)

-- the numbers of a block are looked up in these sections, its entries are these bytes
pub record NumbersOf (D : Declarations) (b : Block) (counts sorts attributes : List ℕ) (block entries : Bytes) : Type 0 where
  pub read : read_block block ≡ some b
  pub counts-are : CountsOf counts D
  pub sort-rows : SortRows sorts D
  pub attribute-rows : AttributeRows attributes D
  pub entries-of : EntriesOf b entries

-- "16: unknown or wrong-sort number, entry not env or connect, bool above 1"
abbrev pub WrongNumber : List ℕ → List ℕ → List ℕ → Bytes → Bytes → Bool → Type 0
WrongNumber counts sorts attributes block entries r =
    (D : Declarations) (b : Block) → NumbersOf D b counts sorts attributes block entries → r ≡ wrong_number D b

-- the verdict on rule k for a request; FALSE, which decides nothing, where it is no rule of the operation
unfoldable pub verdict_on : State → Block → ℕ → Verdict
verdict_on S b k =
    elim (nth S.declared.rules k) [
      | none ↦ verdict FALSE false
      | some r ↦ if nth S.declared.operations b.operation is same r.operation then rule_verdict (read_by S b) r.tokens otherwise verdict FALSE false
    ]

-- the rules, each with the operation that it is for, its target, and what they read
pub record RulesOf (S : State) (b : Block) (targets : List ℕ) (code : Bytes) (attributes pairs session : List ℕ) (entries : Bytes) (operation : ℕ) : Type 0 where
  pub operation-is : b.operation ≡ operation
  pub rule-rows : RuleRows targets code S.declared
  pub session-of : SessionOf S b attributes pairs session entries

-- r is the verdict on rule k, whatever rows of attributes the session is that of
abbrev pub RuleTold : List ℕ → Bytes → List ℕ → List ℕ → Bytes → ℕ → ℕ → code.Verdict → Type 0
RuleTold targets code pairs session entries operation k r =
    (S : State) (b : Block) (attributes : List ℕ) → RulesOf S b targets code attributes pairs session entries operation → k < length S.declared.rules
    → verdict_of r ≡ verdict_on S b k

-- what is lent for a request, of a state and a block
pub record RequestOf (S : State) (b : Block) (counts targets : List ℕ) (code : Bytes) (attributes pairs table : List ℕ) (block entries : Bytes) : Type 0 where
  pub read : read_block block ≡ some b
  pub counts-are : CountsOf counts S.declared
  pub declarations : WellDeclared S.declared
  pub attribute-rows : AttributeRows attributes S.declared
  pub pair-rows : PairRows pairs S.declared
  pub rule-rows : RuleRows targets code S.declared
  pub sets : SetsOf S b table
  pub entries-of : EntriesOf b entries
