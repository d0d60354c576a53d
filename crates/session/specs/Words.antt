-- The words of a session, by the rows of attributes and the table.
use Rattle.std.specs.Prelude.{ℕ, ◌*◌, ◌/◌, ◌<◌, ◌≡◌, Bool, not, ◌&&◌, List, eqb, ltb, length, get_or}
use Rattle.std.proofs.Math.Option.{Option, some}
use Rattle.model.specs.Notation.{if◌then◌otherwise◌, ◌is◌, only_if}
use Rattle.model.specs.Limits.{pair_limit, mask_bits}
use Rattle.model.specs.Table.{effective_set}
use Rattle.model.specs.State.{State}
use Rattle.model.specs.Block.{Block}
use Rattle.bits.specs.Bits.{bit, holds, any_below}
use Rattle.rows.specs.Rows.{masked}

-- the holder whose set an attribute's names read, if there is one, by the source in its row
unfoldable pub holder_for : List ℕ → ℕ → ℕ → ℕ → ℕ → Option ℕ
holder_for rows user object mask k =
    if eqb (get_or rows (8 * k) 0) 1 then only_if (bit mask k) user
    otherwise (if eqb (get_or rows (8 * k) 0) 2 then some object otherwise only_if (eqb (get_or rows (8 * k) 0) 3) 0)

-- the table has words of holder h, and pair p is in its set
unfoldable pub in_table : List ℕ → ℕ → ℕ → Bool
in_table table h p = ltb h (length table / 4) && holds table h p

-- pair p in the words of attribute k
unfoldable pub opened_pair : List ℕ → List ℕ → ℕ → ℕ → ℕ → ℕ → ℕ → Bool
opened_pair rows table user object mask k p = (holder_for rows user object mask k is λ h. in_table table h p) && masked rows k p

-- the words of the first `count` attributes are opened, those of the others as before
abbrev pub OpenedFirst : List ℕ → List ℕ → ℕ → ℕ → ℕ → ℕ → List ℕ → List ℕ → Type 0
OpenedFirst rows table user object mask count before after =
    (k p : ℕ) → p < pair_limit → holds after k p ≡ (if ltb k count then opened_pair rows table user object mask k p otherwise holds before k p)

-- the words of attribute k are w, those of the others as before
abbrev pub WordsWritten : List ℕ → ℕ → (ℕ → Bool) → List ℕ → Type 0
WordsWritten before k f after = (j p : ℕ) → p < pair_limit → holds after j p ≡ (if eqb j k then f p otherwise holds before j p)

-- the table holds exactly the effective pairs of holder k
pub record SetOf (S : State) (table : List ℕ) (k : ℕ) : Type 0 where
  pub within : k < length table / 4
  pub pairs : (p : ℕ) → p < pair_limit → holds table k p ≡ effective_set S.declared S.ties k p

-- attribute k is a user attribute of which the user's set has some pair
unfoldable pub held_in : List ℕ → List ℕ → ℕ → ℕ → Bool
held_in rows table user k = eqb (get_or rows (8 * k) 0) 1 && any_below pair_limit (λ p. in_table table user p && masked rows k p)

-- some activated attribute is none
abbrev pub unheld_in : List ℕ → List ℕ → ℕ → ℕ → Bool
unheld_in rows table user mask = any_below mask_bits (λ k. bit mask k && not (held_in rows table user k))

-- the sets that a request reads
pub record SetsOf (S : State) (b : Block) (table : List ℕ) : Type 0 where
  pub user-set : SetOf S table b.user
  pub object-set : SetOf S table b.object
  pub admin-set : SetOf S table 0
