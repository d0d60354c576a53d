-- A session that is opened from a table of effective sets is what the rules may read. Assumes nothing.
use Prim.Native.Nat.{ℕ, zero, suc, ◌+◌, ◌*◌, ◌/◌, ◌%◌, ◌≤◌, ◌<◌}
use native.Mathlib.Omega.{arith}
use native.Mathlib.Decide.{dec_lt}
use mathlib.Core.Path.{◌≡◌, refl, sym, ap, ap₂, ◌∙◌}
use mathlib.Core.Bool.{Bool, true, false, ◌&&◌, and_comm}
use mathlib.Core.List.{List}
use mathlib.Core.Option.{Option, none, some}
use lib.Dec.{eqb, ltb}
use lib.ListN.{length, get_or, replicate}
use borrow.Author.Tests.{lt-ltb, le-ltb}
use Rattle.model.specs.Notation.{if◌then◌otherwise◌, ◌is◌, only_if, nth}
use Rattle.model.specs.Attributes.{Source}
use Rattle.model.specs.Declarations.{Attribute}
use Rattle.model.specs.Table.{effective_set}
use Rattle.model.specs.State.{State}
use Rattle.model.specs.Block.{Block, activated}
use Rattle.model.proofs.WordTables.{none-is-some}
use Rattle.model.proofs.Lists.{lt-nth}
use Rattle.bits.specs.Bits.{odd, bit, holds}
use Rattle.bits.proofs.Bits.{bit-none}
use Rattle.codes.specs.Codes.{source_code}
use Rattle.rows.specs.Rows.{AttributeRows, masked, is_pair_of}
use Rattle.session.specs.Opened.{reads_pair, may_read, Opened}
use Rattle.session.specs.Words.{holder_for, in_table, opened_pair, OpenedFirst, SetOf, SetsOf}

-- a holder's set
pub its-set : (S : State) (table : List ℕ) (k p : ℕ) → SetOf S table k → p < 256 → in_table table k p ≡ effective_set S.declared S.ties k p
unfolding in_table
its-set S table k p stored h = ap (λ (t : Bool). t && holds table k p) (lt-ltb k (length table / 4) stored.within) ∙ stored.pairs p h

pub mask-bit : (b : Block) (k : ℕ) → bit b.mask k ≡ activated b k
unfolding bit odd activated
mask-bit b k = refl

-- a number of no attribute
pub no-attribute : {A : Type 0} (xs : List A) (k : ℕ) → nth xs k ≡ none → length xs ≤ k
no-attribute xs k e = go (dec_lt k (length xs))
  where
    go : Dec (k < length xs) → length xs ≤ k
    go (yes h) = let (x, f) = lt-nth xs k h in none-is-some (sym e ∙ f)
    go (no h) = omega arith

module _ (S : State) (b : Block) (rows table : List ℕ) (ar : AttributeRows rows S.declared) (sets : SetsOf S b table) (k p : ℕ) (small : k < 32) (h : p < 256) where
  abbrev read : ℕ → Bool
  read source =
      (if eqb source 1 then only_if (bit b.mask k) b.user otherwise (if eqb source 2 then some b.object otherwise only_if (eqb source 3) 0)) is λ h. in_table table h p

  by-source : (s : Source) → read (source_code s) ≡ reads_pair S b k p s
  by-source Source.user = go (activated b k) (mask-bit b k)
    where
      go : (t : Bool) → bit b.mask k ≡ t
          → (only_if (bit b.mask k) b.user is λ i. in_table table i p) ≡ (t && effective_set S.declared S.ties b.user p)
      go true e = ap (λ (t : Bool). only_if t b.user is λ i. in_table table i p) e ∙ its-set S table b.user p sets.user-set h
      go false e = ap (λ (t : Bool). only_if t b.user is λ i. in_table table i p) e
  by-source Source.object = its-set S table b.object p sets.object-set h
  by-source Source.admin = its-set S table 0 p sets.admin-set h
  by-source Source.env = refl
  by-source Source.connect = refl

  opened-pair : opened_pair rows table b.user b.object b.mask k p ≡ may_read S b k p
  unfolding opened_pair holder_for may_read
  opened-pair =
      ap₂ (λ (x y : Bool). x && y) (go (nth S.declared.attributes k) refl) (ar.mask k p small h)
      ∙ and_comm (nth S.declared.attributes k is λ a. reads_pair S b k p a.source) (is_pair_of S.declared k p)
    where
      go : (o : Option Attribute) → nth S.declared.attributes k ≡ o → read (get_or rows (8 * k) 0) ≡ (o is λ a. reads_pair S b k p a.source)
      go (some a) e = ap read (ar.row k a e).source ∙ by-source a.source
      go none e = ap read (ar.other k (no-attribute S.declared.attributes k e) small)

  -- what is no attribute reads nothing
  not-declared : length S.declared.attributes ≤ k → may_read S b k p ≡ false
  unfolding opened_pair holder_for
  not-declared l = sym opened-pair ∙ ap (λ (t : Bool). t && masked rows k p) (ap read (ar.other k l small))

-- zeros are the words of no pair
pub zeros-hold : (n k p : ℕ) → holds (replicate n 0) k p ≡ false
unfolding holds
zeros-hold n k p = ap (λ (w : ℕ). bit w (p % 64)) (zero-at n (4 * k + p / 64)) ∙ bit-none (p % 64)
  where
    zero-at : (n i : ℕ) → get_or {A = ℕ} (replicate n 0) i 0 ≡ 0
    zero-at zero i = refl
    zero-at (suc n) zero = refl
    zero-at (suc n) (suc i) = zero-at n i

-- so it is enough to open the declared attributes, in words of no pair
pub opens : (S : State) (b : Block) (rows table before session : List ℕ) (count : ℕ) → AttributeRows rows S.declared → SetsOf S b table
    → length S.declared.attributes ≡ count → ((k p : ℕ) → holds before k p ≡ false)
    → OpenedFirst rows table b.user b.object b.mask count before session → Opened S b session
opens S b rows table before session count ar sets all empty f k p small h = f k p h ∙ go (dec_lt k count)
  where
    go : Dec (k < count) → (if ltb k count then opened_pair rows table b.user b.object b.mask k p otherwise holds before k p) ≡ may_read S b k p
    go (yes l) =
        ap (λ (t : Bool). if t then opened_pair rows table b.user b.object b.mask k p otherwise holds before k p) (lt-ltb k count l)
        ∙ opened-pair S b rows table ar sets k p small h
    go (no l) =
        ap (λ (t : Bool). if t then opened_pair rows table b.user b.object b.mask k p otherwise holds before k p) (le-ltb k count (omega arith))
        ∙ empty k p
        ∙ sym (not-declared S b rows table ar sets k p small h (omega arith))
