-- The head of a block: when it is one, and the numbers that it has. Assumes nothing.
use Prim.Native.Nat.{ℕ, ◌+◌, ◌-◌, ◌*◌, ◌≤◌, ◌<◌}
use native.Mathlib.Omega.{arith}
use mathlib.Core.Path.{◌≡◌, sym, ap, subst, ◌∙◌}
use mathlib.Core.Bool.{Bool, true, false, ◌&&◌}
use mathlib.Core.Option.{none, some}
use lib.Dec.{eqb, leb}
use lib.ListN.{length, get_or, take, drop, length-drop}
use lib.Seq.{get_or-drop}
use Rattle.model.specs.Notation.{only_if}
use borrow.Author.Tests.{eqb-true}
use Rattle.model.specs.Bytes.{Bytes}
use Rattle.model.specs.Block.{Block, is_block, read_block, byte_at, value_at, entries_of}
use Rattle.model.proofs.Options.{parts, condition}
use Rattle.text.proofs.LoopPlaces.{tail-part}
use Rattle.session.specs.Entries.{EntriesOf}

module _ (s : Bytes) where
  -- a block has room for its head
  pub block_room : is_block s ≡ true → 10 ≤ length s
  unfolding is_block
  block_room t =
      let e = eqb-true (length s) (10 + 5 * byte_at s 8) (parts (eqb (byte_at s 0) 1 && leb (byte_at s 8) 8 && eqb (byte_at s 9) 0) (eqb (length s) (10 + 5 * byte_at s 8)) t).1 in
      omega arith

  -- the block that it is read as
  abbrev pub headed : Block
  headed = record { user = byte_at s 1; object = byte_at s 2; operation = byte_at s 3; mask = value_at s 4; entries = entries_of (byte_at s 8) (drop 10 s) }

  pub not-read : is_block s ≡ false → read_block s ≡ none
  unfolding read_block
  not-read e = ap (λ (t : Bool). only_if t headed) e

  pub is_read_lem : is_block s ≡ true → read_block s ≡ some headed
  unfolding read_block
  is_read_lem e = ap (λ (t : Bool). only_if t headed) e

-- the numbers of a block that is read
pub record HeadOf (s : Bytes) (b : Block) : Type 0 where
  pub user : b.user ≡ get_or s 1 0
  pub object : b.object ≡ get_or s 2 0
  pub operation : b.operation ≡ get_or s 3 0
  pub mask : b.mask ≡ value_at s 4
  pub entries : b.entries ≡ entries_of (get_or s 8 0) (drop 10 s)
  pub size : length s ≡ 10 + 5 * get_or s 8 0

pub head_of : (s : Bytes) (b : Block) → read_block s ≡ some b → HeadOf s b
unfolding read_block is_block
head_of s b e =
    let (t, q) = condition e in
    let last = (parts (eqb (byte_at s 0) 1 && leb (byte_at s 8) 8 && eqb (byte_at s 9) 0) (eqb (length s) (10 + 5 * byte_at s 8)) t).1 in
    record {
      user = sym (ap (λ (x : Block). x.user) q);
      object = sym (ap (λ (x : Block). x.object) q);
      operation = sym (ap (λ (x : Block). x.operation) q);
      mask = sym (ap (λ (x : Block). x.mask) q);
      entries = sym (ap (λ (x : Block). x.entries) q);
      size = eqb-true (length s) (10 + 5 * byte_at s 8) last;
    }

-- the bytes behind the head are the entries
pub entries-behind : (s : Bytes) (b : Block) → read_block s ≡ some b → ((i : ℕ) → get_or s i 0 < 256) → EntriesOf b (take (length s - 10) (drop 10 s))
entries-behind s b e small =
    let head = head_of s b e in
    subst (EntriesOf b) (sym (tail-part 10 s))
    (record {
      count = get_or s 8 0;
      long = length-drop 10 s ∙ (let z : length s ≡ 10 + 5 * get_or s 8 0 = head.size in omega arith);
      are = head.entries;
      bytes = λ i. let h = small (10 + i) in omega (arith, get_or-drop 10 s i 0);
    })
