-- What a value that puts the line of a number promises of its calls: room, and the line. Assumes nothing: these are definitions.
use Rattle.std.specs.Prelude.{ℕ, ◌+◌, ◌<◌, ◌≤◌}
use denote.Ref.{MutBor}
use denote.Param.Members.{Shared}
use Rattle.model.specs.Bytes.{Bytes}
use Rattle.output.specs.Laid.{far, Laid}

module _ {F : Type 0} (g : Shared F (MutBor Bytes × (ℕ × (ℕ × Unit {0}))) (ℕ × (MutBor Bytes × Unit {0}))) (f : F) (size count : ℕ) where
  -- it may be called with each number below `count`, where so many bytes have room, and puts no more
  pub record PutsWithin : Type 0 where
    pub may : (p : MutBor Bytes) (n k : ℕ) → n + size ≤ far → k < count → g.pre f (p, (n, (k, tt)))
    pub within : (p q : MutBor Bytes) (n k r : ℕ) → k < count → g.post f (p, (n, (k, tt))) (r, (q, tt)) → r ≤ n + size

  -- it lays the text of its number
  pub record PutsTexts (text : ℕ → Bytes) : Type 0 where
    pub lays : (p q : MutBor Bytes) (n k r : ℕ) → k < count → g.post f (p, (n, (k, tt))) (r, (q, tt)) → Laid p.now n (text k) q.now r
