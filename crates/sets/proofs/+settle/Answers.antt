-- `sets::settle` meets its contract: the groups one tie up, one after another, and then the group's own set. Assumes nothing.
use mathlib.Core.Path.{◌≡◌, refl, sym, ap, ◌∙◌}
use mathlib.Core.Logic.{⊎_elim}
use mathlib.Core.Bool.{Bool, true, not, ◌&&◌, ◌||◌, true≢false}
use mathlib.Core.List.{List}
use Prim.Native.Nat.{ℕ}
use lib.ListN.{get_or}
use borrow.Author.Tests.{not-false}
use Rattle.bits.specs.Bits.{bit}
use Rattle.bits.proofs.Bits.{bit-none}
use Rattle.bits.proofs.Walks.{fewer-left}
use Rattle.model.proofs.Options.{parts}
use Rattle.model.proofs.Lists.{or_cases}
use Rattle.ties.specs.TieArrays.{in_use, tied_up}
use Rattle.sets.proofs.Laws.{settled-none, settled-less, spared-none, spared-more, spared-own, group-new, not-open, not-high, deep_step, turn, settled-own}
use Rattle.sets.proofs.+settle.Goals as goal
use Rattle.sets.proofs.+settle.Goals.{then-has-via-then-has, then-has-via-else-has+then-has-2, then-has-via-else-has+else-has-2+then-height-eq0, then-has-via-else-has+else-has-2+else-height-eq0+then-not-in_use}

tied_by : (ups : List ℕ) (k q mask : ℕ) → mask ≡ get_or ups k 0 → bit mask q ≡ true → tied_up ups k q ≡ true
unfolding tied_up
tied_by ups k q mask e on = ap (λ (m : ℕ). bit m q) (sym e) ∙ on

pub returns-then-has : goal.returns-then-has
returns-then-has t c =
    elim c.then-has.branch [
      | then-has-via-then-has w ↦ (settled-none _ _ _ _ _ (λ dp g l u e. ap (bit c.args.done) e ∙ sym w.if-has.ensures), spared-none c.args.path c.args.done)
      | then-has-via-else-has+then-has-2 w ↦ (
        settled-none _ _ _ _ _ (λ dp g l u e. absurd (not-open c.args.arrays.now.ups.now c.args.arrays.now.slots.now c.args.path c.args.height c.args.group
            c.requires.2 (sym w.if-has-2.ensures) (ap (in_use _ _) (sym e) ∙ u) dp)),
        spared-none c.args.path c.args.done,
      )
      | then-has-via-else-has+else-has-2+then-height-eq0 w ↦ (
        settled-none _ _ _ _ _ (λ dp g l u e. absurd (not-high c.args.arrays.now.ups.now c.args.arrays.now.slots.now c.args.path c.args.height c.args.group
            w.if-height-eq0.true (ap (in_use _ _) (sym e) ∙ u) dp)),
        spared-none c.args.path c.args.done,
      )
      | then-has-via-else-has+else-has-2+else-height-eq0+then-not-in_use w ↦ (
        settled-none _ _ _ _ _ (λ dp g l u e. absurd (true≢false (sym u ∙ ap (in_use _ _) e ∙ sym w.if-not-in_use.ensures))),
        spared-none c.args.path c.args.done,
      )
    ]

pub loop-left-init : goal.loop-left-init
loop-left-init t c = (
  c.requires.0.table-long,
  refl,
  λ q l on. ⊎_elim (λ y. y) (λ y. absurd (true≢false (sym y ∙ bit-none q)))
      (or_cases (bit c.ties_up-mask.result q) (bit 0 q)
      (parts (bit c.ties_up-mask.result q || bit 0 q) (not (bit c.args.done q)) (sym (c.still_left-left.ensures q l) ∙ on)).0),
  spared-none c.with-below.result c.args.done,
  settled-none _ _ _ _ _ (λ dp g l u w. not-false (bit c.args.done g)
      (sym (ap (λ (x : Bool). (x || bit 0 g) && not (bit c.args.done g)) w.0) ∙ sym (c.still_left-left.ensures g l) ∙ w.1)),
)

pub loop-left-smaller : goal.loop-left-smaller
loop-left-smaller t c =
    let held = c.lowest-q.ensures.held c.loop-left-test.true in
    fewer-left c.loop-left.left c.without-left.result c.lowest-q.result held.1 c.without-left.ensures held.0

pub loop-left-preserved : goal.loop-left-preserved
loop-left-preserved t c =
    let inv = c.loop-left.invariant in
    let ups = c.args.arrays.now.ups.now in
    let slots = c.args.arrays.now.slots.now in
    let group = c.args.group in
    let q = c.lowest-q.result in
    let held = c.lowest-q.ensures.held c.loop-left-test.true in
    let mask : c.ties_up-mask.result ≡ get_or ups (get_or slots group 0) 0 = c.ties_up-mask.ensures ∙ ap (λ (i : ℕ). get_or ups i 0) c.holder_at-k.ensures in
    let on : tied_up ups (get_or slots group 0) q ≡ true = tied_by ups (get_or slots group 0) q c.ties_up-mask.result mask (inv.2 q held.0 held.1) in (
      c.settle-seen.auto.table ∙ inv.0,
      c.settle-seen.auto.marks ∙ inv.1,
      λ g l x. inv.2 g l (parts (bit c.loop-left.left g) _ (sym (c.without-left.ensures g) ∙ x)).0,
      spared-more c.args.path c.with-below.result group c.args.done c.loop-left.seen c.with-below.ensures c.settle-seen.result inv.3 c.settle-seen.ensures.1,
      turn (λ g. bit c.ties_up-mask.result g ≡ true) c.loop-left.left q c.without-left.result c.without-left.ensures inv.4 c.settle-seen.ensures.0
          (deep_step ups slots c.args.path c.with-below.result c.args.height group q c.if-height-eq0.false (sym c.if-not-in_use.ensures) held.0 on c.with-below.ensures),
    )

pub returns : goal.returns
returns t c =
    let inv = c.loop-left.invariant in
    let group = c.args.group in (
      settled-own c.store_group.result group (get_or c.args.arrays.now.slots.now group 0) c.ties_up-mask.result c.requires.2 (sym c.if-not-in_use.ensures) inv.0 refl
          (c.ties_up-mask.ensures ∙ ap (λ (k : ℕ). get_or c.args.arrays.now.ups.now k 0) c.holder_at-k.ensures)
          (group-new c.args.path c.with-below.result group c.args.done c.loop-left.seen c.with-below.ensures inv.3 (sym c.if-has.ensures))
          (settled-less (λ g. bit c.ties_up-mask.result g ≡ true) inv.4 (λ g x. (x, ap (λ (w : ℕ). bit w g) c.loop-left-test.false ∙ bit-none g)))
          c.store_group.ensures.0 c.store_group.ensures.1 c.store_group.ensures.2,
      spared-own c.args.path c.with-below.result group c.args.done c.loop-left.seen c.with-below.ensures c.store_group.result inv.3 (sym c.if-has-2.ensures) c.store_group.ensures.2,
    )
