use mathlib.Core.Path.{refl, sym, ap, ◌∙◌}
use native.Mathlib.Omega.{arith}
use Rattle.sweeps.specs.Sweeping.{sweeps_to}
use Rattle.sweeps.proofs.Counts.{sweep-after, pairs-few}
use Rattle.sweeps.proofs.SweepingLaws.{sweeps-done, sweeps-more, sweeps-quiet}
use Rattle.svd_sweeps.proofs.SweepingLaws.{settled-start, v-kept}
use Rattle.svd_sweeps.specs.declared.Late.{Late}
use Rattle.svd_sweeps.proofs.LateLaws.{none-waits, none-state}
use Rattle.svd_sweeps.proofs.MarksLaws.{seen_first, seen_at}
use Rattle.svd_sweeps.proofs.sweep_all.Goals as goal

pub loop-k-init : goal.loop-k-init
loop-k-init c =
    let none = c.no_sweeps-w.ensures in
    let number = ap (λ (x : Late). x.s.begun) none in
    let turned = ap (λ (x : Late). x.s.turned) none in
    record {
      marks = refl;
      state = ap (sweeps_to _ _ _) (none-state _ _ _ _ none) ∙ settled-start _ _ _ _ _;
      begun = omega (arith, number);
      turned = omega (arith, turned);
      seen = seen_at (omega (arith, number)) (seen_first _ _ _ c.requires.columns);
      waiting = none-waits _ _ none;
    }

pub slice_bounds-sweep-end : goal.slice_bounds-sweep-end
slice_bounds-sweep-end c = sym c.loop-k.invariant.marks

pub sweep-w-requires : goal.sweep-w-requires
sweep-w-requires c =
    let s = c.requires in
    let i = c.loop-k.invariant in
    let l = c.loop-k-test.true in (
      record { work = c.loop-k.auto.work ∙ s.work; v = v-kept c.loop-k.auto.v s.v; columns = s.columns; cells = s.cells },
      omega (arith, i.begun, l),
      omega (arith, i.turned, l),
      i.marks,
      i.seen,
      i.waiting,
    )

pub loop-k-preserved : goal.loop-k-preserved
loop-k-preserved c =
    let i = c.loop-k.invariant in
    let l = c.loop-k-test.true in
    let r = c.sweep-w in
    let w = sweep-after _ _ _ r.ensures.done in
    record {
      marks = r.auto.marks ∙ i.marks;
      state = sweeps-more _ _ 100 _ _ l i.state r.ensures.done c.if-w.false;
      begun = omega (arith, w.begun, i.begun);
      turned = omega (arith, w.turned, i.turned, pairs-few _ c.args.n c.requires.columns, c.requires.columns);
      seen = seen_at (omega (arith, w.begun)) r.ensures.seen;
      waiting = r.ensures.waiting;
    }

pub returns-after-loop-k : goal.returns-after-loop-k
returns-after-loop-k c = record { done = sweeps-done _ _ 100 _ c.loop-k-test.false c.loop-k.invariant.state; waiting = c.loop-k.invariant.waiting }

pub returns-then-w : goal.returns-then-w
returns-then-w c =
    let swept = c.sweep-w.ensures in
    record { done = sweeps-quiet _ _ 100 _ _ c.loop-k-test.true c.loop-k.invariant.state swept.done c.if-w.true; waiting = swept.waiting }
