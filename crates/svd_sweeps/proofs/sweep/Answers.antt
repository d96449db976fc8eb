use mathlib.Core.Path.{◌≡◌, refl, sym, ap, ◌∙◌}
use Prim.Native.Nat.{◌+◌}
use native.Mathlib.Omega.{arith}
use Rattle.sweeps.specs.Sweeping.{columns_to}
use Rattle.sweeps.proofs.Counts.{pairs-few, pairs-after, turned_more}
use Rattle.sweeps.proofs.SweepingLaws.{sweep-made, columns-none, columns-more}
use Rattle.svd_sweeps.specs.Sweeping.{svd_pairings}
use Rattle.svd_sweeps.proofs.SweepingLaws.{v-kept}
use Rattle.svd_sweeps.specs.Marks.{look}
use Rattle.svd_sweeps.specs.declared.Late.{Late}
use Rattle.svd_sweeps.proofs.LateLaws.{begun-waits, begun-state}
use Rattle.svd_sweeps.proofs.MarksLaws.{seen-sweep, seen_at}
use Rattle.svd_sweeps.proofs.sweep.Goals as goal

pub loop-p-init : goal.loop-p-init
loop-p-init c =
    let begun = c.begin_sweep-t.ensures in
    record {
      state = columns-none _ _ _;
      turned = omega arith;
      begun = refl;
      seen = seen_at (sym (ap (λ (x : Late). look x.s.begun 0 0) begun)) c.requires.4;
      waiting = begun-waits _ _ begun c.requires.5;
    }

pub column-t-requires : goal.column-t-requires
column-t-requires c =
    let s = c.requires in
    let began = c.begin_sweep-t.ensures in
    let number = ap (λ (x : Late). x.s.begun) began in
    let before = ap (λ (x : Late). x.s.turned) began in
    let i = c.loop-p.invariant in
    let l = c.loop-p-test.true in
    let f = pairs-few _ c.loop-p.p s.0.columns in (
      record { work = c.loop-p.auto.work ∙ s.0.work; v = v-kept c.loop-p.auto.v s.0.v; columns = s.0.columns; cells = s.0.cells },
      l,
      omega (arith, i.turned, f, s.2, s.0.columns, l, before),
      omega (arith, i.begun, number),
      omega (arith, i.begun, s.1, number),
      c.loop-p.auto.marks ∙ s.3,
      seen_at (omega (arith, i.begun)) i.seen,
      i.waiting,
    )

pub loop-p-preserved : goal.loop-p-preserved
loop-p-preserved c =
    let i = c.loop-p.invariant in
    let r = c.column-t in
    let w = pairs-after _ _ _ _ r.ensures.done in
    record {
      state = columns-more _ _ _ _ i.state r.ensures.done;
      turned = turned_more _ _ _ i.turned w;
      begun = w.begun ∙ i.begun;
      seen = seen_at (omega (arith, i.begun)) r.ensures.seen;
      waiting = r.ensures.waiting;
    }

pub returns : goal.returns
returns c =
    let began = c.begin_sweep-t.ensures in
    let number = ap (λ (x : Late). x.s.begun) began in
    let i = c.loop-p.invariant in
    let e : c.loop-p.p ≡ c.args.n = omega arith in
    let made = sweep-made (svd_pairings _ _ _) _ _ refl (rw e at i.state ∙ ap (columns_to _ _ _) (begun-state _ _ _ _ c.args.w began)) in
    record {
      done = made;
      seen = seen_at (omega arith) (seen-sweep _ _ (c.args.w.s.begun + 1) _ _ c.requires.0.columns (seen_at (omega (arith, e, number)) i.seen));
      waiting = i.waiting;
    }
