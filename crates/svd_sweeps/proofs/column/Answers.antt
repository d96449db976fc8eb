use mathlib.Core.Path.{◌≡◌, refl, ◌∙◌}
use native.Mathlib.Omega.{arith}
use Rattle.sweeps.proofs.Counts.{pair-after}
use Rattle.sweeps.proofs.SweepingLaws.{pairs-none, pairs-more}
use Rattle.svd_sweeps.proofs.SweepingLaws.{v-kept}
use Rattle.svd_sweeps.proofs.MarksLaws.{seen-into, seen-column, seen_at}
use Rattle.svd_sweeps.proofs.column.Goals as goal

pub loop-q-init : goal.loop-q-init
loop-q-init c = record {
  state = pairs-none _ _ _;
  turned = omega arith;
  begun = refl;
  seen = seen-into _ _ _ _ _ _ c.requires.0.columns c.requires.1 c.requires.6;
  waiting = c.requires.7;
}

pub visit-t-requires : goal.visit-t-requires
visit-t-requires c =
    let s = c.requires in
    let i = c.loop-q.invariant in
    let l = c.loop-q-test.true in (
      record { work = c.loop-q.auto.work ∙ s.0.work; v = v-kept c.loop-q.auto.v s.0.v; columns = s.0.columns; cells = s.0.cells },
      record { rising = omega arith; within = l; turned = omega (arith, i.turned, s.2, l); begun = omega (arith, i.begun, s.3); few = omega (arith, i.begun, s.4); marks = c.loop-q.auto.marks ∙ s.5 },
      seen_at (omega (arith, i.begun)) i.seen,
      i.waiting,
    )

pub loop-q-preserved : goal.loop-q-preserved
loop-q-preserved c =
    let i = c.loop-q.invariant in
    let r = c.visit-t in
    let w = pair-after _ _ _ _ r.ensures.done in
    record {
      state = pairs-more _ _ _ _ (omega arith) i.state r.ensures.done;
      turned = omega (arith, w.turned, i.turned);
      begun = w.begun ∙ i.begun;
      seen = seen_at (omega (arith, i.begun)) r.ensures.seen;
      waiting = r.ensures.waiting;
    }

pub returns : goal.returns
returns c =
    let i = c.loop-q.invariant in
    let e : c.loop-q.q ≡ c.args.n = omega arith in
    record { done = rw e at i.state; seen = seen-column _ _ _ _ _ _ c.requires.0.columns c.requires.1 (seen_at (omega (arith, e)) i.seen); waiting = i.waiting }
