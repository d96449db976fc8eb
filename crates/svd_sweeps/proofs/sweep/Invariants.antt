-- `svd_sweeps::sweep` meets its contract. The loop's invariant: the state is that after the columns below p, and the marks tell of the turns. Assumes nothing.
use mathlib.Core.Path.{◌≡◌}
use Prim.Native.Nat.{◌+◌, ◌≤◌}
use Rattle.svd_pair.specs.Plain.{making}
use Rattle.sweeps.specs.Sweeping.{columns_to}
use Rattle.sweeps.proofs.Counts.{pairs_below}
use Rattle.svd_sweeps.specs.Sweeping.{svd_pairing}
use Rattle.svd_sweeps.specs.Marks.{look, Seen}
use Rattle.svd_sweeps.specs.Late.{Waiting, late_state}
use Rattle.svd_sweeps.proofs.sweep.Given as goal

abbrev pub invariant-loop-p : goal.invariant-loop-p
invariant-loop-p l = record {
  state : late_state (making l.plain) l.n l.work l.v l.t ≡ columns_to (svd_pairing (making l.plain) l.m l.n) l.n l.p (late_state (making l.plain) l.n l.initial.work l.initial.v l.initial.t);
  turned : l.t.s.turned ≤ l.initial.t.s.turned + pairs_below l.n l.p;
  begun : l.t.s.begun ≡ l.initial.t.s.begun;
  seen : Seen l.m l.n (look l.initial.t.s.begun l.p 0) l.marks l.work;
  waiting : Waiting l.n l.t;
}
