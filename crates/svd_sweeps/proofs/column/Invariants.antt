-- `svd_sweeps::column` meets its contract. The loop's invariant: the state is that after the pairs of p with the columns below q, each of them turned one pair at most, and the marks tell of the turns. Assumes nothing.
use mathlib.Core.Path.{◌≡◌}
use Prim.Native.Nat.{◌+◌, ◌-◌, ◌≤◌}
use Rattle.svd_pair.specs.Plain.{making}
use Rattle.sweeps.specs.Sweeping.{pairs_to}
use Rattle.svd_sweeps.specs.Sweeping.{svd_pairing}
use Rattle.svd_sweeps.specs.Marks.{look, Seen}
use Rattle.svd_sweeps.specs.Late.{Waiting, late_state}
use Rattle.svd_sweeps.proofs.column.Given as goal

abbrev pub invariant-loop-q : goal.invariant-loop-q
invariant-loop-q l = record {
  state : late_state (making l.plain) l.n l.work l.v l.t ≡ pairs_to (svd_pairing (making l.plain) l.m l.n) l.p (l.q - (l.p + 1)) (late_state (making l.plain) l.n l.initial.work l.initial.v l.initial.t);
  turned : l.t.s.turned ≤ l.initial.t.s.turned + (l.q - (l.p + 1));
  begun : l.t.s.begun ≡ l.initial.t.s.begun;
  seen : Seen l.m l.n (look l.initial.t.s.begun l.p l.q) l.marks l.work;
  waiting : Waiting l.n l.t;
}
