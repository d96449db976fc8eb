-- `svd_sweeps::sweep_all` meets its contract. The loop's invariant: the sweeps that are left lead to the same end, and the marks tell of the turns. Assumes nothing.
use mathlib.Core.Path.{◌≡◌}
use Prim.Native.Nat.{◌+◌, ◌-◌, ◌*◌, ◌≤◌}
use lib.ListN.{length}
use Rattle.svd_pair.specs.Plain.{making}
use Rattle.sweeps.specs.Sweeping.{sweeps_to}
use Rattle.svd_sweeps.specs.Sweeping.{svd_pairings, settled_with}
use Rattle.svd_sweeps.specs.Marks.{look, Seen}
use Rattle.svd_sweeps.specs.Late.{Waiting, late_state}
use Rattle.svd_sweeps.proofs.sweep_all.Given as goal

abbrev pub invariant-loop-k : goal.invariant-loop-k
invariant-loop-k l = record {
  marks : length l.marks ≡ 64;
  state : sweeps_to (svd_pairings (making l.plain) l.m l.n) l.n (100 - l.k) (late_state (making l.plain) l.n l.work l.v l.w) ≡ settled_with (making l.plain) l.m l.n l.initial.work l.initial.v;
  begun : l.w.s.begun ≤ l.k;
  turned : l.w.s.turned ≤ l.k * 4096;
  seen : Seen l.m l.n (look (l.w.s.begun + 1) 0 0) l.marks l.work;
  waiting : Waiting l.n l.w;
}
