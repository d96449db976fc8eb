use borrow.Author.Rules.{rules}
use Rattle.slab_runs.proofs.RunLaws.{scan_begins, scan-held, scan-free, scan-found, scan-ends, scan-as}
use Rattle.slab_runs.proofs.lowest_run.Goals as goal
use Rattle.slab_runs.proofs.lowest_run.Goals.{then-held, else-held+else-run-k}

pub loop-c-init : goal.loop-c-init
loop-c-init c = scan_begins _ _ (search rules)

pub returns-then-run-k : goal.returns-then-run-k
returns-then-run-k c = scan-found _ _ _ _ c.loop-c.invariant c.loop-c-test.true c.if-held.false c.if-run-k.true

pub loop-c-preserved : goal.loop-c-preserved
loop-c-preserved c =
    let inv = c.loop-c.invariant in
    let less = c.loop-c-test.true in
    elim c.if-held.branch [
      | then-held w ↦ scan-as _ _ _ _ _ w.run-is (scan-held _ _ _ _ inv less w.if-held.true)
      | else-held+else-run-k w ↦ scan-as _ _ _ _ _ w.run-is (scan-free _ _ _ _ inv less w.if-held.false w.if-run-k.false)
    ]

pub returns : goal.returns
returns c = scan-ends _ _ _ _ c.loop-c.invariant c.loop-c-test.false
