use mathlib.Core.Path.{sym, ◌∙◌}
use Rattle.countersign_scans.proofs.ScanLaws.{scan-found, scan_good, scan-none, mirrored-holds}
use Rattle.countersign_grams.proofs.Theorems.{gram-swap}
use Rattle.countersign_scans.proofs.first_inner.Goals as goal
use Rattle.countersign_scans.proofs.first_inner.Goals.{else-c-k-via-then-c-k+else-not-fits, else-c-k-via-else-c-k}

pub returns-then-not-fits : goal.returns-then-not-fits
returns-then-not-fits c = scan-found _ _ _ c.loop-c.invariant c.loop-c-test.true c.fits.ensures c.if-not-fits.true

pub loop-c-preserved : goal.loop-c-preserved
loop-c-preserved c =
    let inv = c.loop-c.invariant in
    let less = c.loop-c-test.true in
    elim c.else-c-k.branch [
      | else-c-k-via-then-c-k+else-not-fits w ↦ scan_good _ _ _ inv less (sym w.fits.ensures ∙ w.if-not-fits.false)
      | else-c-k-via-else-c-k w ↦ scan_good _ _ _ inv less (mirrored-holds _ _ (gram-swap _ _ _ _) _ _ inv less w.if-c-k.false)
    ]

pub returns : goal.returns
returns c = scan-none _ _ _ c.loop-c.invariant c.loop-c-test.false
