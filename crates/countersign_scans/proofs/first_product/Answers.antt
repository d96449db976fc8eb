use mathlib.Core.Path.{sym, ◌∙◌}
use Rattle.countersign_scans.proofs.ScanLaws.{scan-found, scan_good, scan-none}
use Rattle.countersign_scans.proofs.first_product.Goals as goal

pub returns-then-not-fits : goal.returns-then-not-fits
returns-then-not-fits c = scan-found _ _ _ c.loop-c.invariant c.loop-c-test.true c.fits.ensures c.if-not-fits.true

pub loop-c-preserved : goal.loop-c-preserved
loop-c-preserved c = scan_good _ _ _ c.loop-c.invariant c.loop-c-test.true (sym c.fits.ensures ∙ c.if-not-fits.false)

pub returns : goal.returns
returns c = scan-none _ _ _ c.loop-c.invariant c.loop-c-test.false
