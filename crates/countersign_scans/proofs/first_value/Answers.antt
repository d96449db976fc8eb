use mathlib.Core.Path.{sym, ◌∙◌}
use Rattle.countersign_scans.proofs.ScanLaws.{scan-found, scan_good, scan-none}
use Rattle.countersign_scans.proofs.first_value.Goals as goal

pub returns-then-not-value_fits : goal.returns-then-not-value_fits
returns-then-not-value_fits c = scan-found _ _ _ c.loop-i.invariant c.loop-i-test.true c.value_fits.ensures c.if-not-value_fits.true

pub loop-i-preserved : goal.loop-i-preserved
loop-i-preserved c = scan_good _ _ _ c.loop-i.invariant c.loop-i-test.true (sym c.value_fits.ensures ∙ c.if-not-value_fits.false)

pub returns : goal.returns
returns c = scan-none _ _ _ c.loop-i.invariant c.loop-i-test.false
