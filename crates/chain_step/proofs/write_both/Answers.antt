use mathlib.Core.Path.{sym}
use native.Mathlib.Omega.{arith}
use lib.Seq.{length-take-le}
use Rattle.chain_step.proofs.StepLaws.{rooms, site-ready, carry-ready, front-written, site-made}
use Rattle.chain_step.proofs.write_both.Goals as goal

pub slice_bounds-fill_isometry-end-2 : goal.slice_bounds-fill_isometry-end-2
slice_bounds-fill_isometry-end-2 c = sym (length-take-le _ _ (omega (arith, (rooms _ _ c.smaller_size-k.ensures c.requires.few).2, c.requires.u-is)))

pub fill_isometry-requires : goal.fill_isometry-requires
fill_isometry-requires c = site-ready _ _ _ _ _ _ _ _ c.smaller_size-k.ensures c.requires (length-take-le _ _ (omega (arith, (rooms _ _ c.smaller_size-k.ensures c.requires.few).2, c.requires.u-is)))

pub fill_scaled_vt-requires-clause-line_ready : goal.fill_scaled_vt-requires-clause-line_ready
fill_scaled_vt-requires-clause-line_ready c = carry-ready _ _ _ _ _ _ _ c.requires

pub returns : goal.returns
returns c = (site-made _ _ _ _ _ c.smaller_size-k.ensures c.fill_isometry.ensures, front-written _ _ _ c.fill_scaled_vt.ensures)
