use borrow.Author.Rules.{rules}
use native.Mathlib.Omega.{arith}
use native.Mathlib.Nat.{mul_comm}
use Rattle.site_lines.specs.Sources.{line_cell, vt_cell}
use Rattle.site_lines.proofs.SourceLaws.{site-none, site-more}
use Rattle.site_lines.proofs.fill_vt.Goals as goal

pub loop-gamma-init : goal.loop-gamma-init
loop-gamma-init c = site-none _ _ _

pub loop-gamma-preserved : goal.loop-gamma-preserved
unfolding vt_cell line_cell
loop-gamma-preserved c = site-more c.args.chi _ _ _ _ c.loop-gamma-test.true (omega (arith, mul_comm c.args.width c.args.chi, c.requires)) c.loop-gamma.invariant (c.put_line.ensures _ (λ t z h p. search rules))
