use borrow.Author.Rules.{rules}
use Rattle.site_lines.specs.Sources.{line_cell, isometry_cell}
use Rattle.site_lines.proofs.SourceLaws.{site-none, site-more}
use Rattle.site_lines.proofs.fill_isometry.Goals as goal

pub loop-row-init : goal.loop-row-init
loop-row-init c = site-none _ _ _

pub loop-row-preserved : goal.loop-row-preserved
unfolding isometry_cell line_cell
loop-row-preserved c = site-more c.args.width _ _ _ _ c.loop-row-test.true c.requires.site c.loop-row.invariant (c.put_line.ensures _ (λ t z h p. search rules))
