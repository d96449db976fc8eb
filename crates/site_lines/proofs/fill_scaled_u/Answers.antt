use borrow.Author.Rules.{rules}
use Rattle.site_lines.specs.Sources.{line_cell, scaled_u_cell}
use Rattle.site_lines.proofs.SourceLaws.{site-none, site-more}
use Rattle.site_lines.proofs.fill_scaled_u.Goals as goal

pub loop-row-init : goal.loop-row-init
loop-row-init c = site-none _ _ _

pub loop-row-preserved : goal.loop-row-preserved
unfolding scaled_u_cell line_cell
loop-row-preserved c = site-more c.args.width _ _ _ _ c.loop-row-test.true c.requires.line_ready.site c.loop-row.invariant (c.put_line.ensures _ (λ t z h p. search rules))
