use mathlib.Core.Path.{◌∙◌}
use Rattle.svd.proofs.SvdLaws.{zeroed-all}
use Rattle.profiles.proofs.clear_page.Goals as goal

pub returns : goal.returns
returns c = (c.clear_counts.ensures, c.zero_first.ensures ∙ zeroed-all c.args.values.now, c.zero_first-2.ensures ∙ zeroed-all c.args.largest.now, c.clear_counts-2.ensures, c.clear_counts-3.ensures)
