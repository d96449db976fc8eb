-- `qr_column::Sums::of_parts` meets its contract: it is its definition. Assumes nothing.
use mathlib.Core.Path.{refl}
use Rattle.qr_column.specs.DotParts.{sums_of}
use Rattle.qr_column.proofs.Sums.of_parts.Goals as goal

pub returns : goal.returns
unfolding sums_of
returns c = refl
