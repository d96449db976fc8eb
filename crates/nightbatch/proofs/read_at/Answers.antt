-- `nightbatch::read_at` meets its contract. Assumes nothing.
use Rattle.nightbatch.proofs.BatchLaws.{front-counts}
use lib.Seq.{length-take-le}
use native.Mathlib.Omega.{arith}
use mathlib.Core.Path.{sym}
use Rattle.nightbatch.proofs.read_at.Goals as goal

pub slice_bounds-read_full-end : goal.slice_bounds-read_full-end
slice_bounds-read_full-end g c = omega (arith, c.requires)

pub slice_bounds-read_full-end-2 : goal.slice_bounds-read_full-end-2
slice_bounds-read_full-end-2 g c = sym (length-take-le _ _ (omega (arith, c.requires)))

pub returns : goal.returns
returns g c = front-counts _ _ _ c.read_full.ensures.prefix_len
