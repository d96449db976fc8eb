-- `qr_column::dot` meets its contract: the parts of the quads put together, then the tail, then the joined sum; the tail is what is left of the rows. Assumes nothing.
use mathlib.Core.Path.{refl}
use native.Mathlib.Omega.{arith}
use Rattle.qr_column.proofs.DotLaws.{dot-made}
use Rattle.qr_column.proofs.DotPartsLaws.{parts-joined}
use Rattle.qr_column.proofs.dot.Goals as goal

pub quads-im-requires : goal.quads-im-requires
quads-im-requires c = omega (arith, c.requires)

pub dot_tail-all-requires : goal.dot_tail-all-requires
dot_tail-all-requires c = omega (arith, c.requires)

pub returns : goal.returns
returns c = dot-made _ _ _ _ _ _ refl (omega arith) (parts-joined _ c.quads-re.ensures c.quads-im.ensures c.of_parts-whole.ensures) c.dot_tail-all.ensures c.joined.ensures
