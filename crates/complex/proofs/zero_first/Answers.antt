-- `complex::zero_first` meets its contract: `fill` writes the zeros. Assumes nothing.
use Rattle.complex.proofs.ZerosLaws.{zeroed-is}
use Rattle.complex.proofs.zero_first.Goals as goal

pub returns : goal.returns
returns c = zeroed-is _ _ _ c.requires (c.fill.ensures.after (λ y h. h))
