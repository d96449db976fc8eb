-- `numbers::mended` meets its contract (`Mending.antt`). Assumes nothing.
use Rattle.numbers.proofs.Mending.{mend}
use Rattle.numbers.proofs.mended.Goals as goal

pub returns : goal.returns
returns c = mend _ _ c.requires.0 c.requires.1 c.requires.2 c.if-n-hh.false c.if-dd-hl.false c.if-c-ll.false c.requires.3 c.if-w-q.false c.if-w-q-le18014398509481986.false
