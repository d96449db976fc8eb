-- `numbers::scaled_root` meets its contract (`Scaling.antt`). Assumes nothing.
use native.Mathlib.Omega.{arith}
use Rattle.numbers.proofs.Scaling.{in-range, packed}
use Rattle.numbers.proofs.scaled_root.Goals as goal

pub nearest_root-q-requires : goal.nearest_root-q-requires
nearest_root-q-requires c = let r = in-range c.args.m c.args.e c.requires.0 c.requires.1 in (r.0, r.1, omega arith)

pub returns : goal.returns
returns c =
    let s = c.before in
    packed s.args.m s.args.e s.requires.0 s.requires.1 c.nearest_root-q.result s.requires.2 c.nearest_root-q.ensures
