use mathlib.Core.List.{List}
use mathlib.Core.Path.{◌∙◌, ap}
use Prim.Native.Nat.{◌+◌}
use native.Mathlib.Omega.{arith}
use lib.Ieee.{Float}
use Rattle.complex.specs.Planes.{set_plane}
use Rattle.density_rows.proofs.TwoRowsLaws.{added-same, term-step}
use Rattle.density_rows.proofs.add_terms.Goals as goal

pub loop-u-preserved : goal.loop-u-preserved
loop-u-preserved c = term-step _ _ _ _ _ _ _ _ _ c.requires.planes_len.1 c.loop-u.invariant (omega (arith, c.requires.m_bound.2)) (c.add_term.ensures ∙ added-same c.read_plane-p.ensures c.read_plane-a0.ensures c.read_plane-b.ensures) (c.add_term-in-loop-u.ensures ∙ added-same c.read_plane-q.ensures c.read_plane-a1.ensures c.read_plane-b.ensures) (c.write_plane-in-loop-u.ensures ∙ ap (λ (x : List Float). set_plane x 128 (64 + c.loop-u.u) c.add_term-in-loop-u.result) c.write_plane.ensures)
