-- `hermitian_eigen::sweep` meets its contract: the sweeps on the shifted matrix, and no V changes the work matrix. Assumes nothing.
use mathlib.Core.Path.{◌∙◌}
use native.Mathlib.Nat.{mul-le-mul}
use native.Mathlib.Omega.{arith}
use Rattle.svd_sweeps.proofs.SweepingLaws.{settled-exact}
use Rattle.hermitian_eigen.proofs.StepsLaws.{sweep-made}
use Rattle.hermitian_eigen.proofs.sweep.Goals as goal

pub load_shifted-requires : goal.load_shifted-requires
load_shifted-requires c = c.requires

pub settle_alone-requires : goal.settle_alone-requires
settle_alone-requires c = record { work = omega (arith, c.load_shifted.auto.work, c.requires.2); columns = c.requires.0; cells = omega (arith, mul-le-mul c.requires.0 c.requires.0) }

pub returns : goal.returns
returns c = sweep-made _ _ _ c.load_shifted.ensures (c.settle_alone.ensures ∙ settled-exact _ _ _ _)
