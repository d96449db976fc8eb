-- The factors of a matrix a, of whose work matrix they were made. Definitions only.
use Rattle.std.specs.Prelude.{◌≡◌, Result, List, ℕ, Float}
use Rattle.answers.specs.Paper.{paper, given, if_done}
use Rattle.complex.specs.Zeros.{zeros}
use Rattle.answers.specs.declared.Refusal.{Refusal}
use Rattle.sweeps.specs.declared.Sweeps.{Sweeps}
use Rattle.sweeps.specs.Sweeping.{no_sweeps}
use Rattle.factored.specs.Factored.{kept_sweeps}
use Rattle.svd.specs.Svd.{side_of, need_u, need_vt, u_of, s_of, vt_of, svd_sweeps, svd_end}

pub record SvdLoaded (a : List Float) (m n : ℕ) (r : Result Sweeps Refusal) (u s vt : List Float) : Type 0 where
  pub answer : paper r ≡ svd_end (u_of a m n) (s_of a m n) (vt_of a m n)
  pub u-is : u ≡ if_done (paper r).0 (u_of a m n) (zeros (need_u m n))
  pub s-is : s ≡ if_done (paper r).0 (s_of a m n) (zeros (side_of m n))
  pub vt_is : vt ≡ if_done (paper r).0 (vt_of a m n) (zeros (need_vt m n))
  pub sweeps-are : given no_sweeps r ≡ kept_sweeps r (svd_sweeps a m n)
