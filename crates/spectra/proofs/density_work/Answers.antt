-- `spectra::density_work` meets its contract: the eigenvalues stand at the front of the output and are finished there. Assumes nothing.
use mathlib.Core.Path.{◌≡◌, refl, ◌∙◌}
use mathlib.Core.List.{List}
use Prim.Native.Nat.{ℕ, ◌≤◌}
use lib.Ieee.{Float}
use lib.ListN.{length}
use native.Mathlib.Omega.{arith}
use Rattle.std.specs.Prelude.{Ok, Err}
use Rattle.answers.specs.Paper.{table}
use Rattle.answers.proofs.Stopped.{stopped-number}
use Rattle.answers.proofs.PaperLaws.{done-old}
use Rattle.complex.specs.Zeros.{zeroed}
use Rattle.sweeps.specs.Sweeping.{no_sweeps}
use Rattle.std.proofs.lemmas.Result.{err_from_is_err_and}
use Rattle.spectra.proofs.OutcomeLaws.{zeroed-other}
use Rattle.spectra.proofs.DensityLaws.{side-fits, density-made}
use Rattle.spectra.proofs.density_work.Goals as goal

pub finish_weights-kept-requires : goal.finish_weights-kept-requires
finish_weights-kept-requires c = let g = c.requires.0 in (omega (arith, g.room, c.spectrum-sweeps.auto.out), omega (arith, side-fits c.args.n g.some, c.requires.1, c.spectrum-sweeps.auto.work))

pub overflow_mul-n : goal.overflow_mul-n
overflow_mul-n c = omega (arith, c.requires.1)

pub overflow_mul-n-2 : goal.overflow_mul-n-2
overflow_mul-n-2 c = omega (arith, c.requires.1)

pub zero_first-requires : goal.zero_first-requires
zero_first-requires c = omega (arith, c.requires.1, c.spectrum-sweeps.auto.work, c.finish_weights-kept.auto.spare)

pub shape_of-work : goal.shape_of-work
shape_of-work c = omega (arith, c.zero_first.auto.s, c.finish_weights-kept.auto.spare, c.spectrum-sweeps.auto.work)

cleared : (m : ℕ) (old mid : List Float) {end : List Float} → length mid ≤ m → length old ≤ m → end ≡ zeroed m mid → end ≡ zeroed m old
cleared m old mid h g e = e ∙ zeroed-other m mid old h g

pub returns-in_err-count : goal.returns-in_err-count
returns-in_err-count c =
    let p = err_from_is_err_and c.from_residual.result c.from_residual.ensures.1 in
    let s = c.spectrum-sweeps in
    let e = c.in_err-count.field-0.0 in
    let z = cleared _ _ _ (omega (arith, c.requires.1, s.auto.work, c.finish_weights-kept.auto.spare)) (omega (arith, c.requires.1)) c.zero_first.ensures in
    rw (p.1, p.2) (density-made _ _ _ _ _ (Err e) _ _ (Err e) s.ensures.0 c.in_err-count.ensures z refl refl (done-old (table e).0 _ no_sweeps (stopped-number e)))

pub returns : goal.returns
returns c =
    let s = c.spectrum-sweeps in
    let z = cleared _ _ _ (omega (arith, c.requires.1, s.auto.work, c.finish_weights-kept.auto.spare)) (omega (arith, c.requires.1)) c.zero_first.ensures in
    density-made _ _ _ _ _ (Ok c.in_ok-count.count) _ _ _ s.ensures.0 c.in_ok-count.ensures z refl refl s.ensures.2
