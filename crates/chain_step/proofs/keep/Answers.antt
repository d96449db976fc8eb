use mathlib.Core.Path.{sym, ◌∙◌}
use native.Mathlib.Omega.{arith}
use lib.Seq.{length-take-le}
use Rattle.chain_step.proofs.StepLaws.{keeping, carried-room, kept-bad, kept-good}
use Rattle.chain_step.proofs.keep.Goals as goal

pub write_both-requires : goal.write_both-requires
write_both-requires c = keeping _ _ _ _ _ _ _ _ c.requires c.truncated_svd_rank-chi.ensures

pub overflow_mul-carried : goal.overflow_mul-carried
overflow_mul-carried c = omega (arith, (carried-room _ _ _ _ _ _ _ (keeping _ _ _ _ _ _ _ _ c.requires c.truncated_svd_rank-chi.ensures)).0)

pub overflow_mul-carried-2 : goal.overflow_mul-carried-2
overflow_mul-carried-2 c = omega (arith, (carried-room _ _ _ _ _ _ _ (keeping _ _ _ _ _ _ _ _ c.requires c.truncated_svd_rank-chi.ensures)).0)

pub slice_bounds-check_components-end : goal.slice_bounds-check_components-end
slice_bounds-check_components-end c = omega (arith, c.write_both.auto.u, (carried-room _ _ _ _ _ _ _ (keeping _ _ _ _ _ _ _ _ c.requires c.truncated_svd_rank-chi.ensures)).1)

pub slice_bounds-check_components-end-2 : goal.slice_bounds-check_components-end-2
slice_bounds-check_components-end-2 c = sym (length-take-le _ _ (omega (arith, c.write_both.auto.u, (carried-room _ _ _ _ _ _ _ (keeping _ _ _ _ _ _ _ _ c.requires c.truncated_svd_rank-chi.ensures)).1)))

pub returns-then-is_err : goal.returns-then-is_err
returns-then-is_err c = kept-bad _ _ _ _ _ _ _ _ _ _ _ _ c.truncated_svd_rank-chi.ensures c.write_both.ensures.0 c.write_both.ensures.1 _ c.check_components.ensures (sym c.is_err.ensures.value ∙ c.if-is_err.true)

pub returns : goal.returns
returns c = kept-good _ _ _ _ _ _ _ _ _ _ _ _ c.truncated_svd_rank-chi.ensures c.write_both.ensures.0 c.write_both.ensures.1 _ c.check_components.ensures (sym c.is_err.ensures.value ∙ c.if-is_err.false) c.discards_resolvable_weight-drops.ensures
