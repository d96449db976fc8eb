-- `chain_step::factor` meets its contract: the work matrix is loaded from what is carried, and its factors come to their places. Assumes nothing.
use mathlib.Core.Path.{sym, ◌∙◌}
use Prim.Native.Nat.{◌*◌, ◌≤◌}
use native.Mathlib.Omega.{arith}
use lib.ListN.{length}
use lib.Seq.{length-take-le, take_at}
use Rattle.chain_step.proofs.StepLaws.{rooms, exact, factored}
use borrow.Author.Rules.{rules}
use Rattle.chain_step.proofs.factor.Goals as goal

pub overflow_mul-for_u : goal.overflow_mul-for_u
overflow_mul-for_u c = omega (arith, (rooms _ _ c.smaller_size-k.ensures c.requires.0.few).0)

pub overflow_mul-for_u-2 : goal.overflow_mul-for_u-2
overflow_mul-for_u-2 c = omega (arith, (rooms _ _ c.smaller_size-k.ensures c.requires.0.few).0)

pub overflow_mul-for_vt : goal.overflow_mul-for_vt
overflow_mul-for_vt c = omega (arith, (rooms _ _ c.smaller_size-k.ensures c.requires.0.few).1)

pub overflow_mul-for_vt-2 : goal.overflow_mul-for_vt-2
overflow_mul-for_vt-2 c = omega (arith, (rooms _ _ c.smaller_size-k.ensures c.requires.0.few).1)

pub slice_bounds-factor_loaded-end : goal.slice_bounds-factor_loaded-end
slice_bounds-factor_loaded-end c = omega (arith, (rooms _ _ c.smaller_size-k.ensures c.requires.0.few).2, c.requires.0.carried-is)

pub slice_bounds-factor_loaded-end-2 : goal.slice_bounds-factor_loaded-end-2
slice_bounds-factor_loaded-end-2 c = sym (length-take-le _ _ (omega (arith, (rooms _ _ c.smaller_size-k.ensures c.requires.0.few).2, c.requires.0.carried-is)))

pub slice_bounds-factor_loaded-end-3 : goal.slice_bounds-factor_loaded-end-3
slice_bounds-factor_loaded-end-3 c = omega (arith, (rooms _ _ c.smaller_size-k.ensures c.requires.0.few).3, c.requires.0.vt_is)

pub slice_bounds-factor_loaded-end-4 : goal.slice_bounds-factor_loaded-end-4
slice_bounds-factor_loaded-end-4 c = sym (length-take-le _ _ (omega (arith, (rooms _ _ c.smaller_size-k.ensures c.requires.0.few).3, c.requires.0.vt_is)))

pub factor_loaded-requires : goal.factor_loaded-requires
factor_loaded-requires c =
    let z = c.requires in
    let k = c.smaller_size-k.ensures in
    let r = rooms _ _ k z.0.few in
    exact _ _ _ _ _ _ _ _ _ k z.0 z.1 (length-take-le _ _ (omega (arith, r.2, z.0.carried-is))) (length-take-le _ _ (omega (arith, r.3, z.0.vt_is))) (search rules)

pub returns : goal.returns
returns c =
    let z = c.requires in
    let k = c.smaller_size-k.ensures in
    let r = rooms _ _ k z.0.few in
    let h : 2 * (c.args.rows * c.args.columns) ≤ length c.args.scratch.now = omega (arith, z.0.scratch-is) in
    let w = c.factor_loaded in
    let loaded = c.load in
    factored c.args.u.now _ _ _ w.result _ _ k (take_at _ _ _ (loaded.auto.work ∙ length-take-le _ _ h) ∙ loaded.ensures) (w.auto.u ∙ length-take-le _ _ (omega (arith, r.2, z.0.carried-is))) (w.auto.vt ∙ length-take-le _ _ (omega (arith, r.3, z.0.vt_is))) w.ensures
