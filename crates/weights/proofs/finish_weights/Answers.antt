-- `weights::finish_weights` meets its contract: the calls are the definition's steps, and the zeros past the roots stay. Assumes nothing.
use mathlib.Core.Path.{refl, sym}
use Prim.Native.Nat.{◌≤◌}
use native.Mathlib.Omega.{arith}
use lib.Seq.{length-take-le}
use Rattle.weights.proofs.WeightLaws.{roots_few, weights-made}
use Rattle.weights.proofs.finish_weights.Goals as goal

pub slice_bounds-largest_weight-end-2 : goal.slice_bounds-largest_weight-end-2
slice_bounds-largest_weight-end-2 c = sym (length-take-le _ _ c.requires.0)

pub slice_bounds-roots_above-end-2 : goal.slice_bounds-roots_above-end-2
slice_bounds-roots_above-end-2 c = sym (length-take-le _ _ c.requires.0)

pub roots_above-count-requires : goal.roots_above-count-requires
roots_above-count-requires c = omega (arith, length-take-le c.args.n c.args.out.now c.requires.0, c.requires.1)

pub slice_bounds-finish_values-end : goal.slice_bounds-finish_values-end
slice_bounds-finish_values-end c =
    let few : c.roots_above-count.result ≤ c.args.n = roots_few _ _ _ c.requires.0 c.roots_above-count.ensures.0 in
    omega (arith, few, c.roots_above-count.auto.roots, c.requires.1)

pub slice_bounds-finish_values-end-2 : goal.slice_bounds-finish_values-end-2
slice_bounds-finish_values-end-2 c =
    let few : c.roots_above-count.result ≤ c.args.n = roots_few _ _ _ c.requires.0 c.roots_above-count.ensures.0 in
    sym (length-take-le _ _ (omega (arith, few, c.roots_above-count.auto.roots, c.requires.1)))

pub finish_values-requires : goal.finish_values-requires
finish_values-requires c =
    let few : c.roots_above-count.result ≤ c.args.n = roots_few _ _ _ c.requires.0 c.roots_above-count.ensures.0 in
    let n = few in let k = c.roots_above-count.auto.roots in let p = c.requires in omega (arith, length-take-le c.roots_above-count.result c.roots_above-count.new.roots (omega (arith, n, k, p.1)), n, p.0, c.zero_first.auto.s)

pub returns : goal.returns
returns c = weights-made _ _ c.requires.0 c.largest_weight-floor.ensures refl c.roots_above-count.ensures.1 c.zero_first.ensures c.finish_values.ensures
