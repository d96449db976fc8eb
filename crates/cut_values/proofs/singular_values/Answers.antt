-- `cut_values::singular_values` meets its contract: the norms stand at the front of the array, their order at the front of scratch.
-- Assumes nothing.
use mathlib.Core.Path.{sym, ap, ◌∙◌}
use Prim.Native.Nat.{ℕ, ◌*◌, ◌≤◌}
use native.Mathlib.Omega.{arith}
use lib.ListN.{length}
use lib.Seq.{length-take-le, take_at}
use Rattle.qubits.proofs.NamedLaws.{pow_small}
use Rattle.cut_values.proofs.SchmidtLaws.{rows_fit, front_length, front-in, le_same, values-made}
use borrow.Author.Rules.{rules}
use Rattle.cut_values.proofs.singular_values.Goals as goal

pub bit-all-requires : goal.bit-all-requires
bit-all-requires c = omega (arith, c.requires.0.small)

pub overflow_mul-all : goal.overflow_mul-all
overflow_mul-all c = omega (arith, c.bit-all.ensures, pow_small _ c.requires.0.small)

pub slice_bounds-sweep-end : goal.slice_bounds-sweep-end
slice_bounds-sweep-end c = omega (arith, c.bit-all.ensures, c.requires.2)

pub slice_bounds-sweep-end-2 : goal.slice_bounds-sweep-end-2
slice_bounds-sweep-end-2 c = sym (length-take-le _ _ (omega (arith, c.bit-all.ensures, c.requires.2)))

pub slice_bounds-norms-end : goal.slice_bounds-norms-end
slice_bounds-norms-end c = c.requires.0.few

pub slice_bounds-sweep-end-3 : goal.slice_bounds-sweep-end-3
slice_bounds-sweep-end-3 c = sym (length-take-le _ _ c.requires.0.few)

pub sweep-swept-requires : goal.sweep-swept-requires
sweep-swept-requires c =
    let p = c.requires in
    let h : 2 * c.bit-all.result ≤ length c.args.scratch.now = omega (arith, c.bit-all.ensures, p.2) in
    (p.0, length-take-le _ _ h ∙ ap (λ (x : ℕ). 2 * x) c.bit-all.ensures, length-take-le _ _ p.0.few)

pub slice_bounds-norms-end-2 : goal.slice_bounds-norms-end-2
slice_bounds-norms-end-2 c = front-in _ c.sweep-swept.new.norms _ (c.sweep-swept.auto.norms ∙ length-take-le _ _ c.requires.0.few)

pub slice_bounds-sort-end : goal.slice_bounds-sort-end
slice_bounds-sort-end c = sym (front_length _ c.sweep-swept.new.norms _ (c.sweep-swept.auto.norms ∙ length-take-le _ _ c.requires.0.few))

pub slice_bounds-sort-end-2 : goal.slice_bounds-sort-end-2
slice_bounds-sort-end-2 c =
    let small-enough : let a = c.args in a.cut.rows ≤ length a.scratch.now = omega (arith, rows_fit _ _ _ c.requires.0, c.requires.2) in
    le_same (small-enough) (search rules)

pub slice_bounds-sort-end-3 : goal.slice_bounds-sort-end-3
slice_bounds-sort-end-3 c =
    let small-enough : let a = c.args in a.cut.rows ≤ length a.scratch.now = omega (arith, rows_fit _ _ _ c.requires.0, c.requires.2) in
    sym (length-take-le _ _ (le_same (small-enough) (search rules)))

pub sort-requires : goal.sort-requires
sort-requires c =
    let small-enough : let a = c.args in a.cut.rows ≤ length a.scratch.now = omega (arith, rows_fit _ _ _ c.requires.0, c.requires.2) in
    let p = c.requires in
    (p.0.few, front_length _ c.sweep-swept.new.norms _ (c.sweep-swept.auto.norms ∙ length-take-le _ _ p.0.few), p.1, length-take-le _ _ (le_same (small-enough) (search rules)))

pub returns : goal.returns
returns c =
    let p = c.requires in
    let t = c.sweep-swept in
    (values-made _ _ _ p.0 (take_at _ _ _ (t.auto.norms ∙ length-take-le _ _ p.0.few) ∙ t.ensures.0) c.sort.ensures.1, t.ensures.1, t.ensures.2)
