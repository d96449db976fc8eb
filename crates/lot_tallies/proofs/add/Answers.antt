-- `lot_tallies::add` meets its contract. Assumes nothing.
use Prim.Native.Nat.{◌-◌}
use native.Mathlib.Omega.{arith}
use Rattle.lot_tallies.proofs.SheetLaws.{answer-few, rank-few, sum-light, fair-small, refused-more, accepted-more}
use Rattle.lot_tallies.proofs.add.Goals as goal

pub overflow_add-out : goal.overflow_add-out
overflow_add-out c = omega (arith, answer-few _ _ c.requires.0 c.args.number (omega (arith, c.requires.2.few)), c.requires.1)

pub returns-then-number-gt0 : goal.returns-then-number-gt0
returns-then-number-gt0 c = λ rs is n. refused-more _ _ _ _ c.requires.2 rs is n (λ e. omega arith)

pub overflow_add-out-2 : goal.overflow_add-out-2
overflow_add-out-2 c = omega (arith, rank-few _ _ c.requires.0 (c.args.rank - 1) (omega (arith, c.requires.2.accepted (omega arith))), c.requires.1)

pub overflow_add-out-3 : goal.overflow_add-out-3
overflow_add-out-3 c = omega (arith, sum-light _ _ c.requires.0, c.requires.1, fair-small _ _ c.requires.2)

pub returns : goal.returns
returns c = λ rs is n. accepted-more _ _ _ _ c.requires.2 rs is n (omega arith) _ _ c.smaller-least.ensures c.larger-most.ensures
