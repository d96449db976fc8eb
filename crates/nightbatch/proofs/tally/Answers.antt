use Rattle.nightbatch.proofs.BatchLaws.{tallied-none}
use Rattle.lot_tallies.specs.Tallies.{Tallied}
use Prim.Native.Nat.{ℕ}
use native.Mathlib.Omega.{arith}
use mathlib.Core.Path.{◌≡◌, subst}
use borrow.Author.Rules.{rules}
use Rattle.nightbatch.proofs.tally.Goals as goal

pub loop-i-init : goal.loop-i-init
loop-i-init g c = (search rules, omega (arith, c.requires), tallied-none _ c.empty-sheet.ensures)

pub add_file-sheet-requires : goal.add_file-sheet-requires
add_file-sheet-requires g c = (c.loop-i.invariant.2, omega (arith, c.requires, c.loop-i-test.true))

pub overflow_add-from-in-loop-i : goal.overflow_add-from-in-loop-i
overflow_add-from-in-loop-i g c = omega (arith, c.loop-i.invariant.1, c.number_at-size.ensures, c.loop-i-test.true, c.requires)

pub loop-i-preserved : goal.loop-i-preserved
loop-i-preserved g c = (search rules, omega (arith, c.loop-i.invariant.1, c.number_at-size.ensures), c.add_file-sheet.ensures.tallied)

pub returns : goal.returns
returns g c = let e : c.loop-i.i ≡ c.args.count = omega (arith, c.loop-i-test.false) in subst (λ (n : ℕ). Tallied c.loop-i.sheet n) e c.loop-i.invariant.2
