-- `numbers::slow_root` meets its contract. The loop's invariant is `Taken`. Assumes nothing.
use Rattle.numbers.proofs.Digits.{Taken}
use Rattle.numbers.proofs.slow_root.Given as goal

abbrev pub invariant-loop : goal.invariant-loop
invariant-loop l = Taken l.n l.w l.s l.r l.counter
