-- `svd_pair::write_two` meets its contract: the four parts may be stored in any order. Assumes nothing.
use native.Mathlib.Omega.{arith}
use mathlib.Core.List.{List}
use Prim.Native.Nat.{ℕ, ◌<◌}
use lib.Ieee.{Float}
use lib.ListN.{length, length-set, set}
use Rattle.svd_pair.proofs.TurnsLaws.{write-both}
use Rattle.svd_pair.proofs.write_two.Goals as goal

-- a place of a list is one of the list with some cells set
in_one : (l : List Float) (i : ℕ) (x : Float) (k : ℕ) → k < length l → k < length (set l i x)
in_one l i x k h = rw length-set h

in_two : (l : List Float) (i : ℕ) (x : Float) (j : ℕ) (y : Float) (k : ℕ) → k < length l → k < length (set (set l i x) j y)
in_two l i x j y k h = in_one (set l i x) j y k (in_one l i x k h)

in_three : (l : List Float) (i : ℕ) (x : Float) (j : ℕ) (y : Float) (o : ℕ) (z : Float) (k : ℕ) → k < length l → k < length (set (set (set l i x) j y) o z)
in_three l i x j y o z k h = in_one (set (set l i x) j y) o z k (in_two l i x j y k h)

pub bounds-xs-next : goal.bounds-xs-next
bounds-xs-next c = in_one c.args.xs.now _ _ _ (omega (arith, c.requires.0, c.requires.1))

pub bounds-xs-imaginary : goal.bounds-xs-imaginary
bounds-xs-imaginary c = in_two c.args.xs.now _ _ _ _ _ (omega (arith, c.requires.0, c.requires.1))

pub bounds-xs-last : goal.bounds-xs-last
bounds-xs-last c = in_three c.args.xs.now _ _ _ _ _ _ _ (omega (arith, c.requires.0, c.requires.1))

pub returns : goal.returns
returns c = write-both _ _ _ _ _ c.requires.1
