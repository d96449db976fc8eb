-- `svd_sweeps::pair` meets its contract: a case of the definition for each case of the decision. Assumes nothing.
use Rattle.whole_numbers.proofs.WholeLaws.{column_fits}
use Rattle.svd_sweeps.proofs.LateLaws.{pair_left, pair-turned}
use native.Mathlib.Omega.{arith}
use Prim.Native.Nat.{ℕ, ◌+◌, ◌*◌, ◌≤◌, ◌<◌}
use Rattle.svd_sweeps.proofs.pair.Goals as goal

-- both columns are within the work matrix
columns : (m n p q : ℕ) → p < q → q < n → (p * m + m ≤ q * m) × (q * m + m ≤ n * m)
columns m n p q h k = (column_fits p q m h, column_fits q n m k)

pub overflow_mul-n : goal.overflow_mul-n
overflow_mul-n c = let fits = columns c.args.m _ _ _ c.requires.1 c.requires.2 in omega arith

pub overflow_mul-p : goal.overflow_mul-p
overflow_mul-p c = let fits = columns c.args.m _ _ _ c.requires.1 c.requires.2 in omega arith

pub overflow_mul-q : goal.overflow_mul-q
overflow_mul-q c = let fits = columns c.args.m _ _ _ c.requires.1 c.requires.2 in omega arith

pub gram_of-requires : goal.gram_of-requires
gram_of-requires c = let fits = columns c.args.m _ _ _ c.requires.1 c.requires.2 in omega arith

pub overflow_mul-n-2 : goal.overflow_mul-n-2
overflow_mul-n-2 c = let fits = columns c.args.m _ _ _ c.requires.1 c.requires.2 in omega arith

pub overflow_mul-p-2 : goal.overflow_mul-p-2
overflow_mul-p-2 c = let fits = columns c.args.m _ _ _ c.requires.1 c.requires.2 in omega arith

pub overflow_mul-q-2 : goal.overflow_mul-q-2
overflow_mul-q-2 c = let fits = columns c.args.m _ _ _ c.requires.1 c.requires.2 in omega arith

pub turn_columns-requires : goal.turn_columns-requires
turn_columns-requires c = let fits = columns c.args.m _ _ _ c.requires.1 c.requires.2 in omega arith

pub returns-in_default : goal.returns-in_default
returns-in_default c = record { done = pair_left _ _ _ _ _ _ _ _ _ (rw c.gram_of.ensures at c.decide-d.ensures) c.in_default.is; waiting = c.requires.4 }

pub returns : goal.returns
returns c = record {
  done = pair-turned _ _ _ _ _ _ _ _ _ (rw c.gram_of.ensures at c.decide-d.ensures) c.in-Some.is c.catch_up.ensures c.turn_columns.ensures c.count.ensures;
  waiting = record { rising = c.requires.1; within = c.requires.2 };
}
