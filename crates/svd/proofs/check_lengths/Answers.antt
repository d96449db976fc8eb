-- `svd::check_lengths` meets its contract: five lengths, one after the other. Assumes nothing.
use native.Mathlib.Omega.{arith}
use Rattle.svd.proofs.SvdLaws.{few-cells}
use Rattle.svd.proofs.check_lengths.Goals as goal

pub overflow_mul-m-3 : goal.overflow_mul-m-3
overflow_mul-m-3 c = let few = few-cells _ _ _ c.smaller_size-k.ensures c.requires in omega arith

pub overflow_mul-m-4 : goal.overflow_mul-m-4
overflow_mul-m-4 c = let few = few-cells _ _ _ c.smaller_size-k.ensures c.requires in omega arith

pub overflow_mul-k : goal.overflow_mul-k
overflow_mul-k c = let few = few-cells _ _ _ c.smaller_size-k.ensures c.requires in omega arith

pub overflow_mul-k-2 : goal.overflow_mul-k-2
overflow_mul-k-2 c = let few = few-cells _ _ _ c.smaller_size-k.ensures c.requires in omega arith

pub overflow_mul-k-3 : goal.overflow_mul-k-3
overflow_mul-k-3 c = let few = few-cells _ _ _ c.smaller_size-k.ensures c.requires in omega arith

pub overflow_add-m : goal.overflow_add-m
overflow_add-m c = let few = few-cells _ _ _ c.smaller_size-k.ensures c.requires in omega arith
