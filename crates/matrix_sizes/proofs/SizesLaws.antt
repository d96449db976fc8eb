-- Laws of a matrix's sizes. Assumes nothing.
use mathlib.Core.Path.{◌≡◌, refl, sym}
use mathlib.Core.Bool.{Bool, true, false, not, cond}
use Prim.Native.Nat.{ℕ, zero, suc, ◌*◌, ◌≤◌, ◌<◌}
use native.Mathlib.Nat.{mul-le-mul, mul-le-mul_left, mul-le-mul_right, le-mul_of_pos_right}
use native.Mathlib.Omega.{arith}
use lib.Dec.{leb, ltb}
use borrow.Author.Tests.{lt-ltb, le-ltb, ltb-true, ltb-false, leb-true, not-false}
use Rattle.answers.specs.Paper.{done, refuse}
use Rattle.answers.proofs.PaperLaws.{refuse-done, refuse-small}
use Rattle.matrix_sizes.specs.Sizes.{side_of, rows_of, matrix_sizes, MatrixSized}

-- ---- the smaller size and the larger one

pub side-wide : (m n : ℕ) → m < n → (side_of m n ≡ m) × (rows_of m n ≡ n)
unfolding side_of rows_of
side-wide m n h = (rw (lt-ltb m n h), rw (lt-ltb m n h))

pub side-tall : (m n : ℕ) → n ≤ m → (side_of m n ≡ n) × (rows_of m n ≡ m)
unfolding side_of rows_of
side-tall m n h = (rw (le-ltb m n h), rw (le-ltb m n h))

pub side-low : (m n : ℕ) → (side_of m n ≤ m) × (side_of m n ≤ n)
unfolding side_of
side-low m n = pick (ltb m n) refl
  where
    pick : (b : Bool) → ltb m n ≡ b → (cond b m n ≤ m) × (cond b m n ≤ n)
    pick true e =
        let h : m < n = ltb-true m n e in
        (omega arith, omega arith)
    pick false e =
        let h : n ≤ m = ltb-false m n e in
        (omega arith, omega arith)

square-has : (k : ℕ) → k ≤ k * k
square-has zero = omega arith
square-has (suc k) = le-mul_of_pos_right (suc k) (omega arith)

-- the products that are reckoned
pub side-cells : (m n k : ℕ) → k ≡ side_of m n → (m * k ≤ m * n) × (k * n ≤ m * n) × (k ≤ m * n)
side-cells m n k e =
    let l = side-low m n in
    let a : k ≤ m = rw (sym e) at l.0 in
    let b : k ≤ n = rw (sym e) at l.1 in
    let q : k * k ≤ m * n = mul-le-mul a b in
    (mul-le-mul_left m b, mul-le-mul_right n a, omega (arith, square-has k))

-- ---- 1

pub size-done : (m n : ℕ) → (matrix_sizes m n).0 ≡ 0 → MatrixSized m n
unfolding matrix_sizes
size-done m n e =
    let a = refuse-done (not (leb 1 m)) 0 0 _ e in
    let b = refuse-done (not (leb 1 n)) 0 0 _ a.1 in
    let c = refuse-done (ltb 4096 (m * n)) 0 0 _ b.1 in
    record {
      some-rows = leb-true 1 m (not-false (leb 1 m) a.0);
      some-columns = leb-true 1 n (not-false (leb 1 n) b.0);
      few = ltb-false 4096 (m * n) c.0;
    }

pub size_small : (m n : ℕ) → (matrix_sizes m n).0 < 8
unfolding matrix_sizes
size_small m n =
    let one : 1 < 8 = omega arith in
    refuse-small (not (leb 1 m)) 1 0 (refuse (not (leb 1 n)) (1, 0) (refuse (ltb 4096 (m * n)) (1, 0) done)) one
    (refuse-small (not (leb 1 n)) 1 0 (refuse (ltb 4096 (m * n)) (1, 0) done) one (refuse-small (ltb 4096 (m * n)) 1 0 done one (omega arith)))
