-- What the proofs of counting loops share. Assumes nothing.
use mathlib.Core.Path.{◌≡◌}
use mathlib.Core.Bool.{Bool, true, false, cond}
use Prim.Native.Nat.{ℕ, ◌≤◌}
use native.Mathlib.Omega.{arith}

-- a loop's value at the count where it stops is the value at the bound
pub stop : {A : Type 0} (f : ℕ → A) {x : A} {k m : ℕ} → x ≡ f k → k ≤ m → m ≤ k → x ≡ f m
stop f {x} {k} {m} e u v =
    let h : k ≡ m = omega arith in
    rw h at e

-- what a test picks, where its answer is known. `rw` with the answer itself would also rewrite inside x and y
pub cond_yes : {A : Type 0} {b : Bool} (x y : A) → b ≡ true → cond b x y ≡ x
cond_yes x y h = rw h

pub cond_no : {A : Type 0} {b : Bool} (x y : A) → b ≡ false → cond b x y ≡ y
cond_no x y h = rw h
