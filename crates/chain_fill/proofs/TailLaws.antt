-- A tail of +0.0, and the last site. Assumes nothing.
use mathlib.Core.Path.{◌≡◌, refl, ap, ◌∙◌}
use mathlib.Core.List.{List, [], ◌++◌, append-nil}
use Prim.Native.Nat.{ℕ, ◌+◌, ◌-◌, ◌*◌, ◌≤◌, ◌<◌}
use native.Mathlib.Omega.{arith}
use lib.ListN.{length, take, drop, set, length-drop, length-set, drop_of_length-le}
use lib.Seq.{take_all}
use lib.Ieee.{Float}
use borrow.Rule.Slice.PartMut.{mid_of, put_mid}
use Rattle.complex.specs.Zeros.{zeros, zeroed}
use Rattle.chain_fill.specs.Fill.{Last}

-- every number of a list zeroed
pub all-zeroed : (l : List Float) (m : ℕ) → length l ≡ m → zeroed (length l) l ≡ zeros m
unfolding zeroed
all-zeroed l m e =
    let h : length l ≤ length l = omega arith in
    ap (λ (x : List Float). zeros (length l) ++ x) (drop_of_length-le l h) ∙ append-nil (zeros (length l)) ∙ ap zeros e

-- ---- the last site

pub last_made : (n bond at : ℕ) (u sites : List Float) (bonds starts : List ℕ) {ys : List Float}
    → ys ≡ take (4 * bond) u ++ zeros (length (mid_of (2 * at) (length sites - 2 * at) sites) - 4 * bond)
    → Last n bond at u sites bonds starts (put_mid (2 * at) (length sites - 2 * at) sites ys) (set (set bonds 0 1) n 1) (set (set starts 0 0) n (at + 2 * bond))
last_made n bond at u sites bonds starts {ys} e =
    let d : length (drop (2 * at) sites) ≡ length sites - 2 * at = length-drop (2 * at) sites in
    let l : length (drop (2 * at) sites) ≤ length sites - 2 * at = omega arith in
    let m : take (length sites - 2 * at) (drop (2 * at) sites) ≡ drop (2 * at) sites = take_all (length sites - 2 * at) (drop (2 * at) sites) l in
    let z : drop (length sites - 2 * at) (drop (2 * at) sites) ≡ [] = drop_of_length-le (drop (2 * at) sites) l in
    let k : length (mid_of (2 * at) (length sites - 2 * at) sites) ≡ length sites - 2 * at = ap length m ∙ d in
    let y : ys ≡ take (4 * bond) u ++ zeros (length sites - 2 * at - 4 * bond) = e ∙ ap (λ (x : ℕ). take (4 * bond) u ++ zeros (x - 4 * bond)) k in
    record {
      sites-is = rw (z, append-nil) (ap (λ (x : List Float). take (2 * at) sites ++ x) y);
      bonds-is = refl;
      starts_is = refl;
    }

pub inside-set : (l : List ℕ) (i x n : ℕ) → length l ≡ n + 1 → n < length (set l i x)
inside-set l i x n e = rw length-set (omega arith)
