-- Laws of the refusals, and what an accepted call has shown. Assumes nothing.
use mathlib.Core.Path.{◌≡◌, refl, sym, ap, ◌∙◌}
use mathlib.Core.Bool.{Bool, not, true, false}
use mathlib.Core.List.{List}
use Prim.Native.Nat.{ℕ, ◌+◌, ◌*◌, ◌/◌, ◌≤◌, ◌<◌}
use native.Mathlib.Numerals.{add-one}
use lib.Dec.{ltb}
use borrow.Author.Tests.{lt-ltb, le-ltb, ltb-false}
use lib.Ieee.{Float, nan}
use lib.ListN.{length, get_or, drop, drop_of_length-le}
use lib.Seq.{drop-cons}
use Rattle.std.proofs.Common.{Option, Some, None}
use Rattle.std.specs.Option.{is_none, is_some}
use Rattle.answers.specs.Paper.{Reply, done, refuse, and_then, exactly}
use Rattle.answers.proofs.PaperLaws.{refuse-done, and_then-done, exactly-done, both}
use Rattle.matrix_sizes.specs.Sizes.{side_of, matrix_sizes, MatrixSized}
use Rattle.matrix_sizes.proofs.SizesLaws.{size-done}
use Rattle.countersign_grid.specs.Grid.{grid_of}
use Rattle.countersign_grid.specs.declared.Grid.{Grid}
use Rattle.countersign_checks.specs.Checks.{countersign_sizes, countersign_lengths, off_grid}

-- ---- the sizes

module _ (m n : ℕ) {k : ℕ} (e : k ≡ side_of m n) where
  pub side-large : 16 < k → (1, 0) ≡ refuse (ltb 16 (side_of m n)) (1, 0) done
  side-large h = let g : 16 < side_of m n = rw e at h in rw (lt-ltb 16 (side_of m n) g)

  pub side-good : k ≤ 16 → done ≡ refuse (ltb 16 (side_of m n)) (1, 0) done
  side-good h = let g : side_of m n ≤ 16 = rw e at h in rw (le-ltb 16 (side_of m n) g)

pub sizes-done : (m n : ℕ) → (countersign_sizes m n).0 ≡ 0 → MatrixSized m n × (side_of m n ≤ 16)
unfolding countersign_sizes
sizes-done m n e =
    let p = and_then-done (matrix_sizes m n) _ e in
    (size-done m n p.0, ltb-false 16 (side_of m n) (refuse-done (ltb 16 (side_of m n)) 0 0 done p.1).0)

-- ---- the lengths

pub made-lengths : (m n a u s vt : ℕ) {k : ℕ} {p q r t x y z : Reply} → k ≡ side_of m n → p ≡ exactly 0 a (2 * (m * n)) → q ≡ exactly 1 u (2 * (m * k)) → r ≡ exactly 2 s k
    → t ≡ exactly 3 vt (2 * (k * n)) → x ≡ and_then r t → y ≡ and_then q x → z ≡ and_then p y → z ≡ countersign_lengths m n a u s vt
unfolding countersign_lengths
made-lengths m n a u s vt e p q r t x y z = rw (← e) (both z p (both y q (both x r t)))

pub lengths-done : (m n a u s vt : ℕ) → (countersign_lengths m n a u s vt).0 ≡ 0
    → (a ≡ 2 * (m * n)) × (u ≡ 2 * (m * side_of m n)) × (s ≡ side_of m n) × (vt ≡ 2 * (side_of m n * n))
unfolding countersign_lengths
lengths-done m n a u s vt e =
    let k = side_of m n in
    let p = and_then-done (exactly 0 a (2 * (m * n))) _ e in
    let q = and_then-done (exactly 1 u (2 * (m * k))) _ p.1 in
    let r = and_then-done (exactly 2 s k) (exactly 3 vt (2 * (k * n))) q.1 in
    (exactly-done 0 a (2 * (m * n)) p.0, exactly-done 1 u (2 * (m * k)) q.0, exactly-done 2 s k r.0, exactly-done 3 vt (2 * (k * n)) r.1)

-- ---- the scan for a number off the grid

none-is : (g : Option Grid) (b : Bool) → is_some g ≡ not b → is_none g ≡ b
none-is None true a = refl
none-is None false a = cc
none-is (Some g) true a = cc
none-is (Some g) false a = refl

pub grid-bad : (per : ℕ) (l : List Float) (i : ℕ) {g : Option Grid} {b : Bool} → i < length l → g ≡ grid_of (get_or l i nan) → is_some g ≡ not b → b ≡ true
    → off_grid per i (drop i l) ≡ (11, i / per)
unfolding off_grid
grid-bad per l i h e a f =
    let o : is_none (grid_of (get_or l i nan)) ≡ true = ap is_none (sym e) ∙ none-is _ _ a ∙ f in
    rw (drop-cons l i nan, o)

pub grid-good : (per : ℕ) (l : List Float) (i : ℕ) {g : Option Grid} {b : Bool} → i < length l → g ≡ grid_of (get_or l i nan) → is_some g ≡ not b → b ≡ false
    → off_grid per i (drop i l) ≡ off_grid per (i + 1) (drop (i + 1) l)
unfolding off_grid
grid-good per l i h e a f =
    let o : is_none (grid_of (get_or l i nan)) ≡ false = ap is_none (sym e) ∙ none-is _ _ a ∙ f in
    rw (add-one, drop-cons l i nan, o)

pub grid-end : (per : ℕ) (l : List Float) (i : ℕ) → length l ≤ i → off_grid per i (drop i l) ≡ done
unfolding off_grid
grid-end per l i h = rw (drop_of_length-le l h)
