-- What a scan that found nothing says of each number and of each cell. Assumes nothing.
use mathlib.Core.Path.{◌≡◌}
use mathlib.Core.Bool.{true, not}
use mathlib.Core.List.{List, [], ◌∷◌}
use Prim.Native.Nat.{ℕ, zero, suc, ◌+◌, ◌*◌, ◌/◌, ◌<◌}
use native.Mathlib.Omega.{arith}
use borrow.Author.Tests.{not-false}
use lib.Ieee.{Float, nan}
use lib.ListN.{length, get_or}
use Rattle.answers.proofs.PaperLaws.{refuse-done}
use Rattle.numbers.specs.Numbers.{allowed}
use Rattle.complex.specs.Cells.{cell_at, components}

pub all-allowed : (i : ℕ) (l : List Float) (k : ℕ) → (components i l).0 ≡ 0 → k < length l → allowed (get_or l k nan) ≡ true
unfolding components
all-allowed i [] k e h = absurd (omega arith)
all-allowed i (x ∷ l) zero e h = not-false (allowed x) (refuse-done (not (allowed x)) 6 (i / 2) (components (suc i) l) e).0
all-allowed i (x ∷ l) (suc k) e h =
    all-allowed (suc i) l k (refuse-done (not (allowed x)) 6 (i / 2) (components (suc i) l) e).1 (omega arith)

pub cell-allowed : (l : List Float) (k : ℕ) → (components 0 l).0 ≡ 0 → 2 * k + 1 < length l → (allowed (cell_at l k).re ≡ true) × (allowed (cell_at l k).im ≡ true)
cell-allowed l k e h = (all-allowed 0 l (2 * k) e (omega arith), all-allowed 0 l (2 * k + 1) e h)
