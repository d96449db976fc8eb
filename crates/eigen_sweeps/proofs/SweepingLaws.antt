-- Laws of what `specs/Sweeping.antt` defines. Assumes nothing.
use mathlib.Core.Path.{◌≡◌, refl}
use mathlib.Core.List.{List, []}
use Prim.Native.Nat.{ℕ, ◌+◌, ◌*◌}
use native.Mathlib.Numerals.{add-one}
use lib.Ieee.{Float}
use Rattle.complex.specs.declared.Complex.{Complex}
use Rattle.complex.specs.Planes.{plane_at}
use Rattle.complex.specs.Zeros.{zero_float}
use Rattle.numbers.specs.Numbers.{larger_of}
use Rattle.svd_pair.specs.Decisions.{Decision}
use Rattle.sweeps.specs.declared.Sweeps.{Sweeps}
use Rattle.sweeps.specs.Sweeping.{counted, no_sweeps, pair_step, sweeps_to}
use Rattle.sweeps.proofs.SweepingLaws.{pair_made as made, settled-start as start}
use Rattle.eigen_pair.specs.Decide.{eigen_decision}
use Rattle.eigen_pair.specs.Turn.{eigen_applied}
use Rattle.eigen_sweeps.specs.Sweeping.{diagonal, largest_to, eigen_state, eigen_pairing, eigen_pairings, eigen_settled}
use Rattle.sweeps.proofs.Ceiling.{Ceiling, settled-within}

-- ---- the laws that the proofs cite

pub largest-none : (xs : List Float) (n : ℕ) → zero_float ≡ largest_to xs n 0
unfolding largest_to
largest-none xs n = refl

pub largest-more : (xs : List Float) (n k : ℕ) {m x y : Float} → m ≡ largest_to xs n k → x ≡ diagonal xs n k → y ≡ larger_of m x → y ≡ largest_to xs n (k + 1)
unfolding largest_to
largest-more xs n k e f g = rw (add-one, ← e, ← f) g

pub pair_made : (n : ℕ) (largest : Float) (p q : ℕ) (xs : List Float) (s : Sweeps) (d : Decision) (z : Complex) (x y : Float) (work : List Float) (t : Sweeps)
    → z ≡ plane_at xs (n * n) (p * n + q) → x ≡ diagonal xs n p → y ≡ diagonal xs n q → d ≡ eigen_decision z x y largest
    → work ≡ eigen_applied d n p q xs → t ≡ counted d s
    → eigen_state work t ≡ pair_step (eigen_pairing n largest) p q (eigen_state xs s)
unfolding eigen_pairing
pair_made n largest p q xs s d z x y work t ez ex ey e f g =
    made (eigen_pairing n largest) p q (eigen_state xs s) d work [] t (rw (← ez, ← ex, ← ey) e) f refl g

pub settled-start : (n : ℕ) (work : List Float) → sweeps_to (eigen_pairings n) n 60 (eigen_state work no_sweeps) ≡ eigen_settled n work
unfolding eigen_settled
settled-start n work = start (eigen_pairings n) 60 n work []

-- the ceiling on turned pairs, at 60 sweeps
pub settled-ceiling : (n : ℕ) (work : List Float) → Ceiling 60 n (eigen_settled n work).sweeps
unfolding eigen_settled
settled-ceiling n work = settled-within (eigen_pairings n) 60 n work []
