-- Laws of what `specs/Sweeping.antt` defines. Assumes nothing.
use mathlib.Core.Path.{◌≡◌, refl, sym}
use mathlib.Core.Bool.{false}
use mathlib.Core.List.{List, [], ◌∷◌}
use Prim.Native.Nat.{ℕ, ◌*◌}
use native.Mathlib.Omega.{arith}
use lib.Ieee.{Float}
use lib.ListN.{length}
use Rattle.svd_pair.specs.Decisions.{Decision}
use Rattle.svd_pair.specs.declared.Factors.{Factors}
use Rattle.svd_gram.specs.Gram.{gram_to}
use Rattle.svd_pair.specs.Decisions.{decision_of}
use Rattle.svd_pair.specs.Turns.{Making, exact, turn_rows, applied}
use Rattle.svd_pair.specs.Plain.{making}
use Rattle.svd_pair.proofs.TurnsLaws.{turn_rows-nothing}
use Rattle.sweeps.specs.declared.Sweeps.{Sweeps}
use Rattle.sweeps.specs.Sweeping.{State, state, counted, no_sweeps, pair_step, sweeps_to}
use Rattle.sweeps.proofs.SweepingLaws.{pair_made as made, settled-start as start}
use Rattle.sweeps.proofs.Values.{Alike, settled-alike as alike}
use Rattle.svd_sweeps.specs.Sweeping.{VRoom, svd_pairing, svd_pairings, settled_with, settled}
use Rattle.sweeps.proofs.Ceiling.{Ceiling, settled-within}

-- ---- the room

pub v-kept : {n k l : ℕ} → k ≡ l → VRoom n l → VRoom n k
v-kept e h = rw e h

-- where there is no V nothing is done to it
pub v-none : (g : Making) (f : Factors) (c a b m : ℕ) (v : List Float) → length v ≡ 0 → v ≡ turn_rows g f c a b m v
v-none g f c a b m [] h = sym (turn_rows-nothing g f c a b m)
v-none g f c a b m (x ∷ v) h = absurd (omega arith)

-- ---- the laws that the proofs cite

pub pair_made : (g : Making) (m n p q : ℕ) (s : State) (d : Decision) (work v : List Float) (t : Sweeps)
    → d ≡ decision_of (gram_to s.work (n * m) (p * m) (q * m) m)
    → work ≡ applied g d (n * m) (p * m) (q * m) m s.work → v ≡ applied g d (n * n) (p * n) (q * n) n s.v → t ≡ counted d s.sweeps
    → state work v t ≡ pair_step (svd_pairing g m n) p q s
unfolding svd_pairing
pair_made g m n p q s d work v t e f h i = made (svd_pairing g m n) p q s d work v t e f h i

pub settled-start : (g : Making) (m n : ℕ) (work v : List Float) → sweeps_to (svd_pairings g m n) n 100 (state work v no_sweeps) ≡ settled_with g m n work v
unfolding settled_with
settled-start g m n work v = start (svd_pairings g m n) 100 n work v

-- with the products by zeros they are 01's
pub settled-exact : (m n : ℕ) (work v : List Float) → settled_with (making false) m n work v ≡ settled m n work v
unfolding settled making
settled-exact m n work v = refl

-- no V changes the work matrix or the counts
pub settled-alike : (m n : ℕ) (work v v' : List Float) → Alike (settled m n work v) (settled m n work v')
unfolding settled settled_with
settled-alike m n work v v' = alike (svd_pairings exact m n) 100 n work v v'

-- the ceiling on turned pairs, at 100 sweeps
pub settled-ceiling : (m n : ℕ) (work v : List Float) → Ceiling 100 n (settled m n work v).sweeps
unfolding settled settled_with
settled-ceiling m n work v = settled-within (svd_pairings exact m n) 100 n work v
