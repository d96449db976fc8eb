-- What a reader may want to know of the sweeps. Assumes nothing.
use mathlib.Core.Path.{◌≡◌, refl}
use mathlib.Core.List.{List}
use Prim.Native.Nat.{ℕ, ◌*◌}
use lib.Ieee.{Float}
use Rattle.sweeps.specs.Sweeping.{Pairing, settled_by}
use Rattle.sweeps.proofs.Ceiling.{Ceiling, pairs_of, settled-within}

-- whatever is done with a pair: at most `cap` times n(n-1)/2 turned pairs, and (sweeps - 1) times where the last sweep was quiet
pub ceiling : (f : List Float → Pairing) (cap n : ℕ) (work v : List Float) → Ceiling cap n (settled_by f cap n work v).sweeps
ceiling f cap n work v = settled-within f cap n work v

-- at 64 columns and 100 sweeps: 201,600
pub most-at-64 : 100 * pairs_of 64 ≡ 201600
most-at-64 = refl

-- and at 60 sweeps: 120,960
pub most-at-64-eigenvalues : 60 * pairs_of 64 ≡ 120960
most-at-64-eigenvalues = refl
