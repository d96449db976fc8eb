-- A state behind plates on the far side: for each setting of the unnamed qubits one plate, chosen freely, before all amplitudes of that
-- setting. Definitions only.
use Rattle.std.specs.Prelude.{List, ℕ, Float}
use Rattle.submasks.specs.Submasks.{submask_number, others}
use Rattle.qubits.specs.Spread.{named}
use Rattle.plates.specs.Plates.{Plate, plated}

-- the setting of the unnamed qubits that the amplitude x has, as the traced index numbers it
abbrev pub setting_of : ℕ → List ℕ → ℕ → ℕ
setting_of n l x = submask_number n (others n (named l)) x

-- the plate before the amplitude x: its setting's
abbrev pub plate_of : ℕ → List ℕ → (ℕ → Plate) → ℕ → Plate
plate_of n l c x = c (setting_of n l x)

-- the state s behind the plates c: c e stands before all amplitudes of the setting e
abbrev pub behind : ℕ → List ℕ → (ℕ → Plate) → List Float → List Float
behind n l c s = plated (plate_of n l c) 0 s
