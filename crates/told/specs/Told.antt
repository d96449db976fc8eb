-- What an exported call says of its answer. Assumes nothing.
use Rattle.std.specs.Prelude.{◌≡◌, ℕ, Result}
use Rattle.answers.specs.declared.Refusal.{Refusal}
use Rattle.answers.specs.Paper.{Answer, paper}

-- the answer's number and place, as the paper has them
pub record Told {A : Type 0} (a : Result A Refusal) (number place : ℕ) : Type 0 where
  pub numbered : number ≡ (paper a).0
  pub placed : place ≡ (paper a).1

-- the entry point's contract holds of the answer that has this number and place
abbrev pub Exported : (Answer → Type 0) → ℕ → ℕ → Type 0
Exported contract number place = (a : Answer) × Told a number place × contract a

-- the same for a call that gives a further result, a count, rank, base or yes and no: what is handed on of it, on a refusal too
abbrev pub ExportedWith : {R A W : Type 0} → (R → Result A Refusal) → (R → W) → (R → Type 0) → ℕ → ℕ → W → Type 0
ExportedWith {R} answer value contract number place result = (k : R) × Told (answer k) number place × (result ≡ value k) × contract k

-- of a call that gives a value, or is refused: its answer is what it gives
abbrev pub ExportedResult : {A W : Type 0} → (Result A Refusal → W) → (Result A Refusal → Type 0) → ℕ → ℕ → W → Type 0
ExportedResult {A} value contract number place result = ExportedWith {R = Result A Refusal} {A = A} (λ k. k) value contract number place result
