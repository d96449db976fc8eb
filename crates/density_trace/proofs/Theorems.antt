-- What a reader may want to know of this crate's definitions and calls. Assumes nothing.
use mathlib.Core.Path.{◌≡◌}
use mathlib.Core.List.{List}
use Prim.Native.Nat.{ℕ}
use lib.Ieee.{Float}
use Rattle.answers.specs.Paper.{Answer}
use Rattle.densities.specs.Square.{InPlace}
use Rattle.densities.proofs.SquareLaws.{place-one}
use Rattle.density_trace.specs.Trace.{normalize_answer, normalized}

-- Only one outcome meets the contract of `normalize_trace`.
pub normalize-trace-one : (s : List Float) (dim : ℕ) (r r' : Answer) (end end' : List Float)
    → InPlace (normalize_answer s dim) (normalized s dim) s r end → InPlace (normalize_answer s dim) (normalized s dim) s r' end' → (r ≡ r') × (end ≡ end')
normalize-trace-one s dim r r' end end' p q = place-one (normalize_answer s dim) (normalized s dim) s r r' end end' p q
