-- What a reader may want to know of this crate's definitions and calls. Assumes nothing.
use mathlib.Core.Path.{◌≡◌, refl, ap}
use mathlib.Core.List.{[], ◌∷◌}
use Prim.Native.Nat.{ℕ}
use native.Mathlib.Omega.{arith}
use lib.Ieee.{Float}
use Rattle.complex.specs.Arithmetic.{complex_of}
use Rattle.std.proofs.Common.{None, Some}
use Rattle.svd_pair.specs.declared.Turn.{Turn}
use Rattle.svd_pair.specs.Decisions.{Decision, Verdict, verdict}

same_turn : {c s re im c' s' re' im' : Float} → c ≡ c' → s ≡ s' → re ≡ re' → im ≡ im'
    → ◌≡◌ {A = Turn} (record { cosine = c; sine = s; phase = complex_of re im }) (record { cosine = c'; sine = s'; phase = complex_of re' im' })
same_turn e f g h = cc

-- A decision's number and values say which decision it is.
pub verdict-one : (a b : Decision) → verdict a ≡ verdict b → a ≡ b
unfolding verdict
verdict-one None None h = refl
verdict-one None (Some u) h =
    let z : ◌≡◌ {A = ℕ} 0 1 = ap (λ (x : Verdict). x.number) h in
    absurd (omega arith)
verdict-one (Some t) None h =
    let z : ◌≡◌ {A = ℕ} 1 0 = ap (λ (x : Verdict). x.number) h in
    absurd (omega arith)
verdict-one (Some t) (Some u) h =
    let l : t.cosine ∷ t.sine ∷ t.phase.re ∷ t.phase.im ∷ [] ≡ u.cosine ∷ u.sine ∷ u.phase.re ∷ u.phase.im ∷ [] = ap (λ (x : Verdict). x.values) h in
    ap Some (same_turn (cc) (cc) (cc) (cc))
