-- `numbers::root_bits` meets its contract (`Scaling.antt`). Assumes nothing.
use mathlib.Core.Path.{ap, subst}
use Prim.Native.Nat.{ℕ, ◌-◌}
use native.Mathlib.Omega.{arith}
use Rattle.numbers.specs.Steps.{RootOf}
use Rattle.numbers.proofs.Scaling.{zeros-most, zeros-least, up_least, up-most, up_same, normal-same}
use Rattle.numbers.proofs.root_bits.Goals as goal

pub overflow_sub-z : goal.overflow_sub-z
overflow_sub-z c = omega (arith, zeros-least _ c.requires.0 c.if-b-lt4503599627370496.true)

pub overflow_shl-b : goal.overflow_shl-b
overflow_shl-b c = omega (arith, zeros-most _ c.requires.0 c.if-b-lt4503599627370496.true)

pub overflow_sub-z-then-b-lt4503599627370496 : goal.overflow_sub-z-then-b-lt4503599627370496
overflow_sub-z-then-b-lt4503599627370496 c = omega (arith, zeros-most _ c.requires.0 c.if-b-lt4503599627370496.true)

pub scaled_root-requires : goal.scaled_root-requires
scaled_root-requires c =
    let p = c.requires.0 in
    let t = c.if-b-lt4503599627370496.true in
    (up_least _ p t _ (ap (λ (v : ℕ). v - 11) c.from-z.ensures), up-most _ p t _ (ap (λ (v : ℕ). v - 11) c.from-z.ensures), omega arith)

pub returns-then-b-lt4503599627370496 : goal.returns-then-b-lt4503599627370496
returns-then-b-lt4503599627370496 c = (
  (λ h. subst (λ (n : ℕ). RootOf n c.scaled_root.result) (up_same _ c.requires.0 c.if-b-lt4503599627370496.true _ (ap (λ (v : ℕ). v - 11) c.from-z.ensures)) c.scaled_root.ensures),
  (λ h. absurd (omega arith)),
)

pub returns : goal.returns
returns c = (
  (λ h. absurd (omega arith)),
  (λ h. subst (λ (n : ℕ). RootOf n c.scaled_root-2.result) (normal-same _ h) c.scaled_root-2.ensures),
)
