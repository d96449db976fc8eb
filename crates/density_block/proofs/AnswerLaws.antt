-- The answers of `multiply_block_factor`, what they say where they are 0, and that only one outcome meets its contract. Assumes nothing.
use mathlib.Core.Path.{◌≡◌}
use mathlib.Core.Bool.{not}
use mathlib.Core.List.{List}
use Prim.Native.Nat.{ℕ, ◌*◌, ◌^◌, ◌≤◌, ◌<◌}
use native.Mathlib.Omega.{arith}
use borrow.Author.Tests.{eqb-true, not-false}
use lib.Dec.{eqb}
use lib.Ieee.{Float}
use lib.ListN.{length, get_or}
use Rattle.answers.specs.Paper.{done, refuse, and_then}
use Rattle.answers.proofs.PaperLaws.{refuse-done, and_then-done}
use Rattle.complex.specs.Cells.{components}
use Rattle.qubits.specs.Lists.{qubit_set}
use Rattle.qubits.proofs.NamedLaws.{is-listed, not-empty}
use Rattle.densities.proofs.DensityLaws.{side-small}
use Rattle.density_block.specs.Factor.{width_of, block_sizes, block_lengths, block_answer, Factored}
use Rattle.density_block.proofs.FactorLaws.{width_power}

-- ---- answer 1

module _ (dim : ℕ) (l : List ℕ) (side : ℕ) where
  sizes-done : (block_sizes dim l side).0 ≡ 0 → ((qubit_set (width_of 6 dim) l).0 ≡ 0) × (side ≡ 2 ^ length l)
  sizes-done e =
      let a = refuse-done (not (eqb (qubit_set (width_of 6 dim) l).0 0)) 0 0 (refuse (not (eqb side (2 ^ length l))) (1, 0) done) e in
      let b = refuse-done (not (eqb side (2 ^ length l))) 0 0 done a.1 in (
        eqb-true (qubit_set (width_of 6 dim) l).0 0 (not-false (eqb (qubit_set (width_of 6 dim) l).0 0) a.0),
        eqb-true side (2 ^ length l) (not-false (eqb side (2 ^ length l)) b.0),
      )

  pub short-list : (qubit_set (width_of 6 dim) l).0 ≡ 0 → length l ≤ 12
  short-list e = let p = is-listed (width_of 6 dim) l e in omega (arith, p.short, p.small)

  -- accepted positions are few and low, and dim is a power of two up to 64
  pub accepted-sizes : (block_sizes dim l side).0 ≡ 0 → (length l ≤ 6) × (dim ≤ 64) × (side ≡ 2 ^ length l)
  accepted-sizes e =
      let a = sizes-done e in
      let p = is-listed (width_of 6 dim) l a.0 in
      let w = width_power 6 dim (λ z. not-empty (width_of 6 dim) l a.0 (omega (arith, p.short))) in
      let d : dim ≤ 64 = rw w.0 (side-small (width_of 6 dim) w.1) in
      (omega (arith, p.short, w.1), d, a.1)

  pub low-positions : (block_sizes dim l side).0 ≡ 0 → (j : ℕ) → j < length l → get_or l j 0 < 64
  low-positions e j h = let p = is-listed (width_of 6 dim) l (sizes-done e).0 in omega (arith, p.below j h, p.small)

-- ---- answers 6 and 7

pub lengths-done : (dim side s f : ℕ) → (block_lengths dim side s f).0 ≡ 0 → (s ≡ 2 * (dim * dim)) × (f ≡ 2 * (side * side))
lengths-done dim side s f e =
    let a = refuse-done (not (eqb s (2 * (dim * dim)))) 5 0 (refuse (not (eqb f (2 * (side * side)))) (6, 2) done) e in
    let b = refuse-done (not (eqb f (2 * (side * side)))) 5 2 done a.1 in (
      eqb-true s (2 * (dim * dim)) (not-false (eqb s (2 * (dim * dim))) a.0),
      eqb-true f (2 * (side * side)) (not-false (eqb f (2 * (side * side))) b.0),
    )

pub accepted-factor : (s : List Float) (dim : ℕ) (l : List ℕ) (f : List Float) (side : ℕ) → (block_answer s dim l f side).0 ≡ 0 → Factored s dim l f side
accepted-factor s dim l f side e =
    let a = and_then-done (block_sizes dim l side) (and_then (block_lengths dim side (length s) (length f)) (and_then (components 0 s) (components 0 f))) e in
    let b = and_then-done (block_lengths dim side (length s) (length f)) (and_then (components 0 s) (components 0 f)) a.1 in
    let q = accepted-sizes dim l side a.0 in
    let d = lengths-done dim side (length s) (length f) b.0 in
    record {
      below = record { few = q.0; low = low-positions dim l side a.0 };
      small = q.1;
      matrix = d.0;
      side-is = q.2;
      factor = d.1;
    }
