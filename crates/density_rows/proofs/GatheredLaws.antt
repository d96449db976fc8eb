-- Laws of what `specs/Gathered.antt` defines. Assumes nothing.
use mathlib.Core.Path.{◌≡◌, sym, ap, ◌∙◌}
use mathlib.Core.List.{List}
use mathlib.Core.Logic.{⊎_elim}
use Prim.Native.Nat.{ℕ, ◌+◌, ◌*◌, ◌≤◌, ◌<◌, ◌^◌}
use native.Mathlib.Nat.{eq-or-lt_of_le}
use native.Mathlib.Numerals.{add-one}
use native.Mathlib.Omega.{arith}
use lib.Arith.{digits_lt}
use lib.Bits.{bit_or, or_lt}
use lib.Ieee.{Float}
use lib.ListN.{length, get_or}
use Rattle.complex.specs.declared.Complex.{Complex}
use Rattle.complex.specs.Cells.{cell_at}
use Rattle.complex.specs.Planes.{plane_at, set_plane}
use Rattle.complex.proofs.PlanesLaws.{length-set_plane}
use Rattle.submasks.specs.Submasks.{submask_at, next_submask}
use Rattle.submasks.proofs.SubmaskLaws.{submask_at-lt, submask_at-first, next-submask_at}
use Rattle.density_entries.specs.Filled.{EntriesReady}
use Rattle.density_rows.proofs.PlaneChanges.{plane-same, plane-other}
use Rattle.density_rows.specs.Gathered.{amplitude_of, reach, OneSteps, Gathered}

module _ (s : List Float) (offsets : List ℕ) (base at : ℕ) (old : List Float) where
  pub one-step : (now end : List Float) (t dim : ℕ) (z : Complex) → OneSteps s offsets base at old now t → t < dim → at + dim ≤ 4096 → length old ≡ 8192
      → z ≡ cell_at s (bit_or (get_or offsets t 0) base) → end ≡ set_plane now 4096 (at + t) z → OneSteps s offsets base at old end (t + 1)
  one-step now end t dim z i h room l ez ee = record {
    long = ap length ee ∙ length-set_plane now 4096 (at + t) z ∙ i.long;
    are = λ k g.
        ap (λ (x : List Float). plane_at x 4096 (at + k)) ee
        ∙ ⊎_elim
        (λ (e : k ≡ t).
        ap (λ (x : ℕ). plane_at (set_plane now 4096 (at + t) z) 4096 (at + x)) e
        ∙ plane-same now 4096 (at + t) z (omega arith) (omega (arith, i.long)) ∙ ez ∙ ap (λ (x : ℕ). cell_at s (bit_or (get_or offsets x 0) base)) (sym e))
        (λ (q : k < t). plane-other now 4096 (at + t) (at + k) z (omega arith) (omega arith) (λ e. omega arith) ∙ i.are k q)
        (eq-or-lt_of_le (omega arith));
    kept = λ j g.
        ap (λ (x : List Float). plane_at x 4096 j) ee
        ∙ plane-other now 4096 (at + t) j z (omega arith) (omega arith) (λ e. omega arith) ∙ i.kept j g;
  }

pub record GatherSteps (n : ℕ) (s : List Float) (mask : ℕ) (offsets : List ℕ) (dim m : ℕ) (planes : List Float) (base e : ℕ) : Type 0 where
  pub within : e ≤ m
  pub base-is : base ≡ submask_at n mask e
  pub gathered : Gathered (amplitude_of n s mask offsets) dim planes e

pub gather-reach : (n : ℕ) (s : List Float) (mask : ℕ) (offsets : List ℕ) (dim base e t : ℕ) → EntriesReady n s mask offsets dim → base ≡ submask_at n mask e → t < dim
    → reach n s (get_or offsets t 0) base
gather-reach n s mask offsets dim base e t p eb h =
    let b : bit_or (get_or offsets t 0) base < 2 ^ n = rw eb (or_lt n (get_or offsets t 0) (submask_at n mask e) (p.below t h) (submask_at-lt n mask e)) in
    omega (arith, p.long)

module _ (n : ℕ) (s : List Float) (mask : ℕ) (offsets : List ℕ) (dim m : ℕ) where
  pub gather-begin : (planes : List Float) → length planes ≡ 8192 → GatherSteps n s mask offsets dim m planes 0 0
  gather-begin planes l = record {
    within = omega arith;
    base-is = sym (submask_at-first n mask);
    gathered = record { long = l; are = λ e t h g. absurd (omega arith) };
  }

  pub gather-step : (now end : List Float) (base base' e : ℕ) → EntriesReady n s mask offsets dim → GatherSteps n s mask offsets dim m now base e → e < m
      → OneSteps s offsets base (e * dim) now end dim → base' ≡ next_submask base mask → GatherSteps n s mask offsets dim m end base' (e + 1)
  gather-step now end base base' e p i h o eb = record {
    within = omega arith;
    base-is = eb ∙ ap (λ (x : ℕ). next_submask x mask) i.base-is ∙ next-submask_at n mask e (omega (arith, p.small)) p.mask_lt ∙ ap (submask_at n mask) (sym (add-one e));
    gathered = record {
      long = o.long ∙ i.gathered.long;
      are = λ d t g ht.
          ⊎_elim
          (λ (q : d ≡ e).
          ap (λ (x : ℕ). plane_at end 4096 (x * dim + t)) q ∙ o.are t ht ∙ ap (λ (x : ℕ). cell_at s (bit_or (get_or offsets t 0) x)) i.base-is
          ∙ ap (amplitude_of n s mask offsets t) (sym q))
          (λ (q : d < e). o.kept (d * dim + t) (digits_lt q ht) ∙ i.gathered.are d t q ht)
          (eq-or-lt_of_le (omega arith));
    };
  }
