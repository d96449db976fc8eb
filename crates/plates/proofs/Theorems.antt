-- What the density call shows of plates on the far side: nothing. From its contract alone. Assumes nothing.
use mathlib.Core.Path.{◌≡◌, refl, sym, ap, ap₂, ◌∙◌}
use mathlib.Core.List.{List}
use Prim.Native.Nat.{ℕ, ◌-◌, ◌*◌, ◌/◌, ◌%◌, ◌^◌, ◌<◌}
use native.Mathlib.Omega.{arith}
use lib.Bits.{bit_or, or_lt}
use lib.Ieee.{Float}
use lib.ListN.{length}
use Rattle.answers.specs.Paper.{Answer, Reply, and_then, if_done}
use Rattle.answers.proofs.Theorems.{paper-one}
use Rattle.complex.specs.declared.Complex.{Complex}
use Rattle.complex.specs.Arithmetic.{complex_of, product, conjugate}
use Rattle.complex.specs.Cells.{cell_at}
use Rattle.complex.specs.Zeros.{zeroed}
use Rattle.submasks.specs.Submasks.{submask_at, submask_number, others}
use Rattle.submasks.proofs.SubmaskLaws.{union, column-of, submask_at-submask_number}
use Rattle.qubits.specs.Lists.{Listed}
use Rattle.qubits.specs.Spread.{spread, named, traced_base}
use Rattle.qubits.proofs.SpreadLaws.{spread-lt}
use Rattle.qubits.proofs.NamedLaws.{named-lt, others-count}
use Rattle.qubits.proofs.OtherLaws.{traced-submask, traced-lt}
use Rattle.qubit_offsets.specs.Calls.{density_refusal}
use Rattle.density_entries.specs.Entries.{setting_amplitude, lower_entry, density_cell}
use Rattle.densities.specs.Density.{density_lengths, density_answer, density_list, Density}
use Rattle.densities.proofs.DensityLaws.{accepted}
use Rattle.signs.proofs.Signs.{neg-neg}
use Rattle.agreement.proofs.SameDensity.{spread-submask, total-same, mirrored-same}
use Rattle.agreement.proofs.AgreementLaws.{written_same, done-same}
use Rattle.plates.specs.Plates.{Plate, quarter, half, back, by_plate}
use Rattle.plates.proofs.PlatesLaws.{back_is, term-same, plated-length, plated-cell, components-same}
use Rattle.plates.specs.Behind.{setting_of, plate_of, behind}

answer-same : (s : List Float) (n : ℕ) (l : List ℕ) (c : ℕ → Plate) (cap o w : ℕ) → density_answer (behind n l c s) n l cap o w ≡ density_answer s n l cap o w
answer-same s n l c cap o w =
    ap₂ (λ (k : ℕ) (z : Reply). and_then (density_refusal n cap l) (and_then (density_lengths (2 ^ n) (2 ^ length l) k o w) z))
    (plated-length (plate_of n l c) 0 s) (components-same (plate_of n l c) s)

module _ (n : ℕ) (l : List ℕ) (p : Listed n l) where
  -- The setting of an amplitude is its traced index: e, of the one that the row offset of t and the traced base of e name.
  pub setting : (t e : ℕ) → e < 2 ^ (n - length l) → setting_of n l (bit_or (spread l t) (traced_base n l e)) ≡ e
  setting t e h =
      let m = named l in
      let j = submask_number n m (spread l t) in
      let lt = named-lt n l p in
      let a : submask_at n m j ≡ spread l t = submask_at-submask_number n m (spread l t) lt ∙ spread-submask 0 l t in
      ap (submask_number n (others n m)) (ap₂ bit_or (sym a) (traced-submask n l p e) ∙ union n m j e lt)
      ∙ column-of n m j e lt (rw (others-count n l p) h)

  index-lt : (t e : ℕ) → bit_or (spread l t) (traced_base n l e) < 2 ^ n
  index-lt t e = or_lt n (spread l t) (traced_base n l e) (spread-lt n l t p.below) (traced-lt n l p e)

  module _ (c : ℕ → Plate) (s : List Float) (long : length s ≡ 2 * 2 ^ n) where
    plated-amplitude : (t e : ℕ) → e < 2 ^ (n - length l) → setting_amplitude n l (behind n l c s) t e ≡ by_plate (c e) (setting_amplitude n l s t e)
    plated-amplitude t e h =
        let x = bit_or (spread l t) (traced_base n l e) in
        plated-cell (plate_of n l c) x s (omega (arith, index-lt t e, long)) ∙ ap (λ (y : ℕ). by_plate (c y) (cell_at s x)) (setting t e h)

    entry-same : (t u : ℕ) → lower_entry n l (behind n l c s) t u ≡ lower_entry n l s t u
    entry-same t u =
        total-same (2 ^ (n - length l)) _ _
        (λ e h. ap₂ (λ (a b : Complex). product a (conjugate b)) (plated-amplitude t e h) (plated-amplitude u e h)
        ∙ term-same (c e) (setting_amplitude n l s t e) (setting_amplitude n l s u e))

    list_same : (o : List Float) → density_list n l (behind n l c s) o ≡ density_list n l s o
    list_same o =
        written_same (2 ^ length l * 2 ^ length l) (density_cell n l (behind n l c s)) (density_cell n l s) o
        (λ k h. mirrored-same (lower_entry n l (behind n l c s)) (lower_entry n l s) entry-same (k / 2 ^ length l) (k % 2 ^ length l))

-- The far side's plates are unseen: for every state, accepted or refused, and every choice of plates for the settings of the unnamed
-- qubits, `dense_reduced_density` gives the same answer and place and leaves the same cells in both lent slices, bit for bit.
pub unseen : (s : List Float) (n : ℕ) (l : List ℕ) (c : ℕ → Plate) (cap : ℕ) (o w : List Float) (r r' : Answer) (d d' z z' : List Float)
    → Density s n l cap o w r d z → Density (behind n l c s) n l cap o w r' d' z' → (r ≡ r') × (d ≡ d') × (z ≡ z')
unseen s n l c cap o w r r' d d' z z' x y =
    let A = density_answer s n l cap (length o) (length w) in
    let e = answer-same s n l c cap (length o) (length w) in
    let f : (density_answer (behind n l c s) n l cap (length o) (length w)).0 ≡ A.0 = ap (λ (v : Reply). v.0) e in
    let m : if_done A.0 (density_list n l s o) o ≡ if_done A.0 (density_list n l (behind n l c s) o) o
    = done-same A.0 (density_list n l s o) (density_list n l (behind n l c s) o) o
    (λ h. let q = (accepted s n l cap (length o) (length w) h).0 in sym (list_same n l q.listed c s q.state o)) in (
      paper-one r r' (x.answer ∙ sym e ∙ sym y.answer),
      x.matrix ∙ m ∙ ap (λ (v : ℕ). if_done v (density_list n l (behind n l c s) o) o) (sym f) ∙ sym y.matrix,
      x.cleared ∙ ap (λ (v : ℕ). if_done v (zeroed (2 * 2 ^ length l) w) w) (sym f) ∙ sym y.cleared,
    )

-- The plates are the powers of i: two quarters are a half, three are back, and four are none.
pub quarters : (a : Complex) → (by_plate quarter (by_plate quarter a) ≡ by_plate half a) × (by_plate quarter (by_plate half a) ≡ by_plate back a) × (by_plate quarter (by_plate back a) ≡ a)
quarters a = (refl, sym (back_is a), ap (λ (x : Float). complex_of x a.im) (neg-neg a.re))
