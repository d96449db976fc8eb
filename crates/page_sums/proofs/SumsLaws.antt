-- Laws of the comparison: the cut is made, its matrix is summed, and the fronts of the two arrays are the two densities. Assumes nothing.
use mathlib.Core.Bool.{Bool, not}
use mathlib.Core.Path.{◌≡◌, sym, ap, ap₂, ◌∙◌}
use mathlib.Core.List.{List, [], ◌++◌, append-nil}
use Prim.Native.Nat.{ℕ, ◌*◌, ◌^◌, ◌≤◌}
use native.Mathlib.Omega.{arith}
use borrow.Author.Tests.{eq-eqb, le-ltb}
use lib.Ieee.{Float}
use lib.ListN.{length, take}
use lib.Pow.{pow_mono}
use lib.Seq.{length-take-le, drop-nil}
use Rattle.answers.specs.Paper.{Answer, Reply, done, refuse, and_then}
use Rattle.answers.proofs.PaperLaws.{and_then-done, done-new}
use Rattle.complex.specs.declared.Complex.{Complex}
use Rattle.complex.specs.Cells.{cells_of, written, components}
use Rattle.complex.proofs.CellLaws.{length-cells}
use Rattle.cut_sides.specs.Sides.{cut_refusal, Parted}
use Rattle.cut_sides.proofs.SideLaws.{is-parted}
use Rattle.cuts.specs.Cut.{cut_answer, cut_cell, cut_lengths, CutMatrix}
use Rattle.qubit_offsets.specs.Calls.{density_refusal}
use Rattle.densities.specs.Density.{density_lengths, DensityAccepted}
use Rattle.densities.proofs.DensityLaws.{accepted}
use Rattle.density_entries.specs.Entries.{density_cell}
use Rattle.agreement.specs.FromCut.{cut_density_cell}
use Rattle.density_recount.specs.Recount.{recounted, RecountAccepted}
use Rattle.density_recount.proofs.Pages.{front}
use Rattle.pages.specs.Agree.{same_floats, pages_same}
use Rattle.pages.proofs.Both.{goes}
use Rattle.page_sums.specs.Sums.{Summable}

pub length_whole : (m : ℕ) (f : ℕ → Complex) → length (written m f []) ≡ 2 * m
unfolding written
length_whole m f = ap (λ (x : List Float). length (cells_of m f ++ x)) (drop-nil (2 * m)) ∙ ap length (append-nil (cells_of m f)) ∙ length-cells m f

module _ (s : List Float) (n : ℕ) (l : List ℕ) (d : List Float) (is : Summable s n l d) where
  taken : DensityAccepted s n l 2048
  taken = (accepted s n l 10 2048 64 is.accepted).0

  parted : Parted l n
  parted = is-parted l n 10 is.taken

  cells : 2 ^ n ≤ 512
  cells = pow_mono {i = n} {j = 9} is.small

  length-density : length d ≡ 2 * (2 ^ length l * 2 ^ length l)
  length-density = ap length is.density ∙ length_whole (2 ^ length l * 2 ^ length l) (density_cell n l s)

  -- the density fits the array that it is held against
  pub density-fits : length d ≤ 2048
  density-fits = omega (arith, length-density, taken.room)

  -- the state fits the matrix
  pub state-fits : length s ≤ 1024
  state-fits = omega (arith, taken.state, cells)

  allowed : (components 0 s).0 ≡ 0
  allowed =
      let L = density_lengths (2 ^ n) (2 ^ length l) (length s) 2048 64 in
      (and_then-done L (components 0 s) (and_then-done (density_refusal n 10 l) (and_then L (components 0 s)) is.accepted).1).1

  lengths : (cut_lengths n (length s) 1024).0 ≡ 0
  lengths =
      ap₂ (λ (a b : Bool). (refuse (not a) (6, 0) (refuse b (6, 2) done)).0) (eq-eqb (length s) (2 * 2 ^ n) taken.state) (le-ltb 1024 (2 * 2 ^ n) (omega (arith, cells)))

  cut-done : (cut_answer s n l 10 1024).0 ≡ 0
  cut-done =
      let L = cut_lengths n (length s) 1024 in
      sym (ap (λ (a : Reply). a.0) (goes (cut_refusal l n 10) (and_then L (components 0 s)) is.taken))
      ∙ sym (ap (λ (a : Reply). a.0) (goes L (components 0 s) lengths)) ∙ allowed

  module _ (o : List Float) (a : Answer) (m : List Float) (f : CutMatrix s n l 10 o a m) (lo : length o ≡ 1024) where
    -- the front of the array is the cut matrix
    pub matrix-is : take (length s) m ≡ written (2 ^ n) (cut_cell s n l) []
    matrix-is =
        ap (λ (k : ℕ). take k m) taken.state
        ∙ ap (take (2 * 2 ^ n)) (f.cells ∙ sym (done-new (cut_answer s n l 10 (length o)).0 (written (2 ^ n) (cut_cell s n l) o) o (ap (λ (k : ℕ). (cut_answer s n l 10 k).0) lo ∙ cut-done)))
        ∙ front (2 ^ n) (cut_cell s n l) o

    pub recountable : (room : ℕ) → room ≡ 2048 → length m ≡ length o → RecountAccepted (take (length s) m) n l room
    recountable room e lm = record {
      parted = parted;
      some = taken.some;
      few = taken.few;
      matrix = length-take-le (length s) m (omega (arith, state-fits, lm, lo)) ∙ taken.state;
      room = omega (arith, taken.room, e);
    }

    pub sums-is : (room again : List Float) (r : Bool) → again ≡ recounted n l (take (length s) m) room → r ≡ same_floats d (take (length d) again) → r ≡ pages_same s n l
    unfolding pages_same
    sums-is room again r e g =
        let c = 2 ^ length l * 2 ^ length l in
        g
        ∙ ap₂ same_floats is.density
        (ap₂ (λ (k : ℕ) (x : List Float). take k x) length-density (e ∙ ap (λ (x : List Float). recounted n l x room) matrix-is)
        ∙ front c (cut_density_cell n l (written (2 ^ n) (cut_cell s n l) [])) room)
