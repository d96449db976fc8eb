-- Two stations name opposite sides of one cut: l, and l' in any order. From the calls' contracts alone. Assumes nothing.
use mathlib.Core.Path.{◌≡◌, sym, ap, ap₂, ◌∙◌}
use mathlib.Core.Logic.{⊎_elim}
use mathlib.Core.Bool.{true, false}
use mathlib.Core.List.{List}
use Prim.Native.Nat.{ℕ, ◌+◌, ◌-◌, ◌*◌, ◌^◌, ◌≤◌, ◌<◌}
use native.Mathlib.Omega.{arith}
use lib.Arith.{digits_div, digits_mod}
use lib.Ieee.{Float}
use lib.ListN.{length}
use lib.Seq.{take-length}
use Rattle.std.specs.Prelude.{Result}
use Rattle.answers.specs.declared.Refusal.{Refusal}
use Rattle.answers.specs.Paper.{Answer, Reply, paper, if_done}
use Rattle.answers.proofs.Theorems.{paper-one}
use Rattle.complex.specs.declared.Complex.{Complex}
use Rattle.complex.specs.Cells.{cell_at, written}
use Rattle.complex.proofs.CellLaws.{cell-written}
use Rattle.submasks.proofs.SubmaskLaws.{le-or-lt}
use Rattle.qubits.specs.Lists.{stands}
use Rattle.qubits.specs.Spread.{other_qubits}
use Rattle.cut_sides.specs.Sides.{cut_refusal}
use Rattle.cut_sides.proofs.SideLaws.{is-parted}
use Rattle.cut_naming.specs.Reordered.{times}
use Rattle.cut_naming.proofs.ReorderedLaws.{set-of-cut, same-stands, times_none, times-some, either, stands-index, at-most-once}
use Rattle.cut_naming.proofs.Others.{stands-named, stands-other, times-named, times-other, times-past}
use Rattle.cut_naming.proofs.Theorems.{other-accepted}
use Rattle.cuts.specs.Cut.{cut_answer, cut_cell, CutMatrix}
use Rattle.agreement.proofs.AgreementLaws.{written_same, done-same}
use Rattle.agreement.proofs.Theorems.{cut_left}
use Rattle.cut_values.specs.declared.CutCounted.{CutCounted}
use Rattle.cut_values.specs.Schmidt.{cut_values_tests, Schmidt}
use Rattle.cut_values.proofs.SchmidtLaws.{cut-counted-one}
use Rattle.far_end.specs.FarEnd.{Opposite, across_of}
use Rattle.far_end.proofs.FarEndLaws.{accepted, same-side, same-cells, across_lt, transposed, matrix-answer, values-tests, same-singular, same-sweeps, same-exact, values-answer}

-- The cell of row j and column i is across the diagonal from that of row i and column j.
pub across : (d i j : ℕ) → i < d → across_of d (j * d + i) ≡ i * d + j
across d i j h = rw (digits_mod j h, digits_div j h)

module _ (n cap : ℕ) (l l' : List ℕ) (far : Opposite n l l') (ok : (cut_refusal l n cap).0 ≡ 0) where
  -- Where a cut accepts one station's list it accepts the other's.
  pub far-accepted : (cut_refusal l' n cap).0 ≡ 0
  far-accepted = accepted n cap l l' far ok

  -- The other side of the far list is the first list's set, whatever order either stands in.
  pub far-back : Opposite n l' l
  far-back q =
      let away : stands q (other_qubits n l) ≡ stands q l'
      = same-stands n (other_qubits n l) l' far (set-of-cut n cap (other_qubits n l) (other-accepted n cap l ok)) q in
      let listed = (is-parted l n cap ok).listed in
      ⊎_elim
      (λ (h : stands q l ≡ true).
      let g : q < n = stands-index q l h n listed.below in
      let m : times q l ≤ 1 = rw (take-length l) at (at-most-once l listed.apart q (length l) (omega arith)) in
      omega (arith, times-some q l h, m, times-other n q l' g (sym away ∙ stands-named n q l h)))
      (λ (h : stands q l ≡ false).
      ⊎_elim
      (λ (g : n ≤ q). times-past n q l' g ∙ sym (times_none q l h))
      (λ (g : q < n). times-named n q l' (sym away ∙ stands-other n q l g h) ∙ sym (times_none q l h))
      (le-or-lt n q))
      (either q l)

  module _ (s o : List Float) (r r' : Answer) (m m' : List Float) (c : CutMatrix s n l cap o r m) (c' : CutMatrix s n l' cap o r' m') where
    -- `cut_matrix` answers both alike: acceptance, and 6 and 7 with their places.
    pub same_answer : r ≡ r'
    same_answer = paper-one r r' (c.answer ∙ matrix-answer n cap l l' far ok s (length o) ∙ sym c'.answer)

    -- Sides of different size: the same matrix bit for bit, every cell of the lent slice, on a refusal too.
    pub same-matrix : (length l ≡ n - length l → ⊥) → m ≡ m'
    same-matrix differ =
        c.cells
        ∙ ap₂ (λ (x : ℕ) (f : ℕ → Complex). if_done x (written (2 ^ n) f o) o)
        (ap (λ (x : Reply). x.0) (matrix-answer n cap l l' far ok s (length o))) (sym (same-cells n cap l l' far ok differ s))
        ∙ sym c'.cells

    -- Half size: one matrix is the other's transpose, both parts of a cell untouched, so no conjugate is taken. The surplus of the lent
    -- slice, and all of it on a refusal, is as it was.
    pub transpose : length l ≡ n - length l → m' ≡ if_done (paper r).0 (written (2 ^ n) (λ k. cell_at m (across_of (2 ^ length l) k)) o) o
    transpose half =
        let A = cut_answer s n l cap (length o) in
        let e : A.0 ≡ (cut_answer s n l' cap (length o)).0 = ap (λ (x : Reply). x.0) (matrix-answer n cap l l' far ok s (length o)) in
        let f : (paper r).0 ≡ A.0 = ap (λ (x : Reply). x.0) c.answer in
        let d = 2 ^ length l in
        let cell : (paper r).0 ≡ 0 → (k : ℕ) → k < 2 ^ n → cut_cell s n l' k ≡ cell_at m (across_of d k)
        = λ z k h. transposed n cap l l' far ok half k h s
        ∙ sym (ap (λ (x : List Float). cell_at x (across_of d k)) (cut_left s n l cap o r m c z)
        ∙ cell-written (2 ^ n) (across_of d k) (cut_cell s n l) o (across_lt n cap l l' far ok half k h)) in
        c'.cells ∙ ap (λ (x : ℕ). if_done x (written (2 ^ n) (cut_cell s n l') o) o) (sym e ∙ sym f)
        ∙ done-same (paper r).0 (written (2 ^ n) (cut_cell s n l') o) (written (2 ^ n) (λ k. cell_at m (across_of d k)) o) o
        (λ z. written_same (2 ^ n) (cut_cell s n l') (λ k. cell_at m (across_of d k)) o (cell z))

  -- The cut values: what refuses one list before a value is worked out, 6 and 7 with their places, refuses the other, of any sizes.
  pub same_tests : (s : List Float) (o w : ℕ) → cut_values_tests s n l cap o w ≡ cut_values_tests s n l' cap o w
  same_tests s o w = values-tests n cap l l' far ok s o w

  -- Sides of different size: `dense_schmidt_values` gives the same answer, count, sweeps, mark and values, and leaves the same scratch.
  pub same-values : (length l ≡ n - length l → ⊥) → (s o w : List Float) (r r' : Result CutCounted Refusal) (v v' z z' : List Float)
      → Schmidt s n l cap o w r v z → Schmidt s n l' cap o w r' v' z' → (r ≡ r') × (v ≡ v') × (z ≡ z')
  same-values differ s o w r r' v v' z z' c c' =
      let e : paper r ≡ paper r' = c.answer ∙ values-answer n cap l l' far ok differ s (length o) (length w) ∙ sym c'.answer in
      let t = same-singular n cap l l' far ok differ s in
      let d = same-side n cap l l' far ok in (
        cut-counted-one r r' e (c.count ∙ rw (e, t) (sym c'.count))
            (c.sweeps-are ∙ rw (e, same-sweeps n cap l l' far ok differ s) (sym c'.sweeps-are))
            (c.exact-is ∙ rw (e, same-exact n cap l l' far ok differ s) (sym c'.exact-is)),
        c.out-is ∙ rw (e, t, ← d) (sym c'.out-is),
        c.scratch-is ∙ rw (e, ← d) (sym c'.scratch-is),
      )
