-- What a reader may want to know of this crate's definitions and calls. Assumes nothing.
use mathlib.Core.Path.{◌≡◌, sym, ap, ◌∙◌}
use mathlib.Core.List.{List, [], ◌∷◌}
use Prim.Native.Nat.{ℕ, ◌*◌, ◌^◌, ◌+◌, ◌≤◌, ◌<◌}
use lib.Ieee.{Float}
use lib.ListN.{length}
use lib.Seq.{take-length}
use Rattle.answers.specs.Paper.{Answer, Reply, paper, and_then}
use Rattle.answers.proofs.PaperLaws.{and_then-done, done-new}
use Rattle.complex.specs.Cells.{written, components}
use Rattle.cut_sides.specs.Sides.{cut_refusal, Parted}
use Rattle.cut_sides.proofs.SideLaws.{is-parted}
use Rattle.cuts.specs.Cut.{cut_answer, cut_lengths, cut_cell, CutMatrix}
use Rattle.densities.specs.Density.{Density, density_lengths, density_list}
use Rattle.density_entries.specs.Entries.{density_cell, lower_entry}
use native.Mathlib.Nat.{pow-suc}
use native.Mathlib.Omega.{arith}
use lib.Arith.{digits_lt, digits_div, digits_mod}
use Rattle.complex.specs.declared.Complex.{Complex}
use Rattle.complex.proofs.CellLaws.{cell-written}
use Rattle.qubits.specs.Lists.{qubit_set, density_sizes}
use Rattle.qubits.specs.Spread.{spread}
use Rattle.qubits.proofs.NamedLaws.{is-listed}
use Rattle.qubit_offsets.specs.Calls.{density_refusal}
use Rattle.density_entries.specs.Squares.{mirrored_entry, entry_at}
use Rattle.agreement.specs.FromCut.{cut_density_cell}
use Rattle.agreement.proofs.Once.{once, source-lt, amplitude-held}
use Rattle.agreement.proofs.SameDensity.{same-density}
use Rattle.agreement.specs.Agreement.{HoldsOnce}
use Rattle.agreement.proofs.AgreementLaws.{density-left, written_same}
use Rattle.agreement.specs.Across.{AlikeCells}
use Rattle.cut_naming.specs.Reordered.{times, Reordered}
use Rattle.cut_naming.proofs.ReorderedLaws.{at-most-once, same_length, cut-kept, density-kept, pass, set-of-cut}
use Rattle.agreement.specs.Renumbered.{renumber, unspread}
use Rattle.agreement.proofs.RenumberedLaws.{same-cut, renumbered, spread-again, same_entries}

-- a cut that was answered 0: its list, and the matrix that it left
module _ (s : List Float) (n : ℕ) (l : List ℕ) (cap : ℕ) (o : List Float) (r : Answer) (m : List Float) (c : CutMatrix s n l cap o r m) (z : (paper r).0 ≡ 0) where
  accepted : (cut_answer s n l cap (length o)).0 ≡ 0
  accepted = sym (ap (λ (x : Reply). x.0) c.answer) ∙ z

  pub cut-parted : Parted l n
  cut-parted = is-parted l n cap (and_then-done (cut_refusal l n cap) (and_then (cut_lengths n (length s) (length o)) (components 0 s)) accepted).0

  pub cut_left : m ≡ written (2 ^ n) (cut_cell s n l) o
  cut_left = c.cells ∙ sym (done-new (cut_answer s n l cap (length o)).0 (written (2 ^ n) (cut_cell s n l) o) o accepted)

  -- a. EACH AMPLITUDE ONCE, in the cell that its index bits name
  pub holds-once : HoldsOnce s n l m
  holds-once =
      let u = once n l cut-parted in
      record {
        in-matrix = u.in-matrix;
        held = λ x h. rw cut_left (amplitude-held n l cut-parted s o x h);
        there = u.there;
        alone = u.alone;
        source_in = λ k h. source-lt n l k;
        cell = λ k h. rw cut_left (cell-written (2 ^ n) k (cut_cell s n l) o h);
      }

  -- b. THE DENSITY that the other call left is the one summed from the cut matrix alone, bit for bit
  module _ (cap' : ℕ) (o' w : List Float) (r' : Answer) (d w' : List Float) (e : Density s n l cap' o' w r' d w') (z' : (paper r').0 ≡ 0) where
    pub agree : d ≡ written (2 ^ length l * 2 ^ length l) (cut_density_cell n l m) o'
    agree =
        density-left s n l cap' o' w r' d w' e z'
        ∙ written_same (2 ^ length l * 2 ^ length l) (density_cell n l s) (cut_density_cell n l m) o'
        (λ k h. sym (rw cut_left (same-density n l cut-parted s o k)))

unspread-lt : (l : List ℕ) (x : ℕ) → unspread l x < 2 ^ length l
unfolding unspread
unspread-lt [] x = omega arith
unspread-lt (q ∷ l) x = rw pow-suc (omega (arith, unspread-lt l x))

-- a cell of the density that a call left is the entry of its row and column
entry-left : (s : List Float) (n : ℕ) (l : List ℕ) (o : List Float) (t u : ℕ) → t < 2 ^ length l → u < 2 ^ length l
    → entry_at (density_list n l s o) (2 ^ length l) t u ≡ mirrored_entry (lower_entry n l s) t u
entry-left s n l o t u ht hu =
    cell-written (2 ^ length l * 2 ^ length l) (t * 2 ^ length l + u) (density_cell n l s) o (digits_lt ht hu)
    ∙ rw (digits_div t hu, digits_mod t hu)

module _ (s : List Float) (n : ℕ) (l l' : List ℕ) (order : Reordered l l') (cap : ℕ) where
  -- THE CUT: accepted again, and the same matrix bit for bit
  module _ (o : List Float) (r r' : Answer) (m m' : List Float) (c : CutMatrix s n l cap o r m) (c' : CutMatrix s n l' cap o r' m') (z : (paper r).0 ≡ 0) where
    pub cut_again : (paper r').0 ≡ 0
    cut_again =
        let rest = and_then (cut_lengths n (length s) (length o)) (components 0 s) in
        let a = and_then-done (cut_refusal l n cap) rest (sym (ap (λ (x : Reply). x.0) c.answer) ∙ z) in
        ap (λ (x : Reply). x.0) (c'.answer ∙ pass (cut_refusal l' n cap) rest (cut-kept n cap l l' order a.0)) ∙ a.1

    pub cut-same : m ≡ m'
    cut-same =
        let rest = and_then (cut_lengths n (length s) (length o)) (components 0 s) in
        let a = and_then-done (cut_refusal l n cap) rest (sym (ap (λ (x : Reply). x.0) c.answer) ∙ z) in
        cut_left s n l cap o r m c z
        ∙ ap (λ (f : ℕ → Complex). written (2 ^ n) f o) (same-cut n l l' order (set-of-cut n cap l a.0) s)
        ∙ sym (cut_left s n l' cap o r' m' c' cut_again)

  -- THE DENSITY: accepted again, and the same but for the numbers of its rows and columns, signs of zeros aside
  module _ (o w : List Float) (r r' : Answer) (d w1 d' w2 : List Float) (c : Density s n l cap o w r d w1) (c' : Density s n l' cap o w r' d' w2) (z : (paper r).0 ≡ 0) where
    refusal : (density_refusal n cap l).0 ≡ 0
    refusal =
        (and_then-done (density_refusal n cap l) (and_then (density_lengths (2 ^ n) (2 ^ length l) (length s) (length o) (length w)) (components 0 s))
        (sym (ap (λ (x : Reply). x.0) c.answer) ∙ z)).0

    set : (qubit_set n l).0 ≡ 0
    set = (and_then-done (density_sizes n (length l) cap) (qubit_set n l) refusal).1

    pub density-again : (paper r').0 ≡ 0
    density-again =
        let k = same_length n l l' order set in
        let rest : ℕ → Reply = λ x. and_then (density_lengths (2 ^ n) (2 ^ x) (length s) (length o) (length w)) (components 0 s) in
        let a = and_then-done (density_refusal n cap l) (rest (length l)) (sym (ap (λ (x : Reply). x.0) c.answer) ∙ z) in
        ap (λ (x : Reply). x.0) (c'.answer ∙ pass (density_refusal n cap l') (rest (length l')) (density-kept n cap l l' order refusal))
        ∙ ap (λ (x : ℕ). (rest x).0) (sym k) ∙ a.1

    pub density-renumbered : (t u : ℕ) → t < 2 ^ length l → u < 2 ^ length l
        → AlikeCells (entry_at d (2 ^ length l) t u) (entry_at d' (2 ^ length l') (renumber l l' t) (renumber l l' u))
    density-renumbered t u ht hu =
        let e : entry_at d (2 ^ length l) t u ≡ mirrored_entry (lower_entry n l s) t u
        = ap (λ (x : List Float). entry_at x (2 ^ length l) t u) (density-left s n l cap o w r d w1 c z) ∙ entry-left s n l o t u ht hu in
        let e' : entry_at d' (2 ^ length l') (renumber l l' t) (renumber l l' u) ≡ mirrored_entry (lower_entry n l' s) (renumber l l' t) (renumber l l' u)
        = ap (λ (x : List Float). entry_at x (2 ^ length l') (renumber l l' t) (renumber l l' u)) (density-left s n l' cap o w r' d' w2 c' density-again)
        ∙ entry-left s n l' o (renumber l l' t) (renumber l l' u) (unspread-lt l' (spread l t)) (unspread-lt l' (spread l u)) in
        rw (e, e') (same_entries n l l' order set s t u)

-- The renumbering of c: row t of the one density and row `renumber l l' t` of the other name the same setting of the qubits; that row lies in
-- the matrix; and the way back gives t. So it is a permutation.
pub renumber-permutes : (n : ℕ) (l l' : List ℕ) → Reordered l l' → (qubit_set n l).0 ≡ 0 → (t : ℕ) → t < 2 ^ length l
    → (spread l' (renumber l l' t) ≡ spread l t) × (renumber l l' t < 2 ^ length l') × (renumber l' l (renumber l l' t) ≡ t)
renumber-permutes n l l' order e t h =
    let r = renumbered n l l' order e t in
    let p = is-listed n l e in
    let once : (q : ℕ) → times q l ≤ 1 = λ q. rw (take-length l) at (at-most-once l p.apart q (length l) (omega arith)) in
    (r, unspread-lt l' (spread l t), ap (unspread l) r ∙ spread-again l t once h)
