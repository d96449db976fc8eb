-- Two lists that name opposite sides of an accepted cut: masks, sizes and cells. Assumes nothing.
use mathlib.Core.Path.{◌≡◌, sym, ap, ap₂, ◌∙◌}
use mathlib.Core.Logic.{⊎_elim}
use mathlib.Core.Bool.{◌&&◌}
use mathlib.Core.List.{List}
use Prim.Native.Nat.{ℕ, ◌+◌, ◌-◌, ◌*◌, ◌/◌, ◌%◌, ◌^◌, ◌≤◌, ◌<◌}
use native.Mathlib.Nat.{min-eq_left, min-eq_right, div-lt_iff_lt-mul, div-add-mod', mod-lt}
use native.Mathlib.Omega.{arith}
use lib.Arith.{digits_lt, digits_div, digits_mod}
use lib.Bits.{or_comm}
use lib.Ieee.{Float}
use lib.ListN.{length}
use lib.Pow.{pow_pos}
use Rattle.answers.specs.Paper.{Reply, and_then}
use Rattle.complex.specs.declared.Complex.{Complex}
use Rattle.complex.specs.Cells.{cell_at, cells_of, components}
use Rattle.submasks.specs.Submasks.{submask_at, others}
use Rattle.submasks.proofs.SubmaskLaws.{le-or-lt, others-others}
use Rattle.qubits.specs.Spread.{named, other_qubits}
use Rattle.qubits.proofs.NamedLaws.{named-lt, sizes-product}
use Rattle.cut_sides.specs.Sides.{cut_refusal, side, Parted}
use Rattle.cut_sides.proofs.SideLaws.{is-parted, named-yes, named-no}
use Rattle.cut_naming.proofs.ReorderedLaws.{same-mask, same_length, cut-kept, set-of-cut, pass}
use Rattle.cut_naming.proofs.Theorems.{other-accepted, other-mask, other_length}
use Rattle.cuts.specs.Cut.{cut_answer, cut_lengths, cut_cell}
use Rattle.svd.specs.Svd.{s_of, svd_sweeps}
use Rattle.finish.specs.Finish.{finish_exact}
use Rattle.cut_values.specs.Schmidt.{singular_values, cut_sweeps, columns_exact, cut_exact, cut_values_rest, cut_values_tests, values_reply, cut_values_answer}
use Rattle.far_end.specs.FarEnd.{Opposite, across_of}

module _ (n cap : ℕ) (l l' : List ℕ) (far : Opposite n l l') (ok : (cut_refusal l n cap).0 ≡ 0) where
  parted : Parted l n
  parted = is-parted l n cap ok

  far-mask : named l' ≡ others n (named l)
  far-mask = sym (same-mask n (other_qubits n l) l' far (set-of-cut n cap (other_qubits n l) (other-accepted n cap l ok))) ∙ other-mask n cap l ok

  pub far-length : length l' ≡ n - length l
  far-length = sym (same_length n (other_qubits n l) l' far (set-of-cut n cap (other_qubits n l) (other-accepted n cap l ok))) ∙ other_length n cap l ok

  pub back-length : n - length l' ≡ length l
  back-length = omega (arith, far-length, parted.part)

  pub accepted : (cut_refusal l' n cap).0 ≡ 0
  accepted = cut-kept n cap (other_qubits n l) l' far (other-accepted n cap l ok)

  -- the smaller side is as large
  pub same-side : side l' n ≡ side l n
  same-side =
      ⊎_elim
      (λ (h : length l ≤ n - length l).
      let f : n - length l' ≤ length l' = omega (arith, far-length, back-length) in
      let d : side l n ≡ length l = min-eq_left h in
      let d' : side l' n ≡ n - length l' = min-eq_right f in
      d' ∙ back-length ∙ sym d)
      (λ (h : n - length l < length l).
      let f : length l' ≤ n - length l' = omega (arith, far-length, back-length) in
      let g : n - length l ≤ length l = omega arith in
      let d : side l n ≡ n - length l = min-eq_right g in
      let d' : side l' n ≡ length l' = min-eq_left f in
      d' ∙ far-length ∙ sym d)
      (le-or-lt (length l) (n - length l))

  -- ---- the sides differ in size: the same rows and columns, so the same cells

  pub same-cells : (length l ≡ n - length l → ⊥) → (s : List Float) → cut_cell s n l' ≡ cut_cell s n l
  same-cells differ s =
      ⊎_elim
      (λ (h : length l ≤ n - length l).
      let f : n - length l' < length l' = strict h in
      let t = named-yes l n h in
      let t' = named-no l' n f in
      rw (t, t', same-side, far-mask, others-others n (named l) (named-lt n l parted.listed)))
      (λ (h : n - length l < length l).
      let t = named-no l n h in
      let f : length l' ≤ n - length l' = omega (arith, far-length, back-length) in
      let t' = named-yes l' n f in
      rw (t, t', same-side, far-mask, others-others n (named l) (named-lt n l parted.listed)))
      (le-or-lt (length l) (n - length l))
    where
      strict : length l ≤ n - length l → n - length l' < length l'
      strict h =
          ⊎_elim (λ (e : n - length l ≤ length l). absurd (differ (omega arith))) (λ (e : length l < n - length l). omega (arith, far-length, back-length))
          (le-or-lt (n - length l) (length l))

  -- ---- the sides are of one size: rows and columns exchanged

  module _ (half : length l ≡ n - length l) where
    far-half : length l' ≡ length l
    far-half = far-length ∙ sym half

    pub size : 2 ^ length l * 2 ^ length l ≡ 2 ^ n
    size = ap (λ (x : ℕ). 2 ^ x * 2 ^ length l) half ∙ sizes-product n (length l) parted.listed.short

    exchanged : (s : List Float) (i j : ℕ) → i < 2 ^ length l → j < 2 ^ length l
        → cut_cell s n l (j * 2 ^ length l + i) ≡ cut_cell s n l' (i * 2 ^ length l + j)
    exchanged s i j hi hj =
        let g : length l ≤ n - length l = omega arith in
        let f : length l' ≤ n - length l' = omega (arith, far-half, back-length) in
        let t = named-yes l n g in
        let t' = named-yes l' n f in
        let d : side l n ≡ length l = min-eq_left g in
        let d' : side l' n ≡ length l = min-eq_left f ∙ far-half in
        rw (t, t', d, d', digits_mod j hi, digits_div j hi, digits_mod i hj, digits_div i hj, far-mask, others-others n (named l) (named-lt n l parted.listed))
        (ap (cell_at s) (or_comm (submask_at n (named l) i) (submask_at n (others n (named l)) j)))

    module _ (k : ℕ) (h : k < 2 ^ n) where
      row : k % 2 ^ length l < 2 ^ length l
      row = mod-lt k (pow_pos (length l))

      column : k / 2 ^ length l < 2 ^ length l
      column = (div-lt_iff_lt-mul (pow_pos (length l))).1 (rw size h)

      pub transposed : (s : List Float) → cut_cell s n l' k ≡ cut_cell s n l (across_of (2 ^ length l) k)
      transposed s =
          ap (cut_cell s n l') (sym (div-add-mod' k (2 ^ length l)))
          ∙ sym (exchanged s (k / 2 ^ length l) (k % 2 ^ length l) column row)

      pub across_lt : across_of (2 ^ length l) k < 2 ^ n
      across_lt = rw size at (digits_lt row column)

  -- ---- the answers

  pub matrix-answer : (s : List Float) (o : ℕ) → cut_answer s n l cap o ≡ cut_answer s n l' cap o
  matrix-answer s o =
      pass (cut_refusal l n cap) (and_then (cut_lengths n (length s) o) (components 0 s)) ok
      ∙ sym (pass (cut_refusal l' n cap) (and_then (cut_lengths n (length s) o) (components 0 s)) accepted)

  pub values-tests : (s : List Float) (o w : ℕ) → cut_values_tests s n l cap o w ≡ cut_values_tests s n l' cap o w
  unfolding cut_values_tests
  values-tests s o w =
      pass (cut_refusal l n cap) (cut_values_rest s n (2 ^ side l n) o w) ok ∙ ap (λ (d : ℕ). cut_values_rest s n (2 ^ d) o w) (sym same-side)
      ∙ sym (pass (cut_refusal l' n cap) (cut_values_rest s n (2 ^ side l' n) o w) accepted)

  module _ (differ : length l ≡ n - length l → ⊥) where
    pub same-singular : (s : List Float) → singular_values s n l ≡ singular_values s n l'
    unfolding singular_values
    same-singular s =
        sym (ap₂ (λ (f : ℕ → Complex) (d : ℕ). s_of (cells_of (2 ^ n) f) (2 ^ d) (2 ^ (n - d))) (same-cells differ s) same-side)

    pub same-sweeps : (s : List Float) → cut_sweeps s n l ≡ cut_sweeps s n l'
    unfolding cut_sweeps
    same-sweeps s =
        sym (ap₂ (λ (f : ℕ → Complex) (d : ℕ). svd_sweeps (cells_of (2 ^ n) f) (2 ^ d) (2 ^ (n - d))) (same-cells differ s) same-side)

    pub same-exact : (s : List Float) → cut_exact s n l ≡ cut_exact s n l'
    unfolding cut_exact
    same-exact s =
        ap₂ ◌&&◌
        (sym (ap₂ (λ (f : ℕ → Complex) (d : ℕ). columns_exact (cells_of (2 ^ n) f) (2 ^ d) (2 ^ (n - d))) (same-cells differ s) same-side))
        (ap (λ (v : List Float). finish_exact v) (same-singular s))

    pub values-answer : (s : List Float) (o w : ℕ) → cut_values_answer s n l cap o w ≡ cut_values_answer s n l' cap o w
    unfolding cut_values_answer
    values-answer s o w = ap₂ (λ (x : Reply) (v : List Float). and_then x (values_reply v)) (values-tests s o w) (same-singular s)
