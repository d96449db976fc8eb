-- Laws of what `specs/Across.antt` defines. Assumes nothing.
use mathlib.Core.Path.{◌≡◌, refl, sym, ap, ap₂, ◌∙◌}
use Prim.Native.Nat.{ℕ, zero, suc}
use lib.Ieee.{Float, binary64, add, sub, mul, neg, of_bits}
use Rattle.complex.specs.declared.Complex.{Complex}
use Rattle.complex.specs.Arithmetic.{sum_of, product, conjugate}
use Rattle.density_entries.specs.Entries.{total}
use Rattle.signs.proofs.Signs.{neg-neg, mul-neg, mul-swap, add-swap}
use Rattle.agreement.specs.Signs.{Alike, zeros}
use Rattle.agreement.proofs.SignsLaws.{step, then, trans, add-neg, alike-add}
use Rattle.agreement.specs.Across.{AlikeCells}

-- the entry of rows t and u, from the amplitudes a t e
abbrev pub entry_of : ℕ → (ℕ → ℕ → Complex) → ℕ → ℕ → Complex
entry_of m a t u = total m (λ e. product (a t e) (conjugate (a u e)))

module _ (a b : Complex) where
  re-same : (product a (conjugate b)).re ≡ (product b (conjugate a)).re
  unfolding product conjugate
  re-same =
      ap₂ (sub binary64) (mul-swap a.re b.re)
      (mul-neg a.im b.im ∙ ap neg (mul-swap a.im b.im) ∙ sym (mul-neg b.im a.im))

  im-neg : Alike (product a (conjugate b)).im (neg (product b (conjugate a)).im)
  unfolding product conjugate
  im-neg =
      let P = mul binary64 a.re b.im in
      let Q = mul binary64 a.im b.re in
      let e : (product a (conjugate b)).im ≡ add binary64 (neg P) Q = ap (λ (x : Float). add binary64 x Q) (mul-neg a.re b.im) in
      let g : (product b (conjugate a)).im ≡ add binary64 (neg Q) P
      = ap₂ (add binary64) (mul-neg b.re a.im ∙ ap neg (mul-swap b.re a.im)) (mul-swap b.im a.re) in
      step e (step (add-swap (neg P) Q)
      (step (ap (λ (x : Float). add binary64 x (neg P)) (sym (neg-neg Q))) (then (add-neg (neg Q) P) (ap neg (sym g)))))

-- two sums of the same terms the other way round
total-conjugate : (m : ℕ) (f g : ℕ → Complex) → ((e : ℕ) → (f e).re ≡ (g e).re) → ((e : ℕ) → Alike (f e).im (neg (g e).im))
    → ((total m f).re ≡ (total m g).re) × Alike (total m f).im (neg (total m g).im)
unfolding total sum_of neg of_bits
total-conjugate zero f g p q = (refl, zeros)
total-conjugate (suc m) f g p q =
    let i = total-conjugate m f g p q in
    (ap₂ (add binary64) i.0 (p m), trans (alike-add i.1 (q m)) (add-neg (total m g).im (g m).im))

pub across : (m : ℕ) (a : ℕ → ℕ → Complex) (t u : ℕ) → AlikeCells (entry_of m a t u) (conjugate (entry_of m a u t))
unfolding conjugate
across m a t u =
    let r = total-conjugate m (λ e. product (a t e) (conjugate (a u e))) (λ e. product (a u e) (conjugate (a t e)))
    (λ e. re-same (a t e) (a u e)) (λ e. im-neg (a t e) (a u e)) in
    record { re = r.0; im = r.1 }
