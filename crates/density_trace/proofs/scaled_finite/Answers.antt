use mathlib.Core.Path.{◌≡◌, sym, ap, ◌∙◌}
use mathlib.Core.Bool.{true, false, ◌&&◌}
use Rattle.numbers.specs.Numbers.{is_finite}
use Rattle.complex.specs.declared.Complex.{Complex}
use Rattle.complex.specs.Arithmetic.{scaled}
use Rattle.density_trace.specs.Trace.{scaled_cell}
use Rattle.density_trace.proofs.TraceLaws.{finite-none, finite-more, finite-stop}
use Rattle.density_trace.proofs.scaled_finite.Goals as goal
use Rattle.density_trace.proofs.scaled_finite.Goals.{then-is_finite, else-is_finite}

pub loop-k-init : goal.loop-k-init
loop-k-init c = finite-none (scaled_cell c.args.rho.now c.args.scale)

pub returns-then-not-is_finite : goal.returns-then-not-is_finite
returns-then-not-is_finite c =
    let f = scaled_cell c.args.rho.now c.args.scale in
    let k = c.loop-k.k in
    let e = c.scale-z.ensures ∙ ap (λ (w : Complex). scaled w c.args.scale) c.read_cell.ensures in
    let v : (is_finite (f k).re && is_finite (f k).im) ≡ c.if-is_finite.value
    = elim c.if-is_finite.branch [
      | then-is_finite w ↦
          let a : is_finite (f k).re ≡ true = ap (λ (z : Complex). is_finite z.re) (sym e) ∙ sym c.is_finite.ensures ∙ w.if-is_finite.true in
          rw a (ap (λ (z : Complex). is_finite z.im) (sym e) ∙ sym w.is_finite-then-is_finite.ensures ∙ sym w.value-is)
      | else-is_finite w ↦
          let a : is_finite (f k).re ≡ false = ap (λ (z : Complex). is_finite z.re) (sym e) ∙ sym c.is_finite.ensures ∙ w.if-is_finite.false in
          rw a (sym (w.value-is ∙ w.if-is_finite.false))
    ] in
    sym (finite-stop f c.args.cells k c.loop-k-test.true (v ∙ c.if-not-is_finite.true))

pub loop-k-preserved : goal.loop-k-preserved
loop-k-preserved c =
    let f = scaled_cell c.args.rho.now c.args.scale in
    let k = c.loop-k.k in
    let e = c.scale-z.ensures ∙ ap (λ (w : Complex). scaled w c.args.scale) c.read_cell.ensures in
    let v : (is_finite (f k).re && is_finite (f k).im) ≡ c.if-is_finite.value
    = elim c.if-is_finite.branch [
      | then-is_finite w ↦
          let a : is_finite (f k).re ≡ true = ap (λ (z : Complex). is_finite z.re) (sym e) ∙ sym c.is_finite.ensures ∙ w.if-is_finite.true in
          rw a (ap (λ (z : Complex). is_finite z.im) (sym e) ∙ sym w.is_finite-then-is_finite.ensures ∙ sym w.value-is)
      | else-is_finite w ↦
          let a : is_finite (f k).re ≡ false = ap (λ (z : Complex). is_finite z.re) (sym e) ∙ sym c.is_finite.ensures ∙ w.if-is_finite.false in
          rw a (sym (w.value-is ∙ w.if-is_finite.false))
    ] in
    finite-more f k c.loop-k.invariant (v ∙ c.if-not-is_finite.false)
