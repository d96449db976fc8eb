-- Laws of what `specs/Renumbered.antt` defines. Assumes nothing.
use mathlib.Core.Path.{◌≡◌, refl, sym, ap, ap₂, subst, ◌∙◌}
use mathlib.Core.Logic.{◌⊎◌, ⊎_elim, inl, inr}
use mathlib.Core.Bool.{Bool, true, false, ◌||◌, cond, false≢true}
use mathlib.Core.List.{List, [], ◌∷◌}
use Prim.Native.Nat.{ℕ, zero, suc, ◌-◌, ◌*◌, ◌/◌, ◌%◌, ◌^◌, ◌≤◌, ◌<◌, min}
use native.Mathlib.Omega.{arith}
use native.Mathlib.Nat.{pow-suc, zero-div, zero-mul, one-mul}
use borrow.Author.Tests.{eq-eqb, eqb-true, eqb-false}
use lib.Bits.{bit_or}
use lib.Dec.{eqb, leb}
use lib.Ieee.{Float}
use lib.ListN.{length}
use Rattle.submasks.specs.Submasks.{submask_at, others}
use Rattle.submasks.proofs.SubmaskLaws.{digit, or-digit, power-digit}
use Rattle.submasks.proofs.BitLaws.{Submask, or-digit-l, or-digit-r, and-digit, same_digits}
use Rattle.qubits.specs.Lists.{stands, qubit_set}
use Rattle.qubits.specs.Spread.{spread, named, traced_base}
use Rattle.qubits.proofs.SpreadLaws.{spread-cons}
use Rattle.qubits.proofs.NamedLaws.{is-listed, not_there}
use Rattle.qubits.proofs.OtherLaws.{power-self, traced-submask}
use Rattle.complex.specs.declared.Complex.{Complex}
use Rattle.complex.specs.Arithmetic.{product, conjugate}
use Rattle.complex.specs.Cells.{cell_at}
use Rattle.cuts.specs.Cut.{cut_cell}
use Rattle.density_entries.specs.Entries.{total, setting_amplitude, lower_entry}
use Rattle.density_entries.specs.Squares.{mirrored_entry}
use Rattle.agreement.proofs.SameDensity.{spread-submask, entry-same}
use Rattle.agreement.specs.Signs.{same}
use Rattle.agreement.proofs.SignsLaws.{back}
use Rattle.agreement.specs.Across.{AlikeCells}
use Rattle.agreement.proofs.AcrossLaws.{across}
use Rattle.cut_naming.specs.Reordered.{times, Reordered}
use Rattle.cut_naming.proofs.ReorderedLaws.{times-some, either, times-append, times-self, same-mask, same_length, set-kept}
use Rattle.agreement.specs.Renumbered.{unspread, renumber}

-- ---- the way back from a spread setting

unspread-low : (q : ℕ) (l : List ℕ) (x : ℕ) → unspread (q ∷ l) x % 2 ≡ x / 2 ^ q % 2
unfolding unspread
unspread-low q l x = omega arith

unspread-half : (q : ℕ) (l : List ℕ) (x : ℕ) → unspread (q ∷ l) x / 2 ≡ unspread l x
unfolding unspread
unspread-half q l x = omega arith

again : (q : ℕ) (l : List ℕ) (x : ℕ) → spread (q ∷ l) (unspread (q ∷ l) x) ≡ bit_or (x / 2 ^ q % 2 * 2 ^ q) (spread l (unspread l x))
again q l x = spread-cons q l (unspread (q ∷ l) x) ∙ rw (unspread-low q l x, unspread-half q l x)

-- one term's digit
term-digit : (d q p : ℕ) → (d ≡ 0) ⊎ (p ≡ q → ⊥) → d < 2 → d * 2 ^ q / 2 ^ p % 2 ≡ 0
term-digit zero q p h l = rw (zero-mul, zero-div)
term-digit (suc zero) q p (inl z) l = absurd (omega arith)
term-digit (suc zero) q p (inr n) l = rw one-mul (power-digit p q n)
term-digit (suc (suc d)) q p h l = absurd (omega arith)

zero-stays : (l : List ℕ) (x p : ℕ) → x / 2 ^ p % 2 ≡ 0 → spread l (unspread l x) / 2 ^ p % 2 ≡ 0
unfolding spread
zero-stays [] x p h = rw zero-div
zero-stays (q ∷ l) x p h =
    ap (λ (y : ℕ). y / 2 ^ p % 2) (again q l x)
    ∙ or-digit (x / 2 ^ q % 2 * 2 ^ q) (spread l (unspread l x)) p
    (term-digit (x / 2 ^ q % 2) q p
    (elim (eqb p q) as (λ (b : Bool). eqb p q ≡ b → (x / 2 ^ q % 2 ≡ 0) ⊎ (p ≡ q → ⊥)) [
      | true ↦ λ e. inl (rw (← eqb-true p q e) h)
      | false ↦ λ e. inr (eqb-false p q e)
    ] refl)
    (omega arith))
    (zero-stays l x p h)

one-stays : (l : List ℕ) (x p : ℕ) → stands p l ≡ true → x / 2 ^ p % 2 ≡ 1 → spread l (unspread l x) / 2 ^ p % 2 ≡ 1
unfolding stands
one-stays [] x p s h = absurd (omega (arith, let n : ◌≡◌ {A = ℕ} 0 1 = cc in n))
one-stays (q ∷ l) x p s h =
    ap (λ (y : ℕ). y / 2 ^ p % 2) (again q l x)
    ∙ elim (eqb q p) as (λ (b : Bool). eqb q p ≡ b → (b || stands p l) ≡ true → bit_or (x / 2 ^ q % 2 * 2 ^ q) (spread l (unspread l x)) / 2 ^ p % 2 ≡ 1) [
      | true ↦ λ e g.
          or-digit-l (x / 2 ^ q % 2 * 2 ^ q) (spread l (unspread l x)) p
          (rw (eqb-true q p e, h, one-mul) (power-self p))
      | false ↦ λ e g. or-digit-r (x / 2 ^ q % 2 * 2 ^ q) (spread l (unspread l x)) p (one-stays l x p g h)
    ] refl s

-- a submask of the named qubits is the spread setting that it spells
spread-back : (l : List ℕ) (x : ℕ) → Submask x (named l) → spread l (unspread l x) ≡ x
spread-back l x sub =
    same_digits (spread l (unspread l x)) x
    (λ p. ⊎_elim
    (λ (h : x / 2 ^ p % 2 ≡ 0). zero-stays l x p h ∙ sym h)
    (λ (h : x / 2 ^ p % 2 ≡ 1).
    one-stays l x p
    (elim (stands p l) as (λ (b : Bool). stands p l ≡ b → b ≡ true) [
      | true ↦ λ e. refl
      | false ↦ λ e.
          let z : named l / 2 ^ p % 2 ≡ 0 = not_there 0 l p e (rw zero-div) in
          let m : x / 2 ^ p % 2 ≡ min (x / 2 ^ p % 2) (named l / 2 ^ p % 2) = ap (λ (y : ℕ). y / 2 ^ p % 2) (sym sub) ∙ and-digit x (named l) p in
          absurd (omega arith)
    ] refl)
    h
    ∙ sym h)
    (digit (x / 2 ^ p)))

either-half : (b c : Bool) (x y : Complex) → AlikeCells x y → AlikeCells (cond b x y) (cond c x y)
either-half true true x y a = record { re = refl; im = same }
either-half true false x y a = a
either-half false true x y a = record { re = sym a.re; im = back a.im }
either-half false false x y a = record { re = refl; im = same }

module _ (n : ℕ) (l l' : List ℕ) (order : Reordered l l') (e : (qubit_set n l).0 ≡ 0) where
  -- THE CUT MATRIX IS KEPT
  pub same-cut : (s : List Float) → cut_cell s n l ≡ cut_cell s n l'
  same-cut s = rw (same-mask n l l' order e, same_length n l l' order e)

  pub renumbered : (t : ℕ) → spread l' (renumber l l' t) ≡ spread l t
  renumbered t = spread-back l' (spread l t) (rw (← same-mask n l l' order e) (spread-submask 0 l t))

  same_base : (i : ℕ) → traced_base n l i ≡ traced_base n l' i
  same_base i =
      traced-submask n l (is-listed n l e) i ∙ ap (λ (m : ℕ). submask_at n (others n m) i) (same-mask n l l' order e)
      ∙ sym (traced-submask n l' (is-listed n l' (ap (λ (x : ℕ × ℕ). x.0) (set-kept n l l' order e))) i)

  module _ (s : List Float) where
    same-amplitude : (t i : ℕ) → setting_amplitude n l s t i ≡ setting_amplitude n l' s (renumber l l' t) i
    same-amplitude t i = ap₂ (λ (a b : ℕ). cell_at s (bit_or a b)) (sym (renumbered t)) (same_base i)

    -- the sums of the lower half are those of the other list, under the other numbers
    same-sums : (t u : ℕ) → lower_entry n l s t u ≡ lower_entry n l' s (renumber l l' t) (renumber l l' u)
    same-sums t u =
        entry-same (2 ^ (n - length l)) (setting_amplitude n l s) (λ x i. setting_amplitude n l' s (renumber l l' x) i) (λ x i h. same-amplitude x i) t u
        ∙ ap (λ (k : ℕ). total (2 ^ (n - k)) (λ i. product (setting_amplitude n l' s (renumber l l' t) i) (conjugate (setting_amplitude n l' s (renumber l l' u) i)))) (same_length n l l' order e)

    -- THE DENSITY IS ONLY RENUMBERED, signs of zeros aside
    pub same_entries : (t u : ℕ)
        → AlikeCells (mirrored_entry (lower_entry n l s) t u) (mirrored_entry (lower_entry n l' s) (renumber l l' t) (renumber l l' u))
    same_entries t u =
        subst (λ (z : Complex). AlikeCells (mirrored_entry (lower_entry n l s) t u) z)
        (ap₂ (λ (x y : Complex). cond (leb (renumber l l' u) (renumber l l' t)) x (conjugate y)) (same-sums t u) (same-sums u t))
        (either-half (leb u t) (leb (renumber l l' u) (renumber l l' t)) (lower_entry n l s t u) (conjugate (lower_entry n l s u t))
        (across (2 ^ (n - length l)) (setting_amplitude n l s) t u))

-- ---- a setting that is spread over distinct qubits spells itself

or-there : (b : Bool) {c : Bool} → c ≡ true → (b || c) ≡ true
or-there true h = refl
or-there false h = h

unspread-same : (l : List ℕ) (x y : ℕ) → ((p : ℕ) → stands p l ≡ true → x / 2 ^ p % 2 ≡ y / 2 ^ p % 2) → unspread l x ≡ unspread l y
unfolding unspread stands
unspread-same [] x y h = refl
unspread-same (q ∷ l) x y h =
    let a : x / 2 ^ q % 2 ≡ y / 2 ^ q % 2 = h q (ap (λ (b : Bool). b || stands q l) (eq-eqb q q refl)) in
    let r : unspread l x ≡ unspread l y = unspread-same l x y (λ p s. h p (or-there (eqb q p) s)) in
    rw (a, r)

other-digit : (d q p y : ℕ) → (p ≡ q → ⊥) → d < 2 → bit_or (d * 2 ^ q) y / 2 ^ p % 2 ≡ y / 2 ^ p % 2
other-digit d q p y n h =
    ⊎_elim
    (λ (e : y / 2 ^ p % 2 ≡ 0). or-digit (d * 2 ^ q) y p (term-digit d q p (inr n) h) e ∙ sym e)
    (λ (e : y / 2 ^ p % 2 ≡ 1). or-digit-r (d * 2 ^ q) y p e ∙ sym e)
    (digit (y / 2 ^ p))

own-digit : (d q y : ℕ) → d < 2 → y / 2 ^ q % 2 ≡ 0 → bit_or (d * 2 ^ q) y / 2 ^ q % 2 ≡ d
own-digit zero q y h e = or-digit (0 * 2 ^ q) y q (term-digit 0 q q (inl refl) (omega arith)) e
own-digit (suc zero) q y h e = or-digit-l (1 * 2 ^ q) y q (rw one-mul (power-self q))
own-digit (suc (suc d)) q y h e = absurd (omega arith)

pub spread-again : (l : List ℕ) (t : ℕ) → ((q : ℕ) → times q l ≤ 1) → t < 2 ^ length l → unspread l (spread l t) ≡ t
unfolding unspread
spread-again [] t h lt = omega arith
spread-again (q ∷ l) t h lt =
    let out : stands q l ≡ false
    = ⊎_elim (λ (e : stands q l ≡ true). absurd (omega (arith, times-some q l e, h q, times-self q l))) (λ (e : stands q l ≡ false). e) (either q l) in
    let y = spread l (t / 2) in
    let x = spread (q ∷ l) t in
    let e : x ≡ bit_or (t % 2 * 2 ^ q) y = spread-cons q l t in
    let named-zero : named l / 2 ^ q % 2 ≡ 0 = not_there 0 l q out (rw zero-div) in
    let m : y / 2 ^ q % 2 ≡ min (y / 2 ^ q % 2) (named l / 2 ^ q % 2) = ap (λ (v : ℕ). v / 2 ^ q % 2) (sym (spread-submask 0 l (t / 2))) ∙ and-digit y (named l) q in
    let z : y / 2 ^ q % 2 ≡ 0 = omega arith in
    let low : x / 2 ^ q % 2 ≡ t % 2 = ap (λ (v : ℕ). v / 2 ^ q % 2) e ∙ own-digit (t % 2) q y (omega arith) z in
    let rest : unspread l x ≡ unspread l y
    = unspread-same l x y
    (λ p s. ap (λ (v : ℕ). v / 2 ^ p % 2) e
    ∙ other-digit (t % 2) q p y (λ d. false≢true (sym out ∙ subst (λ (r : ℕ). stands r l ≡ true) d s)) (omega arith)) in
    let once : (p : ℕ) → times p l ≤ 1 = λ p. omega (arith, h p, times-append p (q ∷ []) l) in
    let back : unspread l y ≡ t / 2 = spread-again l (t / 2) once (omega (arith, lt, pow-suc 2 (length l))) in
    omega (arith, low, rest, back)
