-- The other side's list: each qubit that is not named stands in it once, so a cut accepts it, its mask is what the named mask has not, and
-- the other side of the other side is the first list's set. Assumes nothing.
use mathlib.Core.Path.{◌≡◌, refl, ap, ◌∙◌}
use mathlib.Core.Logic.{⊎_elim}
use mathlib.Core.Bool.{Bool, true, false}
use mathlib.Core.List.{List, [], ◌∷◌}
use Prim.Native.Nat.{ℕ, zero, suc, ◌+◌, ◌-◌, ◌≤◌, ◌<◌}
use native.Mathlib.Omega.{arith}
use borrow.Author.Tests.{eqb-true, eqb-false, eq-eqb, ne_eqb}
use lib.Dec.{eqb}
use Rattle.submasks.proofs.SubmaskLaws.{le-or-lt}
use Rattle.qubits.specs.Lists.{stands}
use Rattle.qubits.specs.Spread.{other_qubits, unless}
use Rattle.cut_naming.specs.Reordered.{times}
use Rattle.cut_naming.proofs.ReorderedLaws.{times_none, times-some, either, times-append}

-- ---- how often a qubit stands among the others

times-apart : (b : Bool) (m q : ℕ) → (m ≡ q → ⊥) → times q (unless b m) ≡ 0
unfolding times
times-apart true m q h = refl
times-apart false m q h = let e : eqb m q ≡ false = ne_eqb m q h in rw e

times_more : (q m : ℕ) (l : List ℕ) → times q (other_qubits (suc m) l) ≡ times q (other_qubits m l) + times q (unless (stands m l) m)
unfolding other_qubits
times_more q m l = times-append q (other_qubits m l) (unless (stands m l) m)

times-empty : (q : ℕ) (l : List ℕ) → times q (other_qubits 0 l) ≡ 0
unfolding other_qubits times
times-empty q l = refl

none : (q : ℕ) → times q [] ≡ 0
unfolding times
none q = refl

-- none past the register
pub times-past : (n q : ℕ) (l : List ℕ) → n ≤ q → times q (other_qubits n l) ≡ 0
times-past zero q l h = times-empty q l
times-past (suc m) q l h = omega (arith, times_more q m l, times-past m q l (omega arith), times-apart (stands m l) m q (λ e. omega arith))

-- no named one
pub times-named : (n q : ℕ) (l : List ℕ) → stands q l ≡ true → times q (other_qubits n l) ≡ 0
times-named zero q l h = times-empty q l
times-named (suc m) q l h =
    let last : times q (unless (stands m l) m) ≡ 0
    = elim (eqb m q) as (λ (b : Bool). eqb m q ≡ b → times q (unless (stands m l) m) ≡ 0) [
      | true ↦ λ e.
          let s : stands m l ≡ true = rw (eqb-true m q e) h in
          ap (λ (b : Bool). times q (unless b m)) s ∙ none q
      | false ↦ λ e. times-apart (stands m l) m q (eqb-false m q e)
    ] refl in
    omega (arith, times_more q m l, times-named m q l h, last)

once : (q : ℕ) → times q (q ∷ []) ≡ 1
unfolding times
once q = let e : eqb q q ≡ true = eq-eqb q q refl in rw e

-- each other one once
pub times-other : (n q : ℕ) (l : List ℕ) → q < n → stands q l ≡ false → times q (other_qubits n l) ≡ 1
times-other zero q l h s = absurd (omega arith)
times-other (suc m) q l h s =
    elim (eqb m q) as (λ (b : Bool). eqb m q ≡ b → times q (other_qubits (suc m) l) ≡ 1) [
      | true ↦ λ e.
          let z = eqb-true m q e in
          let f : stands m l ≡ false = rw z s in
          let t : times q (unless (stands m l) m) ≡ 1 = ap (λ (b : Bool). times q (unless b m)) f ∙ rw z (once q) in
          omega (arith, times_more q m l, times-past m q l (omega (arith, z)), t)
      | false ↦ λ e.
          let z = eqb-false m q e in
          omega (arith, times_more q m l, times-other m q l (lt_of m q h z) s, times-apart (stands m l) m q z)
    ] refl
  where
    lt_of : (m q : ℕ) → q < suc m → (m ≡ q → ⊥) → q < m
    lt_of m q h z = ⊎_elim (λ (g : m ≤ q). absurd (z (omega arith))) (λ (g : q < m). g) (le-or-lt m q)

-- so it is as a list that no test refuses

pub stands-other : (n q : ℕ) (l : List ℕ) → q < n → stands q l ≡ false → stands q (other_qubits n l) ≡ true
stands-other n q l g h =
    ⊎_elim (λ (e : stands q (other_qubits n l) ≡ true). e)
    (λ (e : stands q (other_qubits n l) ≡ false). absurd (omega (arith, times-other n q l g h, times_none q (other_qubits n l) e)))
    (either q (other_qubits n l))

pub stands-named : (n q : ℕ) (l : List ℕ) → stands q l ≡ true → stands q (other_qubits n l) ≡ false
stands-named n q l h =
    ⊎_elim (λ (e : stands q (other_qubits n l) ≡ true). absurd (omega (arith, times-named n q l h, times-some q (other_qubits n l) e)))
    (λ (e : stands q (other_qubits n l) ≡ false). e)
    (either q (other_qubits n l))
