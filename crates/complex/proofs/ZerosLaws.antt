-- Laws of what `specs/Zeros.antt` defines. Assumes nothing.
use mathlib.Core.Path.{◌≡◌, refl, ap, ◌∙◌}
use mathlib.Core.List.{List, [], ◌∷◌, ◌++◌}
use Prim.Native.Nat.{ℕ, zero, suc, ◌≤◌, ◌<◌}
use native.Mathlib.Omega.{arith}
use lib.Ieee.{Float, nan}
use lib.ListN.{length, get_or, take, drop, replicate, length-append, length-drop, get_or-append}
use lib.Seq.{length-take-le, get_or_at}
use mathlib.Core.Logic.{⊎_elim}
use native.Mathlib.Nat.{eq-or-lt_of_le}
use Rattle.complex.specs.Zeros.{zero_float, zeros, zeroed}

pub length-zeros : (m : ℕ) → length (zeros m) ≡ m
unfolding zeros
length-zeros zero = refl
length-zeros (suc m) = rw (length-append (zeros m) (zero_float ∷ [])) (omega (arith, length-zeros m))

pub length-zeroed : (m : ℕ) (old : List Float) → m ≤ length old → length (zeroed m old) ≡ length old
unfolding zeroed
length-zeroed m old h = rw (length-append (zeros m) (drop m old)) (omega (arith, length-zeros m, length-drop m old))

zeros-more : (m : ℕ) → zero_float ∷ zeros m ≡ zeros m ++ zero_float ∷ []
unfolding zeros
zeros-more zero = refl
zeros-more (suc m) = ap (λ (l : List Float). l ++ zero_float ∷ []) (zeros-more m)

zeros-are : (m : ℕ) → replicate m zero_float ≡ zeros m
unfolding zeros
zeros-are zero = refl
zeros-are (suc m) = ap (λ (l : List Float). zero_float ∷ l) (zeros-are m) ∙ zeros-more m

-- what `fill` writes over the m first numbers
pub zeroed-is : (m : ℕ) (old new : List Float) → m ≤ length old → new ≡ replicate (length (take m old)) zero_float → new ++ drop m old ≡ zeroed m old
unfolding zeroed
zeroed-is m old new h e = rw (e, length-take-le m old h, zeros-are m)

-- a number that was zeroed
zeros-at : (m k : ℕ) → k < m → get_or (zeros m) k nan ≡ zero_float
unfolding zeros
zeros-at zero k h = absurd (omega arith)
zeros-at (suc m) k h =
    ⊎_elim
    (λ (e : k ≡ m). rw e (get_or_at (zeros m) zero_float [] nan m (length-zeros m)))
    (λ (e : k < m). rw (get_or-append (zeros m) (zero_float ∷ []) nan k (omega (arith, length-zeros m))) (zeros-at m k e))
    (eq-or-lt_of_le (omega arith))

pub zeroed-at : (m k : ℕ) (old : List Float) → k < m → get_or (zeroed m old) k nan ≡ zero_float
unfolding zeroed
zeroed-at m k old h = rw (get_or-append (zeros m) (drop m old) nan k (omega (arith, length-zeros m))) (zeros-at m k h)
