-- Laws of what `specs/Every.antt` defines. Assumes nothing.
use mathlib.Core.Path.{◌≡◌, refl, sym, ap, ◌∙◌}
use mathlib.Core.Bool.{Bool, true, false, not, ◌&&◌}
use mathlib.Core.List.{List, [], ◌∷◌}
use Prim.Native.Nat.{ℕ, zero, suc, ◌+◌, ◌/◌, ◌≤◌, ◌<◌}
use native.Mathlib.Numerals.{add-one}
use native.Mathlib.Omega.{arith}
use lib.Ieee.{Float, nan}
use lib.ListN.{length, get_or, drop, drop_of_length-le}
use lib.Seq.{drop-cons}
use Rattle.answers.specs.Paper.{Reply, done, refuse}
use Rattle.numbers.specs.Numbers.{allowed}
use Rattle.scaled.specs.Each.{EachAllowed}
use Rattle.complex.specs.Cells.{components}
use Rattle.components.specs.Every.{every_allowed}

and_assoc : (a b c : Bool) → (a && (b && c)) ≡ ((a && b) && c)
and_assoc true b c = refl
and_assoc false b c = refl

and-true : (a : Bool) → (a && true) ≡ a
and-true true = refl
and-true false = refl

-- one more number of the scan: what is left decides with what was seen
pub every_more : (s : List Float) (i : ℕ) (b : Bool) → i < length s → every_allowed s ≡ (b && every_allowed (drop i s))
    → every_allowed s ≡ ((b && allowed (get_or s i nan)) && every_allowed (drop (i + 1) s))
unfolding every_allowed
every_more s i b h e =
    e ∙ ap (λ (l : List Float). b && every_allowed l) (drop-cons s i nan h) ∙ and_assoc b (allowed (get_or s i nan)) (every_allowed (drop (suc i) s))
    ∙ ap (λ (x : ℕ). (b && allowed (get_or s i nan)) && every_allowed (drop x s)) (sym (add-one i))

pub every-end : (s : List Float) (i : ℕ) (b : Bool) → length s ≤ i → every_allowed s ≡ (b && every_allowed (drop i s)) → b ≡ every_allowed s
unfolding every_allowed
every-end s i b h e = sym (e ∙ ap (λ (l : List Float). b && every_allowed l) (drop_of_length-le s h) ∙ and-true b)

left-true : (a b : Bool) → (a && b) ≡ true → a ≡ true
left-true true b e = refl
left-true false b e = e

right-true : (a b : Bool) → (a && b) ≡ true → b ≡ true
right-true true b e = e
right-true false b e = cc

-- NOTHING IS REFUSED WHERE EVERY NUMBER IS ALLOWED
pub every-done : (s : List Float) (i : ℕ) → every_allowed s ≡ true → components i s ≡ done
unfolding every_allowed components
every-done [] i e = refl
every-done (x ∷ l) i e =
    ap (λ (b : Bool). refuse (not b) (7, i / 2) (components (suc i) l)) (left-true (allowed x) (every_allowed l) e)
    ∙ every-done l (suc i) (right-true (allowed x) (every_allowed l) e)

done-allowed : (b : Bool) (i : ℕ) (rest : Reply) → (refuse (not b) (7, i) rest).0 ≡ 0 → (b ≡ true) × (rest.0 ≡ 0)
done-allowed true i rest e = (refl, e)
done-allowed false i rest e = absurd (omega arith)

-- and where nothing is refused every number is allowed
pub every-from-done : (s : List Float) (i : ℕ) → (components i s).0 ≡ 0 → every_allowed s ≡ true
unfolding every_allowed components
every-from-done [] i e = refl
every-from-done (x ∷ l) i e =
    let d = done-allowed (allowed x) (i / 2) (components (suc i) l) e in
    ap (λ (b : Bool). b && every_allowed l) d.0 ∙ every-from-done l (suc i) d.1

pub every-at : (s : List Float) (j : ℕ) → every_allowed s ≡ true → j < length s → allowed (get_or s j nan) ≡ true
unfolding every_allowed
every-at [] j e h = absurd (omega arith)
every-at (x ∷ l) zero e h = left-true (allowed x) (every_allowed l) e
every-at (x ∷ l) (suc j) e h = every-at l j (right-true (allowed x) (every_allowed l) e) (omega arith)

pub every-of-each : (s : List Float) → EachAllowed s → every_allowed s ≡ true
unfolding every_allowed
every-of-each [] a = refl
every-of-each (x ∷ l) a = ap (λ (b : Bool). b && every_allowed l) (a 0 (omega arith)) ∙ every-of-each l (λ j h. a (suc j) (omega arith))
