-- A scan for numbers that are not finite: what is left decides with what was seen. Assumes nothing.
use mathlib.Core.Path.{◌≡◌, refl, sym, ap, ◌∙◌}
use mathlib.Core.Bool.{Bool, true, false, cond, ◌&&◌}
use mathlib.Core.List.{List, [], ◌∷◌}
use Prim.Native.Nat.{ℕ, suc, ◌+◌, ◌≤◌, ◌<◌}
use native.Mathlib.Numerals.{add-one}
use native.Mathlib.Omega.{arith}
use lib.Ieee.{Float, nan, inf, fin}
use lib.ListN.{length, get_or, drop, drop_of_length-le}
use lib.Seq.{drop-cons}
use Rattle.numbers.specs.Numbers.{allowed, is_finite}
use Rattle.scaled.specs.Each.{EachAllowed}
use Rattle.values.specs.Lists.{all_finite}

one_more : (a b c : Bool) → (a && cond b c false) ≡ ((a && b) && c)
one_more true true c = refl
one_more true false c = refl
one_more false b c = refl

and-true : (a : Bool) → (a && true) ≡ a
and-true true = refl
and-true false = refl

pub finite-more : (s : List Float) (i : ℕ) (b : Bool) {x : Bool} → i < length s → all_finite s ≡ (b && all_finite (drop i s)) → x ≡ is_finite (get_or s i nan)
    → all_finite s ≡ ((b && x) && all_finite (drop (i + 1) s))
unfolding all_finite
finite-more s i b h e f =
    e
    ∙ ap (λ (l : List Float). b && all_finite l) (drop-cons s i nan h)
    ∙ one_more b (is_finite (get_or s i nan)) (all_finite (drop (suc i) s))
    ∙ ap (λ (n : ℕ). (b && is_finite (get_or s i nan)) && all_finite (drop n s)) (sym (add-one i))
    ∙ ap (λ (y : Bool). (b && y) && all_finite (drop (i + 1) s)) (sym f)

pub finite-end : (s : List Float) (i : ℕ) (b : Bool) → length s ≤ i → all_finite s ≡ (b && all_finite (drop i s)) → b ≡ all_finite s
unfolding all_finite
finite-end s i b h e = sym (e ∙ ap (λ (l : List Float). b && all_finite l) (drop_of_length-le s h) ∙ and-true b)

allowed-finite : (x : Float) → allowed x ≡ true → is_finite x ≡ true
unfolding allowed is_finite
allowed-finite nan h = h
allowed-finite (inf s) h = h
allowed-finite (fin s m e) h = refl

-- allowed numbers are finite
pub finite-of-each : (s : List Float) → EachAllowed s → all_finite s ≡ true
unfolding all_finite
finite-of-each [] a = refl
finite-of-each (x ∷ l) a = ap (λ (b : Bool). cond b (all_finite l) false) (allowed-finite x (a 0 (omega arith))) ∙ finite-of-each l (λ j h. a (suc j) (omega arith))
