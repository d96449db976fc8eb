-- Three marks put one after another. Assumes nothing.
use mathlib.Core.Path.{◌≡◌, refl, sym, ap, ◌∙◌}
use mathlib.Core.List.{List, [], ◌∷◌, ◌++◌, append-nil}
use Prim.Native.Nat.{ℕ, zero, suc, ◌+◌, ◌≤◌, ◌<◌}
use native.Mathlib.Numerals.{add-one}
use native.Mathlib.Omega.{arith}
use lib.ListN.{length, take, drop, set, length-set, replicate, length-replicate, replicate-append-replicate, drop_of_length-le}
use lib.Seq.{drop-cons, set_at, append_snoc}
use Rattle.sweeps.specs.declared.Sweeps.{Sweeps}
use Rattle.cut_marks.specs.Marks.{one_if, cut_marks}

-- three numbers put one after another
put_three : (l : List ℕ) (k a b c : ℕ) → k + 3 ≤ length l → set (set (set l k a) (k + 1) b) (k + 2) c ≡ take k l ++ (a ∷ b ∷ c ∷ drop (k + 3) l)
put_three [] k a b c h = absurd (omega (arith, h))
put_three (x ∷ []) zero a b c h = absurd (omega (arith, h))
put_three (x ∷ y ∷ []) zero a b c h = absurd (omega (arith, h))
put_three (x ∷ y ∷ z ∷ l) zero a b c h = refl
put_three (x ∷ l) (suc k) a b c h =
    let e : suc k + 1 ≡ suc (k + 1) = omega arith in
    let f : suc k + 2 ≡ suc (k + 2) = omega arith in
    let g : suc k + 3 ≡ suc (k + 3) = omega arith in
    rw (e, f, g) (ap (λ (q : List ℕ). x ∷ q) (put_three l k a b c (omega (arith, h))))

pub marks-put : (l : List ℕ) (at : ℕ) (t : Sweeps) {quiet : ℕ} → at + 3 ≤ length l → quiet ≡ one_if t.quiet
    → set (set (set l at t.begun) (at + 1) quiet) (at + 2) t.turned ≡ take at l ++ (cut_marks t ++ drop (at + 3) l)
marks-put l at t h e = rw e (put_three l at t.begun (one_if t.quiet) t.turned h)

-- a place of a list stays one where a number is put
pub in-set : (l : List ℕ) (i x k : ℕ) → k < length l → k < length (set l i x)
in-set l i x k h = rw length-set h

pub in-set-two : (l : List ℕ) (i x j y k : ℕ) → k < length l → k < length (set (set l i x) j y)
in-set-two l i x j y k h = in-set (set l i x) j y k (in-set l i x k h)
