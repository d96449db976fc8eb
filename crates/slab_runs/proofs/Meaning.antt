-- What the lowest run is: the cells from it on are free, from no lower place are they, and there is none
-- exactly where no place has them. Assumes nothing.
use mathlib.Core.Path.{◌≡◌, refl, sym, ◌∙◌}
use mathlib.Core.Bool.{Bool, true, false, cond, true≢false}
use mathlib.Core.List.{List, [], ◌∷◌}
use Prim.Native.Nat.{ℕ, zero, suc, ◌-◌, ◌≤◌, ◌<◌}
use native.Mathlib.Omega.{arith}
use lib.ListN.{drop}
use Rattle.std.proofs.Common.{Option, Some, None}
use Rattle.slab_runs.specs.Runs.{free, lowest}

-- what an answer says of a map whose first cell has number s
abbrev pub Lowest : ℕ → ℕ → List Bool → Option ℕ → Type 0
Lowest k s m (Some t) = (s ≤ t) × (free k (drop (t - s) m) ≡ true) × ((u : ℕ) → u < t - s → free k (drop u m) ≡ false)
Lowest k s m None = (u : ℕ) → free k (drop u m) ≡ false

-- no run begins at the first cell, and none before t - s in the rest
first-not : (k : ℕ) (b : Bool) (m : List Bool) (n : ℕ) → free k (b ∷ m) ≡ false → ((u : ℕ) → u < n → free k (drop u m) ≡ false)
    → (u : ℕ) → u < suc n → free k (drop u (b ∷ m)) ≡ false
first-not k b m n e l zero h = e
first-not k b m n e l (suc u) h = l u (omega arith)

none-not : (k : ℕ) (b : Bool) (m : List Bool) → free k (b ∷ m) ≡ false → ((u : ℕ) → free k (drop u m) ≡ false) → (u : ℕ) → free k (drop u (b ∷ m)) ≡ false
none-not k b m e l zero = e
none-not k b m e l (suc u) = l u

step : (k s : ℕ) (b : Bool) (m : List Bool) (r : Option ℕ) → free k (b ∷ m) ≡ false → Lowest k (suc s) m r → Lowest k s (b ∷ m) r
step k s b m (Some t) e l =
    let n : t - s ≡ suc (t - suc s) = omega (arith, l.0) in
    rw n (omega (arith, l.0), l.1, first-not k b m (t - suc s) e l.2)
step k s b m None e l = none-not k b m e l

here : (k s : ℕ) (m : List Bool) → free k m ≡ true → Lowest k s m (Some s)
here k s m e =
    let n : s - s ≡ 0 = omega arith in
    rw n (omega arith, e, λ u h. absurd (omega arith))

-- an empty list has no run
empty-not : (k : ℕ) → 1 ≤ k → free k [] ≡ false
unfolding free
empty-not zero h = absurd (omega arith)
empty-not (suc k) h = refl

drop-none : (k : ℕ) → 1 ≤ k → (u : ℕ) → free k (drop u []) ≡ false
drop-none k h zero = empty-not k h
drop-none k h (suc u) = empty-not k h

choose : (k s : ℕ) (b : Bool) (m : List Bool) (t : Bool) → free k (b ∷ m) ≡ t → Lowest k (suc s) m (lowest k (suc s) m)
    → Lowest k s (b ∷ m) (cond t (Some s) (lowest k (suc s) m))
choose k s b m true e l = here k s (b ∷ m) e
choose k s b m false e l = step k s b m (lowest k (suc s) m) e l

pub lowest-is : (k s : ℕ) (m : List Bool) → 1 ≤ k → Lowest k s m (lowest k s m)
unfolding lowest
lowest-is k s [] h = rw (empty-not k h) (drop-none k h)
lowest-is k s (b ∷ m) h = choose k s b m (free k (b ∷ m)) refl (lowest-is k (suc s) m h)

-- an answer that there is one is refused where no place has them
pub nowhere-is : (k : ℕ) (m : List Bool) → 1 ≤ k → ((u : ℕ) → free k (drop u m) ≡ false) → lowest k 0 m ≡ None
nowhere-is k m h f = by_answer (lowest k 0 m) (lowest-is k 0 m h)
  where
    by_answer : (r : Option ℕ) → Lowest k 0 m r → r ≡ None
    by_answer (Some t) l =
        let z : true ≡ false = sym l.1 ∙ f (t - 0) in
        absurd (true≢false z)
    by_answer None l = refl
