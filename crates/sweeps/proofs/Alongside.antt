-- Two ways of doing a pair go side by side: what stays alike over each pair is alike after the sweeps, and the counts are the same. Assumes nothing.
use mathlib.Core.Path.{◌≡◌, refl, ap, ◌∙◌}
use mathlib.Core.Bool.{Bool, true, false, cond}
use mathlib.Core.List.{List}
use Prim.Native.Nat.{ℕ, zero, suc, ◌+◌, ◌-◌, ◌<◌, ◌≤◌}
use native.Mathlib.Omega.{arith}
use lib.Ieee.{Float}
use Rattle.sweeps.specs.declared.Sweeps.{Sweeps}
use Rattle.sweeps.specs.Sweeping.{State, state, counted, begin, no_sweeps, Pairing, pair_by, pair_step, pairs_to, columns_to, sweep_of, sweeps_to, settled_by}

-- what two ways f and g of doing a pair of n columns have to keep: Good is said of the lists that g leaves, Like of the lists of f and those of g
pub record Along (n : ℕ) (f g : Pairing) (Good : List Float → List Float → Type 0) (Like : List Float → List Float → List Float → List Float → Type 0) : Type 0 where
  -- what is good after a pair was good before it
  pub back : (p q : ℕ) (work v : List Float) → p < q → q < n
      → Good (g.on_work (g.decide p q work) p q work) (g.on_v (g.decide p q work) p q v) → Good work v
  -- what is alike stays so, where it is good
  pub kept : (p q : ℕ) (work v work' v' : List Float) → p < q → q < n → Like work v work' v'
      → Good (g.on_work (g.decide p q work') p q work') (g.on_v (g.decide p q work') p q v')
      → Like (f.on_work (f.decide p q work) p q work) (f.on_v (f.decide p q work) p q v) (g.on_work (g.decide p q work') p q work') (g.on_v (g.decide p q work') p q v')
  -- and both are counted alike
  pub same : (p q : ℕ) (work v work' v' : List Float) (s : Sweeps) → p < q → q < n → Like work v work' v' → Good work' v'
      → counted (f.decide p q work) s ≡ counted (g.decide p q work') s

-- the lists of a state are good
abbrev GoodAt : (List Float → List Float → Type 0) → State → Type 0
GoodAt Good s = Good s.work s.v

-- the lists of two states are alike, and their counts are the same
record Beside (Like : List Float → List Float → List Float → List Float → Type 0) (s t : State) : Type 0 where
  pub like : Like s.work s.v t.work t.v
  pub sweeps : s.sweeps ≡ t.sweeps

-- the state that a flag picks is good, and the second is so only where the first is: then the first is good
cond_back : (Good : List Float → List Float → Type 0) (b : Bool) (s u : State) → (GoodAt Good u → GoodAt Good s) → GoodAt Good (cond b s u) → GoodAt Good s
cond_back Good true s u h i = i
cond_back Good false s u h i = h i

-- two ends that are chosen by the same flag stand beside each other, where the two of either choice do
cond-beside : (Good : List Float → List Float → Type 0) (Like : List Float → List Float → List Float → List Float → Type 0) (b : Bool) (s t u v : State)
    → Beside Like s t → (GoodAt Good v → Beside Like u v) → GoodAt Good (cond b t v) → Beside Like (cond b s u) (cond b t v)
cond-beside Good Like true s t u v h i j = h
cond-beside Good Like false s t u v h i j = i j

-- the same for two flags that are equal
cond-along : (Good : List Float → List Float → Type 0) (Like : List Float → List Float → List Float → List Float → Type 0) {b b' : Bool} (s t u v : State)
    → b ≡ b' → Beside Like s t → (GoodAt Good v → Beside Like u v) → GoodAt Good (cond b' t v) → Beside Like (cond b s u) (cond b' t v)
cond-along Good Like {b} {b'} s t u v e h i j = rw e (cond-beside Good Like b' s t u v h i j)

module _ (n : ℕ) (f g : Pairing) (Good : List Float → List Float → Type 0) (Like : List Float → List Float → List Float → List Float → Type 0) (a : Along n f g Good Like) where
  -- ---- what is good at the end was good before

  -- good after a pair, so good before it
  pair-back : (p q : ℕ) (t : State) → p < q → q < n → GoodAt Good (pair_step g p q t) → GoodAt Good t
  unfolding pair_step pair_by
  pair-back p q t h i j = a.back p q t.work t.v h i j

  -- good after k pairs of a column, so good before them
  pairs-back : (p k : ℕ) (t : State) → k ≤ n - (p + 1) → GoodAt Good (pairs_to g p k t) → GoodAt Good t
  unfolding pairs_to
  pairs-back p zero t h j = j
  pairs-back p (suc k) t h j = pairs-back p k t (omega arith) (pair-back p (p + 1 + k) (pairs_to g p k t) (omega arith) (omega arith) j)

  -- good after the columns below p, so good before them
  columns-back : (p : ℕ) (t : State) → GoodAt Good (columns_to g n p t) → GoodAt Good t
  unfolding columns_to
  columns-back zero t j = j
  columns-back (suc p) t j = columns-back p t (pairs-back p (n - (p + 1)) (columns_to g n p t) (omega arith) j)

  -- good after a sweep, so good before it
  sweep-back : (t : State) → GoodAt Good (sweep_of (λ (w : List Float). g) n t) → GoodAt Good t
  unfolding sweep_of
  sweep-back t j = columns-back n (state t.work t.v (begin t.sweeps)) j

  -- good after up to k sweeps, so good before them
  sweeps-back : (k : ℕ) (t : State) → GoodAt Good (sweeps_to (λ (w : List Float). g) n k t) → GoodAt Good t
  unfolding sweeps_to
  sweeps-back zero t j = j
  sweeps-back (suc k) t j =
      let u = sweep_of (λ (w : List Float). g) n t in
      sweep-back t (cond_back Good u.sweeps.quiet u (sweeps_to (λ (w : List Float). g) n k u) (sweeps-back k u) j)

  -- ---- states that stand beside each other still do after the same steps, where what g leaves is good

  -- a pair, done by f to the one and by g to the other
  pair-along : (p q : ℕ) (s t : State) → p < q → q < n → Beside Like s t → GoodAt Good (pair_step g p q t) → Beside Like (pair_step f p q s) (pair_step g p q t)
  unfolding pair_step pair_by
  pair-along p q s t h i r j =
      record {
        like = a.kept p q s.work s.v t.work t.v h i r.like j;
        sweeps =
            ap (counted (f.decide p q s.work)) r.sweeps
            ∙ a.same p q s.work s.v t.work t.v t.sweeps h i r.like (a.back p q t.work t.v h i j);
      }

  -- the first k pairs of a column
  pairs-along : (p k : ℕ) (s t : State) → k ≤ n - (p + 1) → Beside Like s t → GoodAt Good (pairs_to g p k t) → Beside Like (pairs_to f p k s) (pairs_to g p k t)
  unfolding pairs_to
  pairs-along p zero s t h r j = r
  pairs-along p (suc k) s t h r j =
      let i : p < p + 1 + k = omega arith in
      let l : p + 1 + k < n = omega arith in
      let before = pair-back p (p + 1 + k) (pairs_to g p k t) i l j in
      pair-along p (p + 1 + k) (pairs_to f p k s) (pairs_to g p k t) i l (pairs-along p k s t (omega arith) r before) j

  -- the columns below p
  columns-along : (p : ℕ) (s t : State) → Beside Like s t → GoodAt Good (columns_to g n p t) → Beside Like (columns_to f n p s) (columns_to g n p t)
  unfolding columns_to
  columns-along zero s t r j = r
  columns-along (suc p) s t r j =
      let h : n - (p + 1) ≤ n - (p + 1) = omega arith in
      let before = pairs-back p (n - (p + 1)) (columns_to g n p t) h j in
      pairs-along p (n - (p + 1)) (columns_to f n p s) (columns_to g n p t) h (columns-along p s t r before) j

  -- one sweep
  sweep-along : (s t : State) → Beside Like s t → GoodAt Good (sweep_of (λ (w : List Float). g) n t)
      → Beside Like (sweep_of (λ (w : List Float). f) n s) (sweep_of (λ (w : List Float). g) n t)
  unfolding sweep_of
  sweep-along s t r j =
      columns-along n (state s.work s.v (begin s.sweeps)) (state t.work t.v (begin t.sweeps))
      (record { like = r.like; sweeps = ap begin r.sweeps })
      j

  -- up to k sweeps: both are quiet after the same one
  sweeps-along : (k : ℕ) (s t : State) → Beside Like s t → GoodAt Good (sweeps_to (λ (w : List Float). g) n k t)
      → Beside Like (sweeps_to (λ (w : List Float). f) n k s) (sweeps_to (λ (w : List Float). g) n k t)
  unfolding sweeps_to
  sweeps-along zero s t r j = r
  sweeps-along (suc k) s t r j =
      let s' = sweep_of (λ (w : List Float). f) n s in
      let t' = sweep_of (λ (w : List Float). g) n t in
      let u = sweeps_to (λ (w : List Float). f) n k s' in
      let v = sweeps_to (λ (w : List Float). g) n k t' in
      let r' = sweep-along s t r (cond_back Good t'.sweeps.quiet t' v (sweeps-back k t') j) in
      cond-along Good Like s' t' u v (ap (λ (x : Sweeps). x.quiet) r'.sweeps) r' (sweeps-along k s' t' r') j

-- where what g leaves at the end is good, the lists that f and g leave are alike, and both made the same sweeps and turns
pub settled-alongside : (n cap : ℕ) (f g : Pairing) (Good : List Float → List Float → Type 0) (Like : List Float → List Float → List Float → List Float → Type 0)
    → Along n f g Good Like → (work v : List Float) → Like work v work v
    → Good (settled_by (λ (w : List Float). g) cap n work v).work (settled_by (λ (w : List Float). g) cap n work v).v
    → Like
    (settled_by (λ (w : List Float). f) cap n work v).work
    (settled_by (λ (w : List Float). f) cap n work v).v
    (settled_by (λ (w : List Float). g) cap n work v).work
    (settled_by (λ (w : List Float). g) cap n work v).v
    × ((settled_by (λ (w : List Float). f) cap n work v).sweeps ≡ (settled_by (λ (w : List Float). g) cap n work v).sweeps)
unfolding settled_by
settled-alongside n cap f g Good Like a work v h j =
    let r = sweeps-along n f g Good Like a cap (state work v no_sweeps) (state work v no_sweeps) (record { like = h; sweeps = refl }) j in
    (r.like, r.sweeps)
