-- How many pairs the sweeps can turn: at most one for each pair of columns in each sweep begun. Assumes nothing.
use mathlib.Core.Path.{◌≡◌, refl, ◌∙◌}
use Prim.Native.Nat.{ℕ, zero, suc, ◌+◌, ◌-◌, ◌*◌, ◌≤◌}
use native.Mathlib.Numerals.{add-one}
use native.Mathlib.Omega.{arith}
use mathlib.Core.List.{List}
use lib.Ieee.{Float}
use Rattle.svd_pair.specs.Decisions.{Decision}
use Rattle.std.proofs.Common.{None, Some}
use Rattle.sweeps.specs.declared.Sweeps.{Sweeps}
use Rattle.sweeps.specs.Sweeping.{State, state, counted, begin, Pairing, pair_by, pair_step, pairs_to, columns_to, sweep_of}

-- s is in the sweep of s₀ and has turned at most k pairs more
pub record Within (s₀ s : Sweeps) (k : ℕ) : Type 0 where
  pub begun : s.begun ≡ s₀.begun
  pub turned : s.turned ≤ s₀.turned + k

counted-within : (d : Decision) (s : Sweeps) → Within s (counted d s) 1
unfolding counted
counted-within None s = record { begun = refl; turned = omega arith }
counted-within (Some t) s = record { begun = refl; turned = omega arith }

pair-within : (f : Pairing) (p q : ℕ) (s : State) → Within s.sweeps (pair_step f p q s).sweeps 1
unfolding pair_step pair_by
pair-within f p q s = counted-within (f.decide p q s.work) s.sweeps

both-within : {a b c : Sweeps} {j k l : ℕ} → Within a b j → Within b c k → j + k ≡ l → Within a c l
both-within g h e = record { begun = h.begun ∙ g.begun; turned = omega arith }

pairs-within : (f : Pairing) (p k : ℕ) (s : State) → Within s.sweeps (pairs_to f p k s).sweeps k
unfolding pairs_to
pairs-within f p zero s = record { begun = refl; turned = omega arith }
pairs-within f p (suc k) s =
    both-within (pairs-within f p k s) (pair-within f p (p + 1 + k) (pairs_to f p k s)) (omega arith)

-- the pairs of all columns below p
unfoldable pub pairs_below : ℕ → ℕ → ℕ
pairs_below n zero = 0
pairs_below n (suc p) = pairs_below n p + (n - (p + 1))

columns-within : (f : Pairing) (n p : ℕ) (s : State) → Within s.sweeps (columns_to f n p s).sweeps (pairs_below n p)
unfolding columns_to pairs_below
columns-within f n zero s = record { begun = refl; turned = omega arith }
columns-within f n (suc p) s =
    both-within (columns-within f n p s) (pairs-within f p (n - (p + 1)) (columns_to f n p s)) refl

-- ---- what the proofs of the loops cite

pub pair-after : (f : Pairing) (p q : ℕ) (s : State) {t : State} → t ≡ pair_step f p q s → Within s.sweeps t.sweeps 1
pair-after f p q s e = rw e (pair-within f p q s)

pub pairs-after : (f : Pairing) (p k : ℕ) (s : State) {t : State} → t ≡ pairs_to f p k s → Within s.sweeps t.sweeps k
pairs-after f p k s e = rw e (pairs-within f p k s)

-- the pairs of the column p more
pub turned_more : (n p x : ℕ) {s t : Sweeps} → s.turned ≤ x + pairs_below n p → Within s t (n - (p + 1)) → t.turned ≤ x + pairs_below n (p + 1)
unfolding pairs_below
turned_more n p x h w = rw add-one (omega arith)

pub sweep-after : (f : List Float → Pairing) (n : ℕ) (s : State) {t : State} → t ≡ sweep_of f n s → Within (begin s.sweeps) t.sweeps (pairs_below n n)
unfolding sweep_of
sweep-after f n s e = rw e (columns-within (f s.work) n n (state s.work s.v (begin s.sweeps)))

pub pairs-few : (n p : ℕ) → n ≤ 64 → pairs_below n p ≤ p * 64
unfolding pairs_below
pairs-few n zero h = omega arith
pairs-few n (suc p) h = omega (arith, pairs-few n p h)
