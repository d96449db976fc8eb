-- The sweeps of the SVD: the room they ask, what they do with a pair, and their cap. Assumes nothing.
use Rattle.std.specs.Prelude.{◌≡◌, List, ℕ, ◌*◌, ◌<◌, ◌≤◌, Float}
use Rattle.svd_gram.specs.Gram.{gram_to}
use Rattle.svd_pair.specs.Decisions.{decision_of}
use Rattle.svd_pair.specs.Turns.{Making, exact, applied}
use Rattle.sweeps.specs.Sweeping.{State, Pairing, settled_by}

-- ---- the room

-- a work matrix of n columns of m cells, as planes in a list of this length
pub record ValueRoom (m n lw : ℕ) : Type 0 where
  pub work : lw ≡ 2 * (n * m)
  pub columns : n ≤ 64
  pub cells : n * m ≤ 4096

-- and V of n columns of n cells
pub record SvdRoom (m n lw lv : ℕ) : Type 0 where
  pub work : lw ≡ 2 * (n * m)
  pub v : lv ≡ 2 * (n * n)
  pub columns : n ≤ 64
  pub cells : n * m ≤ 4096

-- V is of n columns of n cells, or there is none
pub record VRoom (n lv : ℕ) : Type 0 where
  pub full : 0 < lv → lv ≡ 2 * (n * n)

-- what the sweeps ask: a work matrix, and V or none
pub record SweepRoom (m n lw lv : ℕ) : Type 0 where
  pub work : lw ≡ 2 * (n * m)
  pub v : VRoom n lv
  pub columns : n ≤ 64
  pub cells : n * m ≤ 4096

-- ---- the sweeps

-- the pair p, q is decided by its columns' sums, and turned in the work matrix and in V alike, with new cells made by g
unfoldable pub svd_pairing : Making → ℕ → ℕ → Pairing
svd_pairing g m n =
    record {
      decide = λ p q work. decision_of (gram_to work (n * m) (p * m) (q * m) m);
      on_work = λ d p q work. applied g d (n * m) (p * m) (q * m) m work;
      on_v = λ d p q v. applied g d (n * n) (p * n) (q * n) n v;
    }

-- the same at each sweep
abbrev pub svd_pairings : Making → ℕ → ℕ → List Float → Pairing
svd_pairings g m n work = svd_pairing g m n

-- 100 sweeps at most
unfoldable pub settled_with : Making → ℕ → ℕ → List Float → List Float → State
settled_with g m n work v = settled_by (svd_pairings g m n) 100 n work v

-- as 01 has them
unfoldable pub settled : ℕ → ℕ → List Float → List Float → State
unfolding settled_with
settled m n work v = settled_with exact m n work v
