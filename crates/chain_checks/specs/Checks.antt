-- The lengths that the chain of sites asks, and its refusals before the work. Definitions only.
use Rattle.std.specs.Prelude.{◌≡◌, List, ℕ, ◌+◌, ◌-◌, ◌*◌, ◌/◌, ◌^◌, ◌≤◌, eqb, ltb, length, Float}
use Rattle.answers.specs.Paper.{Reply, done, refuse, and_then, exactly, room}
use Rattle.chain_start.specs.Start.{components_for}
use Rattle.chain_walk.specs.Chain.{room_to}

-- ---- the needed lengths, in numbers

-- the sites, at most B(j)·2·B(j+1) cells each
abbrev pub need_sites : ℕ → ℕ → ℕ
need_sites n limit = 2 * room_to n limit n

-- three numbers a cut
abbrev pub need_marks : ℕ → ℕ
need_marks n = 3 * (n - 1)

-- the state, and each of matrix, u and vt
abbrev pub need_plane : ℕ → ℕ
need_plane n = 2 * 2 ^ n

-- the rest of what an SVD of 2^n cells asks
abbrev pub need_scratch : ℕ → ℕ
need_scratch n = 6 * 2 ^ n + 2 * 2 ^ (n / 2)

-- ---- the refusals, in their order

-- 1: the limit, then n
unfoldable pub chain_sizes : ℕ → ℕ → Reply
chain_sizes n limit = refuse (eqb limit 0) (1, 0) (refuse (ltb n 1) (1, 0) (refuse (ltb 12 n) (1, 0) done))

-- 6 of the state and of what the call leaves
unfoldable pub result_lengths : ℕ → ℕ → ℕ → ℕ → ℕ → ℕ → ℕ → Reply
result_lengths n limit state sites bonds starts marks =
    and_then (exactly 0 state (need_plane n))
    (and_then (room 1 sites (need_sites n limit))
    (and_then (room 2 bonds (n + 1)) (and_then (room 3 starts (n + 1)) (room 4 marks (need_marks n)))))

-- 6 of the working slices
unfoldable pub scratch_lengths : ℕ → ℕ → ℕ → ℕ → ℕ → Reply
scratch_lengths n matrix u vt scratch =
    and_then (room 5 matrix (need_plane n)) (and_then (room 6 u (need_plane n)) (and_then (room 7 vt (need_plane n)) (room 8 scratch (need_scratch n))))

-- 1, 6, and 7 above 2^190
unfoldable pub chain_tests : List Float → ℕ → ℕ → ℕ → ℕ → ℕ → ℕ → ℕ → ℕ → ℕ → ℕ → Reply
chain_tests s n limit sites bonds starts marks matrix u vt scratch =
    and_then (chain_sizes n limit)
    (and_then (result_lengths n limit (length s) sites bonds starts marks)
    (and_then (scratch_lengths n matrix u vt scratch) (components_for 190 0 s)))

-- what an accepted call has passed
pub record ChainAccepted (n limit state sites bonds starts marks matrix u vt scratch : ℕ) : Type 0 where
  pub limit-some : 1 ≤ limit
  pub some : 1 ≤ n
  pub small : n ≤ 12
  pub state-is : state ≡ need_plane n
  pub sites-fit : need_sites n limit ≤ sites
  pub bonds-fit : n + 1 ≤ bonds
  pub starts_fit : n + 1 ≤ starts
  pub marks-fit : need_marks n ≤ marks
  pub matrix-fits : need_plane n ≤ matrix
  pub u-fits : need_plane n ≤ u
  pub vt-fits : need_plane n ≤ vt
  pub scratch-fits : need_scratch n ≤ scratch
