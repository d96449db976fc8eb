-- The contracts of the walk along the chain. Definitions only.
use Rattle.std.specs.Prelude.{◌≡◌, List, ◌++◌, ℕ, ◌+◌, ◌-◌, ◌*◌, ◌/◌, ◌^◌, ◌≤◌, ◌<◌, take, drop, set, Float, Result, IfOk}
use Rattle.answers.specs.Paper.{paper, done}
use Rattle.answers.specs.declared.Refusal.{Refusal}
use Rattle.site_ranks.specs.Ranks.{rank_of, discards_of}
use Rattle.svd.specs.Svd.{s_of, svd_sweeps}
use Rattle.chain_step.specs.Step.{step_site, carried_on, step_reply}
use Rattle.chain_link.specs.OneLink.{LinkRoom}
use Rattle.cut_marks.specs.Marks.{one_if, cut_marks}
use Rattle.chain_walk.specs.Chain.{links_to, reply_to, room_to}
use Rattle.chain_walk.specs.declared.Walked.{Walked}

-- ---- one step

-- what step j of n asks: its step, and room for its rank, its end and its marks
pub record NextRoom (n j bond at dropped limit sites bonds starts marks u vt scratch : ℕ) : Type 0 where
  pub room : LinkRoom n j bond at limit sites u vt scratch
  pub in-bonds : j < bonds
  pub in-starts : j < starts
  pub in-marks : 3 * j + 3 ≤ marks
  pub dropped-few : dropped ≤ 12

-- what a step that is answered 0 leaves, where the step's matrix is a
pub record Taken (a : List Float) (rows columns j at dropped : ℕ) (epsilon : Float) (limit : ℕ) (sites : List Float) (bonds starts marks : List ℕ)
    (r : Walked) (sites' : List Float) (bonds' starts' marks' : List ℕ) (u' : List Float) : Type 0 where
  pub bond-is : r.bond ≡ rank_of (s_of a rows columns) epsilon limit
  pub at-is : r.at ≡ at + rows * r.bond
  pub dropped-is : r.dropped ≡ dropped + one_if (discards_of (s_of a rows columns) r.bond)
  pub sites-is : sites' ≡ take (2 * at) sites ++ (step_site a rows columns r.bond ++ drop (2 * r.at) sites)
  pub bonds-is : bonds' ≡ set bonds j r.bond
  pub starts_is : starts' ≡ set starts j r.at
  pub marks-is : marks' ≡ take (3 * j) marks ++ (cut_marks (svd_sweeps a rows columns) ++ drop (3 * j + 3) marks)
  pub carried-is : take (2 * (columns * r.bond)) u' ≡ carried_on a rows columns r.bond

-- the answer of a step, and where it is 0 what it leaves
pub record Next (a : List Float) (rows columns j at dropped : ℕ) (epsilon : Float) (limit : ℕ) (sites : List Float) (bonds starts marks : List ℕ)
    (r : Result Walked Refusal) (sites' : List Float) (bonds' starts' marks' : List ℕ) (u' : List Float) : Type 0 where
  pub answer : paper r ≡ step_reply a rows columns (rank_of (s_of a rows columns) epsilon limit)
  pub taken : IfOk r (λ w. Taken a rows columns j at dropped epsilon limit sites bonds starts marks w sites' bonds' starts' marks' u')

-- ---- the walk

-- what the walk asks: room for every site, rank, end and mark, and the working slices exactly
pub record WalkRoom (n limit sites bonds starts marks u vt scratch : ℕ) : Type 0 where
  pub some : 1 ≤ n
  pub small : n ≤ 12
  pub limit-some : 1 ≤ limit
  pub sites-fit : 2 * room_to n limit n ≤ sites
  pub bonds-fit : n ≤ bonds + 1
  pub starts_fit : n ≤ starts + 1
  pub marks-fit : 3 * (n - 1) ≤ marks
  pub u-is : u ≡ 2 * 2 ^ n
  pub vt_is : vt ≡ 2 * 2 ^ n
  pub scratch-is : scratch ≡ 6 * 2 ^ n + 2 * 2 ^ (n / 2)

-- after j steps that were answered 0
pub record Walking (first : List Float) (n : ℕ) (epsilon : Float) (limit j : ℕ) (sites : List Float) (bonds starts marks : List ℕ)
    (bond at dropped : ℕ) (sites' : List Float) (bonds' starts' marks' : List ℕ) (u' : List Float) : Type 0 where
  pub bond-is : bond ≡ (links_to first n epsilon limit j).bond
  pub at-is : at ≡ (links_to first n epsilon limit j).at
  pub dropped-is : dropped ≡ (links_to first n epsilon limit j).dropped
  pub sites-is : sites' ≡ (links_to first n epsilon limit j).sites ++ drop (2 * at) sites
  pub bonds-is : bonds' ≡ (links_to first n epsilon limit j).ranks ++ drop j bonds
  pub starts_is : starts' ≡ (links_to first n epsilon limit j).ends ++ drop j starts
  pub marks-is : marks' ≡ (links_to first n epsilon limit j).marks ++ drop (3 * j) marks
  pub carried-is : take (2 * (2 ^ (n - j) * bond)) u' ≡ (links_to first n epsilon limit j).carried
  pub reply-is : reply_to first n epsilon limit j ≡ done

-- the answer of every step, and where it is 0 what they leave
pub record WalkEnd (first : List Float) (n : ℕ) (epsilon : Float) (limit : ℕ) (sites : List Float) (bonds starts marks : List ℕ)
    (r : Result Walked Refusal) (sites' : List Float) (bonds' starts' marks' : List ℕ) (u' : List Float) : Type 0 where
  pub answer : paper r ≡ reply_to first n epsilon limit (n - 1)
  pub walked : IfOk r (λ w. Walking first n epsilon limit (n - 1) sites bonds starts marks w.bond w.at w.dropped sites' bonds' starts' marks' u')
