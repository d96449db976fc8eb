-- What a chain of sites is, and the contracts of its work. Definitions only.
use Rattle.std.specs.Prelude.{◌≡◌, List, [], ◌∷◌, ◌++◌, ℕ, ◌+◌, ◌-◌, ◌*◌, ◌/◌, ◌^◌, ◌≤◌, length, take, set, Float, Result, IfOk}
use Rattle.answers.specs.Paper.{Reply, paper, refuse}
use Rattle.complex.specs.Zeros.{zeros}
use Rattle.chain_start.specs.Start.{state_zero, carried_first}
use Rattle.chain_walk.specs.Chain.{Links, links_to, reply_to, room_to}
use Rattle.answers.specs.declared.Refusal.{Refusal}

-- ---- the chain of a state

-- what every cut of the state leaves
unfoldable pub last_of : List Float → ℕ → Float → ℕ → Links
last_of s n epsilon limit = links_to (carried_first s n) n epsilon limit (n - 1)

-- the sites one after another, the last one what is carried at the end
unfoldable pub chain_of : List Float → ℕ → Float → ℕ → List Float
unfolding last_of
chain_of s n epsilon limit = (last_of s n epsilon limit).sites ++ (last_of s n epsilon limit).carried

-- the n + 1 bonds
unfoldable pub bonds_of : List Float → ℕ → Float → ℕ → List ℕ
unfolding last_of
bonds_of s n epsilon limit = 1 ∷ ((last_of s n epsilon limit).ranks ++ 1 ∷ [])

-- the cell where each site starts, and the one after the last
unfoldable pub starts_of : List Float → ℕ → Float → ℕ → List ℕ
unfolding last_of
starts_of s n epsilon limit = 0 ∷ ((last_of s n epsilon limit).ends ++ ((last_of s n epsilon limit).at + 2 * (last_of s n epsilon limit).bond) ∷ [])

-- the marks of each cut's SVD, three numbers a cut
unfoldable pub marks_of : List Float → ℕ → Float → ℕ → List ℕ
unfolding last_of
marks_of s n epsilon limit = (last_of s n epsilon limit).marks

-- how many cuts dropped a value above the resolution
unfoldable pub dropped_of : List Float → ℕ → Float → ℕ → ℕ
unfolding last_of
dropped_of s n epsilon limit = (last_of s n epsilon limit).dropped

-- 8 where every component is zero, else the steps' answer: 9
unfoldable pub work_reply : List Float → ℕ → Float → ℕ → Reply
work_reply s n epsilon limit = refuse (state_zero s) (8, 0) (reply_to (carried_first s n) n epsilon limit (n - 1))

-- ---- contracts

-- what the last site asks
pub record LastRoom (n bond at u sites bonds starts : ℕ) : Type 0 where
  pub some : 1 ≤ n
  pub bond-few : bond ≤ 4096
  pub fits : 2 * at + 4 * bond ≤ sites
  pub u-holds : 4 * bond ≤ u
  pub bonds-is : bonds ≡ n + 1
  pub starts_is : starts ≡ n + 1

-- the last site, +0.0 past it, and both ends of bonds and starts
pub record Last (n bond at : ℕ) (u sites : List Float) (bonds starts : List ℕ) (sites' : List Float) (bonds' starts' : List ℕ) : Type 0 where
  pub sites-is : sites' ≡ take (2 * at) sites ++ (take (4 * bond) u ++ zeros (length sites - 2 * at - 4 * bond))
  pub bonds-is : bonds' ≡ set (set bonds 0 1) n 1
  pub starts_is : starts' ≡ set (set starts 0 0) n (at + 2 * bond)

-- the sizes and lengths of an accepted call, over slices of exactly the needed lengths
pub record FillRoom (n limit state sites bonds starts marks u vt scratch : ℕ) : Type 0 where
  pub some : 1 ≤ n
  pub small : n ≤ 12
  pub limit-some : 1 ≤ limit
  pub state-is : state ≡ 2 * 2 ^ n
  pub sites-is : sites ≡ 2 * room_to n limit n
  pub bonds-is : bonds ≡ n + 1
  pub starts_is : starts ≡ n + 1
  pub marks-is : marks ≡ 3 * (n - 1)
  pub u-is : u ≡ 2 * 2 ^ n
  pub vt_is : vt ≡ 2 * 2 ^ n
  pub scratch-is : scratch ≡ 6 * 2 ^ n + 2 * 2 ^ (n / 2)

-- the chain, and how many cuts dropped a value above the resolution
pub record ChainMade (s : List Float) (n : ℕ) (epsilon : Float) (limit dropped : ℕ) (sites : List Float) (bonds starts marks : List ℕ) : Type 0 where
  pub dropped-is : dropped ≡ dropped_of s n epsilon limit
  pub sites-is : sites ≡ chain_of s n epsilon limit ++ zeros (2 * room_to n limit n - length (chain_of s n epsilon limit))
  pub bonds-is : bonds ≡ bonds_of s n epsilon limit
  pub starts_is : starts ≡ starts_of s n epsilon limit
  pub marks-is : marks ≡ marks_of s n epsilon limit

-- the answer, and where it is 0 the chain
pub record ChainFilled (s : List Float) (n : ℕ) (epsilon : Float) (limit : ℕ) (r : Result ℕ Refusal) (sites : List Float) (bonds starts marks : List ℕ) : Type 0 where
  pub answer : paper r ≡ work_reply s n epsilon limit
  pub made : IfOk r (λ dropped. ChainMade s n epsilon limit dropped sites bonds starts marks)
