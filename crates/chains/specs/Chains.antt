-- The chain of sites of a state: the call's answer, and what each lent slice holds at the end. Definitions only.
use Rattle.std.specs.Prelude.{◌≡◌, List, ◌++◌, ℕ, ◌+◌, ◌-◌, length, drop, replicate, Float, Result, IfOk}
use Rattle.answers.specs.Paper.{Reply, paper, given, and_then, if_done, if_worked, at_end}
use Rattle.complex.specs.Zeros.{zeros, zeroed}
use Rattle.answers.specs.declared.Refusal.{Refusal}
use Rattle.chain_fill.specs.Fill.{chain_of, bonds_of, starts_of, marks_of, dropped_of, work_reply}
use Rattle.chain_checks.specs.Checks.{need_sites, need_marks, need_plane, need_scratch, chain_tests}

-- the sites one after another, and +0.0 past them
unfoldable pub sites_filled : List Float → ℕ → Float → ℕ → List Float
sites_filled s n epsilon limit = chain_of s n epsilon limit ++ zeros (need_sites n limit - length (chain_of s n epsilon limit))

-- so many zero counts at the front
unfoldable pub counts_cleared : ℕ → List ℕ → List ℕ
counts_cleared m old = replicate m 0 ++ drop m old

-- 1, 6, 7, and then 8 and 9
unfoldable pub chain_reply : List Float → ℕ → Float → ℕ → ℕ → ℕ → ℕ → ℕ → ℕ → ℕ → ℕ → ℕ → Reply
chain_reply s n epsilon limit sites bonds starts marks matrix u vt scratch =
    and_then (chain_tests s n limit sites bonds starts marks matrix u vt scratch) (work_reply s n epsilon limit)

-- the answer, the drops, and what every lent slice holds at the end
pub record ChainOfSites (s : List Float) (n : ℕ) (epsilon : Float) (limit : ℕ)
    (sites : List Float) (bonds starts marks : List ℕ) (matrix u vt scratch : List Float) (r : Result ℕ Refusal)
    (sites' : List Float) (bonds' starts' marks' : List ℕ) (matrix' u' vt' scratch' : List Float) : Type 0 where
  pub answer : paper r
      ≡ chain_reply s n epsilon limit (length sites) (length bonds) (length starts) (length marks) (length matrix) (length u) (length vt) (length scratch)
  pub dropped-is : given 0 r ≡ if_done (paper r).0 (dropped_of s n epsilon limit) 0
  pub sites-is : sites' ≡ at_end (paper r).0
      (sites_filled s n epsilon limit ++ drop (need_sites n limit) sites) (zeroed (need_sites n limit) sites) sites
  pub bonds-is : bonds' ≡ at_end (paper r).0 (bonds_of s n epsilon limit ++ drop (n + 1) bonds) (counts_cleared (n + 1) bonds) bonds
  pub starts_is : starts' ≡ at_end (paper r).0 (starts_of s n epsilon limit ++ drop (n + 1) starts) (counts_cleared (n + 1) starts) starts
  pub marks-is : marks' ≡ at_end (paper r).0
      (marks_of s n epsilon limit ++ drop (need_marks n) marks) (counts_cleared (need_marks n) marks) marks
  pub matrix-is : matrix' ≡ if_worked (paper r).0 (zeroed (need_plane n) matrix) matrix
  pub u-is : u' ≡ if_worked (paper r).0 (zeroed (need_plane n) u) u
  pub vt_is : vt' ≡ if_worked (paper r).0 (zeroed (need_plane n) vt) vt
  pub scratch-is : scratch' ≡ if_worked (paper r).0 (zeroed (need_scratch n) scratch) scratch

-- the work of an accepted call, over slices of exactly the needed lengths
pub record ChainWorked (s : List Float) (n : ℕ) (epsilon : Float) (limit : ℕ) (r : Result ℕ Refusal)
    (sites : List Float) (bonds starts marks : List ℕ) (matrix u vt scratch : List Float) : Type 0 where
  pub answer : paper r ≡ work_reply s n epsilon limit
  pub dropped-is : IfOk r (λ dropped. dropped ≡ dropped_of s n epsilon limit)
  pub sites-is : sites ≡ if_done (paper r).0 (sites_filled s n epsilon limit) (zeros (need_sites n limit))
  pub bonds-is : bonds ≡ if_done (paper r).0 (bonds_of s n epsilon limit) (replicate (n + 1) 0)
  pub starts_is : starts ≡ if_done (paper r).0 (starts_of s n epsilon limit) (replicate (n + 1) 0)
  pub marks-is : marks ≡ if_done (paper r).0 (marks_of s n epsilon limit) (replicate (need_marks n) 0)
  pub matrix-is : matrix ≡ zeros (need_plane n)
  pub u-is : u ≡ zeros (need_plane n)
  pub vt_is : vt ≡ zeros (need_plane n)
  pub scratch-is : scratch ≡ zeros (need_scratch n)
