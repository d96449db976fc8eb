-- All cuts of a chain on one page: the call's answer, and what each lent slice holds at the end. Definitions only.
use Rattle.std.specs.Prelude.{◌≡◌, List, ◌++◌, ℕ, ◌-◌, length, drop, replicate, Float}
use Rattle.answers.specs.Paper.{Answer, Reply, paper, and_then, if_done, if_worked, at_end}
use Rattle.complex.specs.Zeros.{zeros, zeroed}
use Rattle.finish.specs.Finish.{padded}
use Rattle.profile_walk.specs.Page.{Page, cuts_to, cuts_reply, WalkRoom}
use Rattle.profile_checks.specs.Checks.{page_header, page_values, page_marks, page_scratch, profile_tests}

-- the page of the n - 1 cuts
abbrev pub profile_of : List Float → ℕ → Page
profile_of s n = cuts_to s n (n - 1)

-- 1, 5, 6 and 7, and then 8 or 9 of the lowest j that is refused
unfoldable pub profile_reply : List Float → ℕ → ℕ → ℕ → ℕ → ℕ → ℕ → ℕ → ℕ → Reply
profile_reply s n cap header values largest ranks marks scratch =
    and_then (profile_tests s n cap header values largest ranks marks scratch) (cuts_reply s n (n - 1))

-- the m first counts are 0, and what lies past them is as it was
abbrev pub zeroed_counts : ℕ → List ℕ → List ℕ
zeroed_counts m old = replicate m 0 ++ drop m old

-- the answer, and what every lent slice holds at the end: the page on 0, zeros over the needed lengths on 8 and 9, else what was there;
-- past the last value +0.0 stands up to the needed length
pub record CutProfile (s : List Float) (n cap : ℕ) (header : List ℕ) (values largest : List Float) (ranks marks : List ℕ) (scratch : List Float) (r : Answer)
    (header' : List ℕ) (values' largest' : List Float) (ranks' marks' : List ℕ) (scratch' : List Float) : Type 0 where
  pub answer : paper r ≡ profile_reply s n cap (length header) (length values) (length largest) (length ranks) (length marks) (length scratch)
  pub header_is : header' ≡ at_end (paper r).0 ((profile_of s n).header ++ drop (page_header n) header) (zeroed_counts (page_header n) header) header
  pub values-is : values' ≡ at_end (paper r).0 (padded (page_values n) (profile_of s n).values values) (zeroed (page_values n) values) values
  pub largest-is : largest' ≡ at_end (paper r).0 ((profile_of s n).largest ++ drop (n - 1) largest) (zeroed (n - 1) largest) largest
  pub ranks-is : ranks' ≡ at_end (paper r).0 ((profile_of s n).ranks ++ drop (n - 1) ranks) (zeroed_counts (n - 1) ranks) ranks
  pub marks-is : marks' ≡ at_end (paper r).0 ((profile_of s n).marks ++ drop (page_marks n) marks) (zeroed_counts (page_marks n) marks) marks
  pub scratch-is : scratch' ≡ if_worked (paper r).0 (zeroed (page_scratch n) scratch) scratch

-- ---- the work of an accepted call, over slices of exactly the needed lengths

pub record WorkRoom (s : List Float) (n cap header values largest ranks marks scratch : ℕ) : Type 0 where
  pub room : WalkRoom s n cap header values largest ranks marks scratch
  pub header_is : header ≡ page_header n
  pub values-is : values ≡ page_values n
  pub largest-is : largest ≡ n - 1
  pub ranks-is : ranks ≡ n - 1
  pub marks-is : marks ≡ page_marks n
  pub scratch-is : scratch ≡ page_scratch n

pub record ProfileWorked (s : List Float) (n : ℕ) (r : Answer) (header : List ℕ) (values largest : List Float) (ranks marks : List ℕ) (scratch : List Float) : Type 0 where
  pub answer : paper r ≡ cuts_reply s n (n - 1)
  pub header_is : header ≡ if_done (paper r).0 (profile_of s n).header (replicate (page_header n) 0)
  pub values-is : values ≡ if_done (paper r).0 ((profile_of s n).values ++ zeros (page_values n - length (profile_of s n).values)) (zeros (page_values n))
  pub largest-is : largest ≡ if_done (paper r).0 (profile_of s n).largest (zeros (n - 1))
  pub ranks-is : ranks ≡ if_done (paper r).0 (profile_of s n).ranks (replicate (n - 1) 0)
  pub marks-is : marks ≡ if_done (paper r).0 (profile_of s n).marks (replicate (page_marks n) 0)
  pub scratch-is : scratch ≡ zeros (page_scratch n)
