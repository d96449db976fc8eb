-- What a call of the finish answers and leaves: one outcome for each input, refusals too. Definitions only.
use Rattle.std.specs.Prelude.{◌≡◌, false, List, ℕ, Float, length, Result}
use Rattle.answers.specs.declared.Refusal.{Refusal}
use Rattle.answers.specs.Paper.{paper, given, if_done, at_end}
use Rattle.complex.specs.Zeros.{zeroed}
use Rattle.finish.specs.declared.Finished.{Finished}
use Rattle.finish.specs.Finish.{scale_exact, kept_values, finish_sorted, sorted_reply, finish_of, finish_exact, finish_reply, padded, finish_answer}

-- of a refusal: no value, and the mark is no
abbrev pub no_finish : Finished
no_finish = record { count = 0; exact = false }

-- of values that are sorted, in place
pub record SortedOutcome (s : List Float) (r : Result Finished Refusal) (end : List Float) : Type 0 where
  pub answer : paper r ≡ sorted_reply s
  pub count : (given no_finish r).count ≡ if_done (sorted_reply s).0 (length (finish_sorted s)) 0
  pub values : end ≡ if_done (sorted_reply s).0 (padded (length s) (finish_sorted s) s) (zeroed (length s) s)
  pub exact-is : (given no_finish r).exact ≡ if_done (sorted_reply s).0 (scale_exact (kept_values s)) false

-- of values that need no check, with the mark of the scale
pub record MarkedOutcome (values old : List Float) (r : Result Finished Refusal) (end : List Float) : Type 0 where
  pub answer : paper r ≡ finish_reply values
  pub count : (given no_finish r).count ≡ if_done (finish_reply values).0 (length (finish_of values)) 0
  pub out : end ≡ if_done (finish_reply values).0 (padded (length values) (finish_of values) old) (zeroed (length values) old)
  pub exact-is : (given no_finish r).exact ≡ if_done (finish_reply values).0 (finish_exact values) false

-- of values that need no check
pub record FinishedOutcome (values old : List Float) (r : Result ℕ Refusal) (end : List Float) : Type 0 where
  pub answer : paper r ≡ finish_reply values
  pub count : given 0 r ≡ if_done (finish_reply values).0 (length (finish_of values)) 0
  pub out : end ≡ if_done (finish_reply values).0 (padded (length values) (finish_of values) old) (zeroed (length values) old)

-- of the entry point
pub record Outcome (values old : List Float) (r : Result ℕ Refusal) (end : List Float) : Type 0 where
  pub answer : paper r ≡ finish_answer values old
  pub count : given 0 r ≡ if_done (finish_answer values old).0 (length (finish_of values)) 0
  pub out : end ≡ at_end (finish_answer values old).0 (padded (length values) (finish_of values) old) (zeroed (length values) old) old
