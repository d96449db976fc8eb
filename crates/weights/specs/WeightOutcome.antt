-- What the finish of n eigenvalues at the front of a list answers and leaves. Definitions only.
use Rattle.std.specs.Prelude.{◌≡◌, List, ℕ, Float, length, take, Result}
use Rattle.answers.specs.declared.Refusal.{Refusal}
use Rattle.answers.specs.Paper.{paper, given, if_done}
use Rattle.complex.specs.Zeros.{zeroed}
use Rattle.finish.specs.Finish.{padded}
use Rattle.weights.specs.Weights.{weights_finished, weights_reply}

pub record WeightOutcome (n : ℕ) (old : List Float) (r : Result ℕ Refusal) (end : List Float) : Type 0 where
  pub answer : paper r ≡ weights_reply (take n old)
  pub count : given 0 r ≡ if_done (weights_reply (take n old)).0 (length (weights_finished (take n old))) 0
  pub values : end ≡ if_done (weights_reply (take n old)).0 (padded n (weights_finished (take n old)) old) (zeroed n old)
