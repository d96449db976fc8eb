-- The first m numbers of a list copied to the m behind them. Definitions only.
use Rattle.std.specs.Prelude.{◌≡◌, List, ℕ, Float, length, take, drop}

-- the first m numbers stand there still, and again in the m behind them
pub record CopiedBehind (m : ℕ) (old new : List Float) : Type 0 where
  pub size : length new ≡ length old
  pub front : take m new ≡ take m old
  pub behind : take m (drop m new) ≡ take m old
