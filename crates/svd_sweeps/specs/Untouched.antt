-- A turn of two columns changes no other column, and so no decision on two others. Assumes nothing.
use Rattle.std.specs.Prelude.{List, ℕ, ◌*◌, Float}
use Rattle.svd_gram.specs.Gram.{gram_to}
use Rattle.svd_pair.specs.Decisions.{Decision, decision_of}

-- the decision on the columns p and q
unfoldable pub decision_at : ℕ → ℕ → ℕ → ℕ → List Float → Decision
decision_at m n p q work = decision_of (gram_to work (n * m) (p * m) (q * m) m)
