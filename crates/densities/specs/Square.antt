-- The answer that refuses a square matrix, and what a call that works on its own input leaves. Assumes nothing.
use Rattle.std.specs.Prelude.{◌≡◌, not, List, ℕ, ◌*◌, ltb, eqb, Float, length}
use Rattle.answers.specs.Paper.{Answer, Reply, paper, refuse, if_done}
use Rattle.complex.specs.Cells.{components}

-- 1: the side; 6: a cell for each row and column, and no more; 7
abbrev pub square_answer : List Float → ℕ → Reply
square_answer s dim =
    refuse (ltb dim 1) (1, 0)
    (refuse (ltb 64 dim) (1, 0)
    (refuse (not (eqb (length s) (2 * (dim * dim)))) (6, 0) (components 0 s)))

-- a call that works on its own input: the answer r is a's, and the matrix at the end is `new` on answer 0 and `old` on any other
pub record InPlace (a : Reply) (new old : List Float) (r : Answer) (end : List Float) : Type 0 where
  pub answer : paper r ≡ a
  pub matrix : end ≡ if_done a.0 new old
