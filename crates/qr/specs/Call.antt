-- A call of `factorize_gram_schmidt`: its answer, its rank and what each lent slice holds at the end, refusals too. Assumes nothing.
use Rattle.std.specs.Prelude.{◌≡◌, Result, not, ◌&&◌, List, ◌++◌, ℕ, ◌*◌, min, Float, length, drop}
use Rattle.answers.specs.declared.Refusal.{Refusal}
use Rattle.answers.specs.Paper.{Reply, paper, given, done, refuse, and_then, if_done, if_worked, at_end, exactly, room}
use Rattle.matrix_sizes.specs.Sizes.{matrix_sizes}
use Rattle.values.specs.Lists.{all_finite}
use Rattle.complex.specs.Cells.{components}
use Rattle.complex.specs.Zeros.{zeros, zeroed}
use Rattle.qr_passes.specs.GramSchmidt.{Factors, qr_factors}

-- how many numbers q, r and the scratch need
abbrev pub q_need : ℕ → ℕ → ℕ
q_need rows cols = 2 * (min rows cols * rows)

abbrev pub r_need : ℕ → ℕ → ℕ
r_need rows cols = 2 * (min rows cols * cols)

abbrev pub scratch_need : ℕ → ℕ
scratch_need rows = 2 * rows

-- 6: the matrix is exact, the others are long enough
unfoldable pub qr_lengths : ℕ → ℕ → ℕ → ℕ → ℕ → ℕ → Reply
qr_lengths rows cols a q r scratch =
    and_then (exactly 0 a (2 * (rows * cols)))
    (and_then (room 1 q (q_need rows cols)) (and_then (room 2 r (r_need rows cols)) (room 3 scratch (scratch_need rows))))

-- 1, 6 and 7
unfoldable pub qr_refusal : List Float → ℕ → ℕ → ℕ → ℕ → ℕ → Reply
unfolding qr_lengths
qr_refusal a rows cols q r scratch = and_then (matrix_sizes rows cols) (and_then (qr_lengths rows cols (length a) q r scratch) (components 0 a))

-- 9: a number of q or r is not finite
unfoldable pub qr_end : Factors → Reply
qr_end f = refuse (not (all_finite f.q && all_finite f.r)) (9, 0) done

unfoldable pub qr_answer : List Float → ℕ → ℕ → ℕ → ℕ → ℕ → Reply
unfolding qr_refusal qr_end
qr_answer a rows cols q r scratch = and_then (qr_refusal a rows cols q r scratch) (qr_end (qr_factors a rows cols))

-- the factors on slices of the needed lengths, or zeros
pub record QrFinished (f : Factors) (x : Result ℕ Refusal) (q r : List Float) : Type 0 where
  pub answer-is : paper x ≡ qr_end f
  pub rank_is : given 0 x ≡ if_done (qr_end f).0 f.rank 0
  pub q-is : q ≡ if_done (qr_end f).0 f.q (zeros (length f.q))
  pub r-is : r ≡ if_done (qr_end f).0 f.r (zeros (length f.r))

-- the call: q, r and the scratch as they were lent, and then as they are at the end
pub record Factorized (a : List Float) (rows cols : ℕ) (q r scratch : List Float) (x : Result ℕ Refusal) (q' r' scratch' : List Float) : Type 0 where
  pub answer-is : paper x ≡ qr_answer a rows cols (length q) (length r) (length scratch)
  pub rank_is : given 0 x ≡ if_done (paper x).0 (qr_factors a rows cols).rank 0
  pub q-is : q' ≡ at_end (paper x).0 ((qr_factors a rows cols).q ++ drop (q_need rows cols) q) (zeroed (q_need rows cols) q) q
  pub r-is : r' ≡ at_end (paper x).0 ((qr_factors a rows cols).r ++ drop (r_need rows cols) r) (zeroed (r_need rows cols) r) r
  pub scratch-is : scratch' ≡ if_worked (paper x).0 (zeroed (scratch_need rows) scratch) scratch
