-- Two tables of entries held against each other a block at a time, two rows by two columns, up to the diagonal. Assumes nothing.
use Rattle.std.specs.Prelude.{Bool, true, ◌&&◌, ℕ, zero, suc, ◌+◌, ◌*◌, eqb}
use Rattle.std.specs.Float.{binary64}
use Rattle.std.specs.Float.Ieee.{to_bits}
use Rattle.complex.specs.declared.Complex.{Complex}
use Rattle.density_entries.specs.declared.Block.{Block}
use Rattle.density_entries.specs.Blocks.{block_of}

-- the same bits in both parts
unfoldable pub same_cell : Complex → Complex → Bool
same_cell z w = eqb (to_bits binary64 z.re) (to_bits binary64 w.re) && eqb (to_bits binary64 z.im) (to_bits binary64 w.im)

-- the same bits in all four entries
unfoldable pub same_block : Block → Block → Bool
same_block a b =
    (same_cell a.first b.first && same_cell a.second b.second) && (same_cell a.third b.third && same_cell a.fourth b.fourth)

-- the block of the rows 2t and 2t + 1 and the columns 2u and 2u + 1
abbrev pub block_at : (ℕ → ℕ → Complex) → ℕ → ℕ → Block
block_at f t u = block_of (f (2 * t) (2 * u)) (f (2 * t) (2 * u + 1)) (f (2 * t + 1) (2 * u)) (f (2 * t + 1) (2 * u + 1))

-- the first u blocks of the rows 2t and 2t + 1
unfoldable pub same_row : (ℕ → ℕ → Complex) → (ℕ → ℕ → Complex) → ℕ → ℕ → Bool
same_row f g t zero = true
same_row f g t (suc u) = same_row f g t u && same_block (block_at f t u) (block_at g t u)

-- the first 2t rows, up to the diagonal
unfoldable pub same_rows : (ℕ → ℕ → Complex) → (ℕ → ℕ → Complex) → ℕ → Bool
same_rows f g zero = true
same_rows f g (suc t) = same_rows f g t && same_row f g t (t + 1)
