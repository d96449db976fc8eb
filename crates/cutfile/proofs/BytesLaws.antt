-- Laws of the numbers and tests of a list of bytes. Assumes nothing.
use mathlib.Core.List.{List, [], ◌∷◌}
use Prim.Native.Nat.{ℕ, ◌+◌, ◌*◌}
use lib.ListN.{get_or}
use Rattle.cutfile.specs.Bytes.{word32}
use mathlib.Core.Path.{◌≡◌}
use native.Mathlib.Omega.{arith}

-- the number of a list of bytes
abbrev pub little : List ℕ → ℕ
little [] = 0
little (b ∷ s) = b + 256 * little s

-- the words are the numbers of their bytes
pub word32-little : (s : List ℕ) (at : ℕ) → word32 s at ≡ little (get_or s at 0 ∷ get_or s (at + 1) 0 ∷ get_or s (at + 2) 0 ∷ get_or s (at + 3) 0 ∷ [])
unfolding word32
word32-little s at = omega arith
