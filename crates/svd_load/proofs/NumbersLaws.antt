-- Laws of lists of numbers that planes are made of. Assumes nothing.
use mathlib.Core.Path.{◌≡◌, ap}
use mathlib.Core.List.{List, [], ◌∷◌, ◌++◌}
use Prim.Native.Nat.{ℕ, ◌+◌}
use native.Mathlib.Nat.{suc-add, zero-add}
use lib.ListN.{length, set}
pub use Rattle.tables.proofs.TablesLaws.{length-table as length-numbers}

-- a number set in the second of two lists
pub set-second : {A : Type 0} (p q : List A) (n i : ℕ) (x : A) → length p ≡ n → set (p ++ q) (n + i) x ≡ p ++ set q i x
set-second {A} p q n i x e = rw (← e) (go p)
  where
    go : (p : List A) → set (p ++ q) (length p + i) x ≡ p ++ set q i x
    go [] = rw zero-add
    go (y ∷ p) = rw suc-add (ap {B = List A} (λ r. y ∷ r) (go p))
