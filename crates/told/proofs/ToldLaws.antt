-- Laws of what `specs/Told.antt` defines. Assumes nothing.
use Prim.Native.Nat.{◌≤◌}
use native.Mathlib.Omega.{arith}
use Rattle.std.specs.Prelude.{Result, Ok, Err}
use Rattle.answers.specs.declared.Refusal.{Refusal}
use Rattle.answers.specs.declared.Refusal.TheVariants.{Size, OutOfRange, Twice, Empty, Whole, Length, Component, NoWeight, NotFinite, Malformed, OffGrid, NotListed, SiteNumber, NoRun, Full, BrokenLot}
use Rattle.answers.specs.Paper.{paper, table}

-- the table's numbers are small
pub table-small : (e : Refusal) → (table e).0 ≤ 16
table-small Size = omega arith
table-small (OutOfRange p) = omega arith
table-small (Twice p) = omega arith
table-small Empty = omega arith
table-small Whole = omega arith
table-small (Length p) = omega arith
table-small (Component p) = omega arith
table-small NoWeight = omega arith
table-small NotFinite = omega arith
table-small Malformed = omega arith
table-small (OffGrid p) = omega arith
table-small NotListed = omega arith
table-small SiteNumber = omega arith
table-small NoRun = omega arith
table-small Full = omega arith
table-small BrokenLot = omega arith

pub paper-small : {A : Type 0} (a : Result A Refusal) → (paper a).0 ≤ 16
paper-small (Ok x) = omega arith
paper-small (Err e) = table-small e
