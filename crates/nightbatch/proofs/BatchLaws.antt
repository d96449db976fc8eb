-- What the program's proofs share. Assumes nothing.
use mathlib.Core.Path.{◌≡◌, refl, sym}
use mathlib.Core.List.{List, [], ◌++◌}
use Prim.Native.Nat.{ℕ, ◌≤◌}
use native.Mathlib.Omega.{arith}
use lib.ListN.{length, length-append}
use lib.Seq.{length-take-le}
use Rattle.io.specs.Counts.{IsPrefixLen}
use Rattle.lot_tallies.specs.declared.Sheet.{Sheet}
use Rattle.lot_tallies.specs.Tallies.{Tallied, sheet_of}
use Rattle.lot_tallies.proofs.SheetLaws.{fair-none}

-- what counts bytes of a part counts them of the whole that it is the front of
pub front-counts : (r : ℕ) (p rest : List ℕ) → IsPrefixLen r p → IsPrefixLen r (p ++ rest)
front-counts r p rest h =
    let k : r ≤ length (p ++ rest) = omega (arith, length-append p rest, h.0) in
    (k, sym (length-take-le r (p ++ rest) k))

pub tallied-none : (s : Sheet) → s ≡ sheet_of [] → Tallied s 0
tallied-none s e = record { results = []; count = refl; fair = fair-none; sheet-is = e }
