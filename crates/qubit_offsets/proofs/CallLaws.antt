-- The table of row offsets, and what a refusal that did not come says. Assumes nothing.
use mathlib.Core.Path.{◌≡◌, ◌∙◌}
use mathlib.Core.List.{List}
use Prim.Native.Nat.{ℕ, ◌*◌, ◌^◌, ◌≤◌, ◌<◌, min}
use native.Mathlib.Omega.{arith}
use borrow.Author.Tests.{ltb-false}
use lib.Dec.{ltb}
use lib.ListN.{length, drop, get_or, get_or-append, length-append, length-drop}
use Rattle.answers.specs.Paper.{done, refuse}
use Rattle.answers.proofs.PaperLaws.{refuse-done, and_then-done}
use Rattle.qubits.specs.Lists.{density_sizes, qubit_set, Listed}
use Rattle.qubits.proofs.NamedLaws.{is-listed}
use Rattle.tables.specs.Tables.{filled, table}
use Rattle.tables.proofs.TablesLaws.{length-table, table_at}
use Rattle.qubits.specs.Spread.{row_offset, row_offsets}
use Rattle.qubit_offsets.specs.Calls.{density_refusal, fronted}

-- ---- the table

-- as many as the listed qubits have settings
pub offsets_fronted : (l o : List ℕ) → filled (2 ^ length l) (row_offset l) o ≡ fronted (row_offsets l) o
unfolding filled
offsets_fronted l o = rw (length-table (2 ^ length l) (row_offset l))

-- what stands there
pub offset_at : (l o : List ℕ) (count k : ℕ) → k < count → get_or (filled count (row_offset l) o) k 0 ≡ row_offset l k
unfolding filled
offset_at l o count k h =
    get_or-append (table count (row_offset l)) (drop count o) 0 k (omega (arith, length-table count (row_offset l)))
    ∙ table_at 0 count k (row_offset l) h

pub length-fronted : (v o : List ℕ) → length v ≤ length o → length (fronted v o) ≡ length o
length-fronted v o h = rw (length-append v (drop (length v) o)) (omega (arith, length-drop (length v) o))

-- ---- what a refusal that did not come says

pub sizes-done : (n k cap : ℕ) → (density_sizes n k cap).0 ≡ 0 → (n ≤ 12) × (2 * k ≤ min cap 13)
sizes-done n k cap e =
    let a = refuse-done (ltb n 1) 0 0 (refuse (ltb 12 n) (1, 0) (refuse (ltb (min cap 13) (2 * k)) (1, 0) done)) e in
    let b = refuse-done (ltb 12 n) 0 0 (refuse (ltb (min cap 13) (2 * k)) (1, 0) done) a.1 in
    (ltb-false 12 n b.0, ltb-false (min cap 13) (2 * k) (refuse-done (ltb (min cap 13) (2 * k)) 0 0 done b.1).0)

pub density-listed : (n cap : ℕ) (l : List ℕ) → (density_refusal n cap l).0 ≡ 0 → Listed n l × (length l ≤ 6)
density-listed n cap l e =
    let a = and_then-done (density_sizes n (length l) cap) (qubit_set n l) e in
    (is-listed n l a.1, omega (arith, (sizes-done n (length l) cap a.0).1))
