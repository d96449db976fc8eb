-- The refusals of a change, test by test, for a plan that some list makes. Definitions only.
use Rattle.std.specs.Prelude.{not, ℕ, ◌+◌, eqb, leb}
use Rattle.answers.specs.Paper.{Reply, done, refuse}
use Rattle.qubits.specs.Lists.{stands}
use Rattle.plans.specs.declared.Plan.{Plan}
use Rattle.plans.specs.Plans.{list_of}

-- adding q: 2 where it is not the register's and 3 where it is listed, both at the list's end; then 5 where it would be the last
abbrev pub add_row : ℕ → Plan → Reply
add_row q p = refuse (leb p.n q) (2, p.k) (refuse (stands q (list_of p)) (3, p.k) (refuse (eqb (p.k + 1) p.n) (5, 0) done))

-- dropping q: 12 where it is not listed, then 4 where it is the only one
abbrev pub drop_row : ℕ → Plan → Reply
drop_row q p = refuse (not (stands q (list_of p))) (12, 0) (refuse (eqb p.k 1) (4, 0) done)
