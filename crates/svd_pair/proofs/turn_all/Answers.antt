use mathlib.Core.Path.{refl, sym}
use mathlib.Core.Bool.{not}
use lib.Dec.{eqb}
use Prim.Native.Nat.{ℕ, ◌+◌, ◌-◌}
use native.Mathlib.Omega.{arith}
use Rattle.complex.proofs.Loops.{stop}
use Rattle.svd_pair.specs.Turns.{turn_rows}
use Rattle.svd_pair.specs.Plain.{making}
use Rattle.svd_pair.proofs.TurnsLaws.{turn_rows-none, turn_rows-more, turn_rows-two}
use borrow.Author.Rules.{rules}
use Rattle.svd_pair.proofs.turn_all.Goals as goal

pub loop-r-init : goal.loop-r-init
loop-r-init g c = (search rules, refl, sym (turn_rows-none _ _ _ _ _ _))

pub loop-r-preserved : goal.loop-r-preserved
loop-r-preserved g c =
    (search rules, search rules, rw (c.turn_two.ensures, c.loop-r.invariant.2, turn_rows-two))

pub returns-then-r-m : goal.returns-then-r-m
returns-then-r-m g c =
    let a = c.args in
    stop (λ (k : ℕ). turn_rows (making (not (eqb g.row.PLAIN 0))) a.f a.c a.a a.b k a.xs.now) {k = c.loop-r.r + 1} (rw (c.turn_row.ensures, c.loop-r.invariant.2, turn_rows-more)) (search rules) (search rules)

pub returns-else-r-m : goal.returns-else-r-m
returns-else-r-m g c =
    let a = c.args in
    stop (λ (k : ℕ). turn_rows (making (not (eqb g.row.PLAIN 0))) a.f a.c a.a a.b k a.xs.now) c.loop-r.invariant.2 (search rules) (search rules)
