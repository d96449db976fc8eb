use mathlib.Core.Path.{◌≡◌, refl, sym, ap, ◌∙◌}
use native.Mathlib.Omega.{arith}
use Prim.Native.Nat.{◌+◌, ◌≤◌, ◌<◌}
use lib.ListN.{length, take, get_or}
use lib.Ieee.{nan}
use lib.Seq.{length-take-le, take_all}
use Rattle.values.specs.Sort.{sort_to}
use Rattle.values.proofs.SortLaws.{sort-none, sort-more, seat-le}
use borrow.Author.Rules.{rules}
use Rattle.values.proofs.sort_down.Goals as goal

pub loop-k-init : goal.loop-k-init
loop-k-init c = (refl, search rules, search rules, sort-none _)

pub slice_bounds-seat-end-in-loop-k : goal.slice_bounds-seat-end-in-loop-k
slice_bounds-seat-end-in-loop-k c =
    let first : length (take c.loop-k.k c.loop-k.sorted) ≡ c.loop-k.k = length-take-le _ _ (omega arith) in
    sym (first)

pub slice_bounds-insert_at-end-in-loop-k : goal.slice_bounds-insert_at-end-in-loop-k
slice_bounds-insert_at-end-in-loop-k c =
    let more : length (take (c.loop-k.k + 1) c.loop-k.sorted) ≡ c.loop-k.k + 1 = length-take-le _ _ (omega arith) in
    sym (more)

pub insert_at-requires : goal.insert_at-requires
insert_at-requires c =
    let first : length (take c.loop-k.k c.loop-k.sorted) ≡ c.loop-k.k = length-take-le _ _ (omega arith) in
    let more : length (take (c.loop-k.k + 1) c.loop-k.sorted) ≡ c.loop-k.k + 1 = length-take-le _ _ (omega arith) in
    let here = c.before.before.before.before in omega (arith, c.seat-at.ensures, seat-le (get_or c.args.values.now c.loop-k.k nan) (take c.loop-k.k c.loop-k.sorted), first, more)

pub loop-k-preserved : goal.loop-k-preserved
loop-k-preserved c =
    let more : length (take (c.loop-k.k + 1) c.loop-k.sorted) ≡ c.loop-k.k + 1 = length-take-le _ _ (omega arith) in
    let here = c.before.before.before.before.before.before.before in let l = c.loop-k in let h : l.k < length l.sorted = omega arith in let e : length c.insert_at.new.l ≡ l.k + 1 = c.insert_at.auto.l ∙ more in (refl, search rules, search rules, sort-more _ l.sorted _ l.k _ h e l.invariant.3 c.seat-at.ensures c.insert_at.ensures)

pub returns : goal.returns
returns c = let l = c.loop-k in let h : length l.sorted ≤ l.k = omega arith in let e : l.k ≡ length c.args.values.now = omega arith in sym (take_all l.k l.sorted h) ∙ l.invariant.3 ∙ ap (sort_to _) e
