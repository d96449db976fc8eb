-- `inputs::read_full` meets its contract: a read puts what it consumed after what stands. Assumes nothing.
use Rattle.std.proofs.Common.{◌≡◌, ℕ, ◌+◌, ◌≤◌, List, ◌++◌, rules, length, take, drop, ap, ap₂, ◌∙◌, take_at, drop_at, length-take-le}
use Rattle.std.proofs.KnownBytes.{Consumes-trans}
use borrow.Rule.Slice.PartMut.{put_mid}
use lib.Seq.{take-add, take-append-le}
use Rattle.inputs.proofs.read_full.Goals as goal

taken : (a k n : ℕ) (xs ys : List ℕ) → a ≤ length xs → n ≤ length ys → take (a + n) (put_mid a k xs ys) ≡ take a xs ++ take n ys
taken a k n xs ys within fits =
    let front : length (take a xs) ≡ a = length-take-le a xs within in
    let rest = drop k (drop a xs) in
    take-add a n (put_mid a k xs ys) ∙ ap₂ (λ (s t : List ℕ). s ++ t) (take_at (take a xs) (ys ++ rest) a front) (ap (take n) (drop_at (take a xs) (ys ++ rest) a front) ∙ take-append-le n ys rest fits)

pub loop-done-preserved : goal.loop-done-preserved
loop-done-preserved g c =
    (search rules, rw (taken c.loop-done.done _ _ c.loop-done.buf _ c.loop-done.invariant.0 c.in-Ok.ensures.bound.0) (Consumes-trans _ _ _ _ _ c.loop-done.invariant.1 c.in-Ok.ensures.bytes.0))
