-- Laws of the ranks, and that whole numbers below 2^64 hold every rank of a call that is done. Assumes nothing.
use mathlib.Core.Path.{◌≡◌, refl, ap, ◌∙◌}
use mathlib.Core.Bool.{Bool, true, false, cond}
use mathlib.Core.List.{List, [], ◌∷◌}
use Prim.Native.Nat.{ℕ, zero, suc, ◌+◌, ◌-◌, ◌*◌, ◌^◌, ◌≤◌, ◌<◌, min, max}
use native.Mathlib.Nat.{min-le_left, mul-le-mul, max-le, le_trans}
use native.Mathlib.Omega.{arith}
use borrow.Author.Tests.{ltb-false}
use lib.Dec.{ltb}
use lib.Ieee as Ieee
use lib.Ieee.{Float, binary64, of_bits}
use lib.ListN.{length}
use lib.Pow.{pow_mono}
use Rattle.std.proofs.lemmas.List.Folds.{length-prefix_len}
use Rattle.std.specs.List.{prefix_len, slice_get, take_while}
use Rattle.std.specs.Option.{unwrap_or}
use Rattle.answers.specs.Paper.{done, refuse}
use Rattle.answers.proofs.PaperLaws.{refuse-done}
use Rattle.site_ranks.specs.Ranks.{first_or_zero, above_count, rank_of, cut_rank_of, widest_sizes, cut_after, widest_to, widest_of}

-- ---- what a threshold keeps

first-is : (l : List Float) → unwrap_or (slice_get l 0) (of_bits binary64 0) ≡ first_or_zero l
unfolding first_or_zero
first-is [] = refl
first-is (x ∷ l) = refl

prefix-is : (t : Float) (l : List Float) → prefix_len (λ x. Ieee.lt t x) l ≡ above_count t l
unfolding above_count
prefix-is t [] = refl
prefix-is t (x ∷ l) = by_test (Ieee.lt t x) (prefix-is t l)
  where
    by_test : (b : Bool) {n m : ℕ} → n ≡ m → cond b (1 + n) 0 ≡ cond b (suc m) 0
    by_test true h = omega (arith, h)
    by_test false h = refl

above-is : (t : Float) (l : List Float) → length (take_while (λ x. Ieee.lt t x) l) ≡ above_count t l
above-is t l = length-prefix_len (λ x. Ieee.lt t x) l ∙ prefix-is t l

pub rank-made : (values : List Float) (epsilon : Float) (cap : ℕ) {first : Float} {n : ℕ} → first ≡ unwrap_or (slice_get values 0) (of_bits binary64 0)
    → n ≡ length (take_while (λ x. Ieee.lt (Ieee.mul binary64 epsilon first) x) values) → min (max n 1) cap ≡ rank_of values epsilon cap
unfolding rank_of
rank-made values epsilon cap {first} e f =
    ap (λ (m : ℕ). min (max m 1) cap)
    (f ∙ above-is (Ieee.mul binary64 epsilon first) values ∙ ap (λ (x : Float). above_count (Ieee.mul binary64 epsilon x) values) (e ∙ first-is values))

-- ---- what the bonds allow: 64 bits hold every rank of a call that is done, since no rank is above 2^28

pub cut_small : (left mid right : ℕ) → left ≤ 4096 → cut_rank_of left mid right < 2 ^ 64
unfolding cut_rank_of
cut_small left mid right h = omega (arith, min-le_left (2 * min left right) (4 * mid), min-le_left left right)

-- a side of a cut
side-fits : {b : ℕ} (e : ℕ) → b ≤ 4096 → e ≤ 16 → b * 2 ^ e ≤ 4096 * 65536
side-fits e h g = mul-le-mul {m₂ = 65536} h (pow_mono {i = e} {j = 16} g)

to-small : (left right n k : ℕ) → left ≤ 4096 → right ≤ 4096 → n ≤ 16 → k ≤ n - 1 → widest_to left right n k ≤ 4096 * 65536
unfolding widest_to cut_after
to-small left right n zero h g m l = omega arith
to-small left right n (suc k) h g m l =
    max-le (to-small left right n k h g m (omega arith))
    (le_trans (min-le_left (left * 2 ^ (k + 1)) (right * 2 ^ (n - 1 - k))) (side-fits (k + 1) h (omega arith)))

widest-done : (left right n : ℕ) → (widest_sizes left right n).0 ≡ 0 → (left ≤ 4096) × (right ≤ 4096) × (1 ≤ n) × (n ≤ 16)
unfolding widest_sizes
widest-done left right n e =
    let b₁ = refuse (ltb 16 n) (1, 0) done in
    let b₂ = refuse (ltb n 1) (1, 0) b₁ in
    let x = refuse-done (ltb 4096 left) 0 0 (refuse (ltb 4096 right) (1, 0) b₂) e in
    let y = refuse-done (ltb 4096 right) 0 0 b₂ x.1 in
    let z = refuse-done (ltb n 1) 0 0 b₁ y.1 in
    let w = refuse-done (ltb 16 n) 0 0 done z.1 in
    (ltb-false 4096 left x.0, ltb-false 4096 right y.0, ltb-false n 1 z.0, ltb-false 16 n w.0)

pub widest-small : (left right n : ℕ) → (widest_sizes left right n).0 ≡ 0 → widest_of left right n < 2 ^ 64
unfolding widest_of
widest-small left right n e =
    let s = widest-done left right n e in
    omega (arith, to-small left right n (n - 1) s.0 s.1 s.3 (omega arith))
