-- Complex numbers whose parts are whole numbers with a sign. Definitions only.
use Rattle.std.specs.Prelude.{Bool, ◌&&◌, ℕ, ◌+◌, ◌*◌, leb}
use Rattle.countersign_sums.specs.declared.Whole.{Whole}
use Rattle.countersign_sums.specs.declared.Gaussian.{Gaussian}
use Rattle.countersign_sums.specs.Wholes.{whole_of, plus_of, times_of, opposite_of, apart, weight}

abbrev pub gaussian_of : Whole → Whole → Gaussian
gaussian_of a b = record { re = a; im = b }

abbrev pub zero_of : Gaussian
zero_of = gaussian_of (whole_of 0 0) (whole_of 0 0)

unfoldable pub sum_of : Gaussian → Gaussian → Gaussian
sum_of a b = gaussian_of (plus_of a.re b.re) (plus_of a.im b.im)

unfoldable pub difference_of : Gaussian → Gaussian → Gaussian
difference_of a b = gaussian_of (plus_of a.re (opposite_of b.re)) (plus_of a.im (opposite_of b.im))

-- re: a.re*b.re - a.im*b.im, im: a.re*b.im + a.im*b.re
unfoldable pub product_of : Gaussian → Gaussian → Gaussian
product_of a b =
    gaussian_of (plus_of (times_of a.re b.re) (opposite_of (times_of a.im b.im))) (plus_of (times_of a.re b.im) (times_of a.im b.re))

-- by a whole number: each part
unfoldable pub by_whole : Gaussian → Whole → Gaussian
by_whole a w = gaussian_of (times_of a.re w) (times_of a.im w)

unfoldable pub conjugate_of : Gaussian → Gaussian
conjugate_of a = gaussian_of a.re (opposite_of a.im)

-- each part is within t of 0
unfoldable pub both_within : Gaussian → ℕ → Bool
both_within a t = leb (apart a.re) t && leb (apart a.im) t

-- each part, times k, is within t of 0
unfoldable pub times_within : Gaussian → ℕ → ℕ → Bool
times_within a k t = leb (apart a.re * k) t && leb (apart a.im * k) t

-- what bounds all four of its numbers, and those of sums and products
unfoldable pub heft : Gaussian → ℕ
heft a = weight a.re + weight a.im
