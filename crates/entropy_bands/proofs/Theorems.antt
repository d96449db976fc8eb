-- What a reader may want to know of `entropy_band`. Assumes nothing.
use mathlib.Core.Path.{◌≡◌, refl, sym, ap, subst, ◌∙◌}
use mathlib.Core.List.{List, [], ◌++◌, append_assoc}
use Prim.Native.Nat.{ℕ, ◌+◌, ◌-◌, ◌*◌, ◌^◌, ◌≤◌, ◌<◌}
use native.Mathlib.Omega.{arith}
use lib.Ieee.{Float}
use lib.ListN.{length, get_or, drop, replicate, get_or-append}
use Rattle.std.proofs.Common.{Result}
use Rattle.answers.specs.declared.Refusal.{Refusal}
use Rattle.answers.specs.Paper.{paper, given, if_done, at_end}
use Rattle.answers.proofs.Theorems.{result-one}
use Rattle.answers.proofs.PaperLaws.{and_then-done}
use Rattle.cut_sides.specs.Sides.{cut_refusal}
use Rattle.cut_sides.proofs.SideLaws.{is-parted}
use Rattle.cut_values.specs.Schmidt.{cut_rows, singular_values}
use Rattle.cut_values.proofs.SchmidtLaws.{sides-few}
use Rattle.cut_values.proofs.Few.{few-left, few-singular}
use Rattle.cut_sides.specs.Sides.{sides_of}
use Rattle.entropy_powers.specs.Powers.{lo_of, hi_of}
use Rattle.entropy_sums.specs.Sums.{weights_left, whole_weight, low_sum, high_sum, weight_powers}
use Rattle.entropy_sums.proofs.Product.{cell-weight, cell-low, cell-high}
use Rattle.entropy_sums.proofs.Theorems.{weights-lower, weights-upper, weights-narrow, entropy-lower, entropy-upper}
use Rattle.entropy_bands.specs.declared.Entropy.{Entropy}
use Rattle.entropy_bands.specs.Bands.{entropy_rest, entropy_tests, entropy_reply, entropy_answer, cut_values, padded_cells, bands_left, no_entropy, EntropyBand}
use Rattle.entropy_bands.proofs.BandsLaws.{bands-length}

same-entropy : (x y : Entropy) → x.count ≡ y.count → x.low ≡ y.low → x.high ≡ y.high → x.whole ≡ y.whole → x.sweeps ≡ y.sweeps → x ≡ y
same-entropy x y c d f g h = rw (← c, ← d, ← f, ← g, ← h)

-- Only one outcome meets the contract of `entropy_band`: its answer, its count, its sums, its sweeps, and every cell of bands and scratch.
pub entropy-band-one : (s : List Float) (n : ℕ) (l : List ℕ) (cap : ℕ) (bands : List ℕ) (scratch : List Float) (r q : Result Entropy Refusal) (bands' bands'' : List ℕ)
    (scratch' scratch'' : List Float) → EntropyBand s n l cap bands scratch r bands' scratch' → EntropyBand s n l cap bands scratch q bands'' scratch''
    → (r ≡ q) × (bands' ≡ bands'') × (scratch' ≡ scratch'')
entropy-band-one s n l cap bands scratch r q bands' bands'' scratch' scratch'' x y =
    let e : paper r ≡ paper q = x.answer ∙ sym y.answer in
    let c : (given no_entropy r).count ≡ (given no_entropy q).count = x.count ∙ rw e (sym y.count) in
    let d : (given no_entropy r).low ≡ (given no_entropy q).low = x.low ∙ rw e (sym y.low) in
    let f : (given no_entropy r).high ≡ (given no_entropy q).high = x.high ∙ rw e (sym y.high) in
    let g : (given no_entropy r).whole ≡ (given no_entropy q).whole = x.whole ∙ rw e (sym y.whole) in
    let h : (given no_entropy r).sweeps ≡ (given no_entropy q).sweeps = x.sweeps-are ∙ rw e (sym y.sweeps-are) in
    let k : given no_entropy r ≡ given no_entropy q = same-entropy _ _ c d f g h in (
      result-one r q e (λ v w a b. sym (ap (given no_entropy) a) ∙ k ∙ ap (given no_entropy) b),
      x.bands-are ∙ rw e (sym y.bands-are),
      x.scratch-is ∙ rw e (sym y.scratch-is),
    )

module _ (s : List Float) (n : ℕ) (l : List ℕ) (cap : ℕ) (bands : List ℕ) (scratch : List Float) (r : Result Entropy Refusal) (bands' : List ℕ) (scratch' : List Float)
    (is : EntropyBand s n l cap bands scratch r bands' scratch') (ok : (paper r).0 ≡ 0) where
  values-few : length (cut_values s n l) ≤ 64
  unfolding entropy_answer entropy_tests
  values-few =
      let t = (and_then-done (entropy_tests s n l cap (length bands) (length scratch)) (entropy_reply (singular_values s n l)) (sym (ap (λ (y : ℕ × ℕ). y.0) is.answer) ∙ ok)).0 in
      let c = (and_then-done (cut_refusal l n cap) (entropy_rest s n (cut_rows n l) (length bands) (length scratch)) t).0 in
      omega (arith, few-left (singular_values s n l), few-singular s n l, sides-few n l (sides_of l n) (is-parted l n cap c) refl)

  count-is : (given no_entropy r).count ≡ length (weights_left (cut_values s n l))
  count-is = is.count ∙ ap (λ (x : ℕ). if_done x (length (weights_left (cut_values s n l))) 0) ok

  cells_are : bands' ≡ bands_left (cut_values s n l) ++ (replicate (3 * cut_rows n l - length (bands_left (cut_values s n l))) 0 ++ drop (3 * cut_rows n l) bands)
  unfolding padded_cells
  cells_are =
      is.bands-are
      ∙ ap (λ (x : ℕ). at_end x (padded_cells (3 * cut_rows n l) (bands_left (cut_values s n l)) bands) (padded_cells (3 * cut_rows n l) [] bands) bands) ok
      ∙ append_assoc (bands_left (cut_values s n l)) (replicate (3 * cut_rows n l - length (bands_left (cut_values s n l))) 0) (drop (3 * cut_rows n l) bands)

  cell : (k : ℕ) → k < length (bands_left (cut_values s n l)) → get_or bands' k 0 ≡ get_or (bands_left (cut_values s n l)) k 0
  cell k h =
      ap (λ (x : List ℕ). get_or x k 0) cells_are
      ∙ get_or-append (bands_left (cut_values s n l)) (replicate (3 * cut_rows n l - length (bands_left (cut_values s n l))) 0 ++ drop (3 * cut_rows n l) bands) 0 k h

  -- The third result of an accepted call is 4096 times the sum W of the weights left.
  pub entropy-whole : (given no_entropy r).whole ≡ 4096 * whole_weight (cut_values s n l)
  entropy-whole = is.whole ∙ ap (λ (x : ℕ). if_done x (4096 * whole_weight (cut_values s n l)) 0) ok

  module _ (i : ℕ) (h : i < (given no_entropy r).count) where
    inside : i < length (weights_left (cut_values s n l))
    inside = subst (λ (x : ℕ). i < x) count-is h

    long : length (bands_left (cut_values s n l)) ≡ 3 * length (weights_left (cut_values s n l))
    long = bands-length (whole_weight (cut_values s n l)) (weights_left (cut_values s n l))

    -- For each i below the count, cell 3i of bands is the weight i,
    pub entropy-weight : get_or bands' (3 * i + 0) 0 ≡ get_or (weights_left (cut_values s n l)) i 0
    entropy-weight = cell (3 * i + 0) (omega (arith, inside, long)) ∙ cell-weight (whole_weight (cut_values s n l)) (weights_left (cut_values s n l)) i inside

    -- and the next two are the ends of its band in W.
    pub entropy-ends : (get_or bands' (3 * i + 1) 0 ≡ lo_of (get_or (weights_left (cut_values s n l)) i 0) (whole_weight (cut_values s n l)))
        × (get_or bands' (3 * i + 2) 0 ≡ hi_of (get_or (weights_left (cut_values s n l)) i 0) (whole_weight (cut_values s n l)))
    entropy-ends = (
      cell (3 * i + 1) (omega (arith, inside, long)) ∙ cell-low (whole_weight (cut_values s n l)) (weights_left (cut_values s n l)) i inside,
      cell (3 * i + 2) (omega (arith, inside, long)) ∙ cell-high (whole_weight (cut_values s n l)) (weights_left (cut_values s n l)) i inside,
    )

    -- With w, lo and hi the cells 3i, 3i + 1 and 3i + 2: 2^lo * w^4096 is at most W^4096,
    pub entropy-low : 2 ^ get_or bands' (3 * i + 1) 0 * get_or bands' (3 * i + 0) 0 ^ 4096 ≤ whole_weight (cut_values s n l) ^ 4096
    entropy-low = rw (entropy-weight, entropy-ends.0) (weights-lower (cut_values s n l) values-few i inside)

    -- W^4096 is at most 2^hi * w^4096,
    pub entropy-high : whole_weight (cut_values s n l) ^ 4096 ≤ 2 ^ get_or bands' (3 * i + 2) 0 * get_or bands' (3 * i + 0) 0 ^ 4096
    entropy-high = rw (entropy-weight, entropy-ends.1) (weights-upper (cut_values s n l) values-few i inside)

    -- and hi is at most lo + 2.
    pub entropy-narrow : get_or bands' (3 * i + 2) 0 ≤ get_or bands' (3 * i + 1) 0 + 2
    entropy-narrow = rw (entropy-ends.0, entropy-ends.1) (weights-narrow (cut_values s n l) values-few i inside)

  -- The sums: 2^low times the product of w^(4096w) over the weights left is at most W^whole,
  pub entropy-sum-low : 2 ^ (given no_entropy r).low * weight_powers (weights_left (cut_values s n l)) ≤ whole_weight (cut_values s n l) ^ (given no_entropy r).whole
  entropy-sum-low =
      let e : (given no_entropy r).low ≡ low_sum (whole_weight (cut_values s n l)) (weights_left (cut_values s n l)) = is.low ∙ ap (λ (x : ℕ). if_done x (low_sum (whole_weight (cut_values s n l)) (weights_left (cut_values s n l))) 0) ok in
      rw (e, entropy-whole) (entropy-lower (cut_values s n l) values-few)

  -- and 2^high times it at least: the entropy of the weights left, in bits, lies from low / whole to high / whole.
  pub entropy-sum-high : whole_weight (cut_values s n l) ^ (given no_entropy r).whole ≤ 2 ^ (given no_entropy r).high * weight_powers (weights_left (cut_values s n l))
  entropy-sum-high =
      let e : (given no_entropy r).high ≡ high_sum (whole_weight (cut_values s n l)) (weights_left (cut_values s n l)) = is.high ∙ ap (λ (x : ℕ). if_done x (high_sum (whole_weight (cut_values s n l)) (weights_left (cut_values s n l))) 0) ok in
      rw (e, entropy-whole) (entropy-upper (cut_values s n l) values-few)
