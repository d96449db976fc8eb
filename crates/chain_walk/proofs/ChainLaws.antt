-- Bounds of the chain by induction on its steps: the bond, the cells of the sites, the lengths of the lists. Assumes nothing.
use mathlib.Core.Path.{◌≡◌, refl, ap, ◌∙◌}
use mathlib.Core.Bool.{Bool, true, false}
use mathlib.Core.List.{List, [], ◌∷◌}
use Prim.Native.Nat.{ℕ, zero, suc, ◌+◌, ◌-◌, ◌*◌, ◌^◌, ◌≤◌, ◌<◌, min}
use native.Mathlib.Nat.{mul-le-mul, le-min, le_trans, pow-suc}
use native.Mathlib.Omega.{arith}
use lib.ListN.{length, length-append}
use lib.Pow.{pow_pos}
use lib.Ieee.{Float}
use Rattle.complex.proofs.CellLaws.{length-cells}
use Rattle.svd_load.proofs.NumbersLaws.{length-numbers}
use Rattle.svd_columns.specs.Columns.{sorted_of}
use Rattle.svd_thin.specs.Thin.{values_of}
use Rattle.site_ranks.specs.Ranks.{rank_of, discards_of}
use Rattle.svd.specs.Svd.{side_of, s_of, svd_sweeps}
use Rattle.svd.proofs.SvdLaws.{side-low}
use Rattle.chain_step.specs.Step.{step_site}
use Rattle.chain_step.proofs.StepLaws.{rank-fits, rank_most, side-some}
use Rattle.cut_marks.specs.Marks.{one_if, cut_marks}
use Rattle.chain_walk.specs.Chain.{Links, next_matrix, next_rank, linked, links_to, most_of, room_to}

-- ---- the values of a step and its rank

pub length-s_of : (a : List Float) (m n : ℕ) → length (s_of a m n) ≡ side_of m n
unfolding s_of values_of sorted_of
length-s_of a m n = length-numbers (side_of m n) _

pub length-site : (a : List Float) (rows columns chi : ℕ) → length (step_site a rows columns chi) ≡ 2 * (rows * chi)
unfolding step_site
length-site a rows columns chi = length-cells (rows * chi) _

pub rank-some : (values : List Float) (epsilon : Float) (cap : ℕ) → 1 ≤ cap → 1 ≤ rank_of values epsilon cap
unfolding rank_of
rank-some values epsilon cap h = omega arith

pub rank-in : (a : List Float) (rows columns : ℕ) (epsilon : Float) (limit : ℕ) → 1 ≤ rows → 1 ≤ columns
    → rank_of (s_of a rows columns) epsilon limit ≤ min (side_of rows columns) limit
rank-in a rows columns epsilon limit p q =
    let l = length-s_of a rows columns in
    let s : 1 ≤ length (s_of a rows columns) = omega (arith, l, side-some rows columns p q) in
    let h : rank_of (s_of a rows columns) epsilon limit ≤ side_of rows columns = omega (arith, rank-fits (s_of a rows columns) epsilon limit s, l) in
    le-min h (rank_most (s_of a rows columns) epsilon limit)

-- ---- the room

-- the widest that the bond after step j can be
pub most-next : (n limit j bond : ℕ) → suc j < n → bond ≤ most_of n limit j → min (side_of (2 * bond) (2 ^ (n - 1 - j))) limit ≤ most_of n limit (suc j)
unfolding most_of
most-next n limit j bond h b =
    let l = side-low (2 * bond) (2 ^ (n - 1 - j)) in
    let k = side_of (2 * bond) (2 ^ (n - 1 - j)) in
    let s : 2 ^ suc j ≡ 2 ^ j * 2 = pow-suc 2 j in
    let e : n - 1 - j ≡ n - suc j = omega arith in
    let f : 2 ^ (n - 1 - j) ≡ 2 ^ (n - suc j) = ap (λ (x : ℕ). 2 ^ x) e in
    let c : bond ≤ 2 ^ j = omega (arith, b) in
    let p : k ≤ 2 ^ suc j = omega (arith, l.0) in
    let q : k ≤ 2 ^ (n - suc j) = omega (arith, l.1) in
    omega arith

pub room_next : (n limit j : ℕ) → room_to n limit (suc j) ≡ room_to n limit j + 2 * most_of n limit j * most_of n limit (suc j)
unfolding room_to
room_next n limit j = refl

pub room-rises : (n limit j d : ℕ) → room_to n limit j ≤ room_to n limit (d + j)
room-rises n limit j zero = let e : 0 + j ≡ j = omega arith in rw e (omega arith)
room-rises n limit j (suc d) =
    let e : suc d + j ≡ suc (d + j) = omega arith in
    rw e (omega (arith, room-rises n limit j d, room_next n limit (d + j)))

pub room_within : (n limit j : ℕ) → j ≤ n → room_to n limit j ≤ room_to n limit n
room_within n limit j h =
    let e : n - j + j ≡ n = omega arith in
    le_trans (room-rises n limit j (n - j)) (rw e (omega arith))

-- ---- the bounds

pub record Bounds (n limit j : ℕ) (l : Links) : Type 0 where
  pub bond-some : 1 ≤ l.bond
  pub bond-few : l.bond ≤ most_of n limit j
  pub at-few : l.at ≤ room_to n limit j
  pub sites_long : length l.sites ≡ 2 * l.at
  pub ranks-long : length l.ranks ≡ j
  pub ends-long : length l.ends ≡ j
  pub marks-long : length l.marks ≡ 3 * j
  pub dropped-few : l.dropped ≤ j

pub one-few : (b : Bool) → one_if b ≤ 1
one-few true = omega arith
one-few false = omega arith

next : (n limit j : ℕ) (l : Links) (epsilon : Float) → suc j < n → 1 ≤ limit → Bounds n limit j l
    → Bounds n limit (suc j) (linked l (2 ^ (n - 1 - j)) epsilon limit)
next n limit j l epsilon h some b =
    let columns = 2 ^ (n - 1 - j) in
    let rows = 2 * l.bond in
    let a = next_matrix l columns in
    let chi = next_rank l columns epsilon limit in
    let p : 1 ≤ rows = omega (arith, b.bond-some) in
    let in_step : chi ≤ min (side_of rows columns) limit = rank-in a rows columns epsilon limit p (pow_pos (n - 1 - j)) in
    let few : chi ≤ most_of n limit (suc j) = le_trans in_step (most-next n limit j l.bond h b.bond-few) in
    let wide : rows ≤ 2 * most_of n limit j = omega (arith, b.bond-few) in
    let m : rows * chi ≤ 2 * most_of n limit j * most_of n limit (suc j) = mul-le-mul wide few in
    record {
      bond-some = rank-some (s_of a rows columns) epsilon limit some;
      bond-few = few;
      at-few = omega (arith, b.at-few, room_next n limit j);
      sites_long = length-append l.sites (step_site a rows columns chi) ∙ omega (arith, b.sites_long, length-site a rows columns chi);
      ranks-long = length-append l.ranks (chi ∷ []) ∙ omega (arith, b.ranks-long);
      ends-long = length-append l.ends ((l.at + rows * chi) ∷ []) ∙ omega (arith, b.ends-long);
      marks-long = length-append l.marks (cut_marks (svd_sweeps a rows columns)) ∙ omega (arith, b.marks-long);
      dropped-few = omega (arith, b.dropped-few, one-few (discards_of (s_of a rows columns) chi));
    }

pub bounds : (first : List Float) (n : ℕ) (epsilon : Float) (limit j : ℕ) → j < n → 1 ≤ limit → Bounds n limit j (links_to first n epsilon limit j)
unfolding links_to room_to most_of
bounds first n epsilon limit zero h some =
    record {
      bond-some = omega arith;
      bond-few = omega (arith, pow_pos (n - 0));
      at-few = omega arith;
      sites_long = refl;
      ranks-long = refl;
      ends-long = refl;
      marks-long = refl;
      dropped-few = omega arith;
    }
bounds first n epsilon limit (suc j) h some =
    next n limit j (links_to first n epsilon limit j) epsilon h some (bounds first n epsilon limit j (omega arith) some)
