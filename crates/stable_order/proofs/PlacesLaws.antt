-- Laws of what `specs/Places.antt` defines. Assumes nothing.
use mathlib.Core.Path.{◌≡◌, refl, ap, ap₂}
use mathlib.Core.List.{List, [], ◌∷◌, ◌++◌}
use Prim.Native.Nat.{ℕ, zero, suc, ◌<◌, ◌≤◌, ◌^◌}
use native.Mathlib.Nat.{le_of_suc-le-suc}
use native.Mathlib.Omega.{arith}
use lib.IntN.{pos}
use lib.Dec.{T, le→leb}
use lib.ListN.{length, get_or, take, drop}
use lib.Ieee.{Float, nan, binary64, in_float, in_unsigned}
use lib.Ieee.Back.{unsigned_back}
use Rattle.stable_order.specs.Places.{place, place_in, places_of, places_in, Below, Places}

-- ---- laws

pub below_at : (n : ℕ) (l : List ℕ) (j : ℕ) → Below n l → j < length l → get_or l j 0 < n
below_at n [] j b h = absurd (omega arith)
below_at n (y ∷ ys) zero b h = b.0
below_at n (y ∷ ys) (suc j) b h = below_at n ys j b.1 (le_of_suc-le-suc h)

pub below_more : (n m : ℕ) (l : List ℕ) → n ≤ m → Below n l → Below m l
below_more n m [] h b = tt
below_more n m (y ∷ ys) h b = (omega (arith, b.0), below_more n m ys h b.1)

pub small-in : (i : ℕ) → i < 4096 → T (in_float binary64 (pos i))
unfolding in_float
small-in i h = le→leb i (2 ^ 53) (omega arith)

pub small-back : (i : ℕ) → i < 4096 → T (in_unsigned binary64 64 (place i)) × (place_in (place i) ≡ i)
small-back i h = unsigned_back binary64 64 i (small-in i h) (omega arith)

pub length-places_of : (l : List ℕ) → length (places_of l) ≡ length l
unfolding places_of
length-places_of [] = refl
length-places_of (y ∷ l) = ap suc (length-places_of l)

pub length-places_in : (l : List Float) → length (places_in l) ≡ length l
unfolding places_in
length-places_in [] = refl
length-places_in (x ∷ l) = ap suc (length-places_in l)

-- what was kept is read back
pub places-back : (n : ℕ) (l : List ℕ) → n ≤ 4096 → Below n l → places_in (places_of l) ≡ l
unfolding places_in places_of
places-back n [] h b = refl
places-back n (y ∷ l) h b = ap₂ (λ (i : ℕ) (r : List ℕ). i ∷ r) (small-back y (omega (arith, b.0))).1 (places-back n l h b.1)

pub places_of-append : (a b : List ℕ) → places_of (a ++ b) ≡ places_of a ++ places_of b
unfolding places_of
places_of-append [] b = refl
places_of-append (y ∷ a) b = ap {B = List Float} (λ r. place y ∷ r) (places_of-append a b)

pub places_of-take : (k : ℕ) (l : List ℕ) → take k (places_of l) ≡ places_of (take k l)
unfolding places_of
places_of-take zero l = refl
places_of-take (suc k) [] = refl
places_of-take (suc k) (y ∷ l) = ap {B = List Float} (λ r. place y ∷ r) (places_of-take k l)

pub places_of-drop : (k : ℕ) (l : List ℕ) → drop k (places_of l) ≡ places_of (drop k l)
unfolding places_of
places_of-drop zero l = refl
places_of-drop (suc k) [] = refl
places_of-drop (suc k) (y ∷ l) = places_of-drop k l

-- the float at k, where the list is one of places
place_at : (l : List ℕ) (k : ℕ) → k < length l → get_or (places_of l) k nan ≡ place (get_or l k 0)
unfolding places_of
place_at [] k h = absurd (omega arith)
place_at (y ∷ l) zero h = refl
place_at (y ∷ l) (suc k) h = place_at l k (le_of_suc-le-suc h)

module _ (n k : ℕ) (l : List Float) (h : k < length l) (m : n ≤ 4096) (p : Places n l) where
  here : get_or l k nan ≡ place (get_or p.places k 0)
  here =
      let e : k < length p.places = omega (arith, length-places_of p.places, ap length p.are) in
      rw p.are (place_at p.places k e)

  low-here : get_or p.places k 0 < n
  low-here =
      let e : k < length p.places = omega (arith, length-places_of p.places, ap length p.are) in
      below_at n p.places k p.low e

  -- it can be cast back
  pub castable : T (in_unsigned binary64 64 (get_or l k nan))
  castable = rw here (small-back (get_or p.places k 0) (omega (arith, low-here))).0

  -- and is the place that the list holds there
  pub read_back : place_in (get_or l k nan) ≡ get_or (places_in l) k 0
  read_back =
      let q = p.places in
      let e : places_in l ≡ q = rw p.are (places-back n q m p.low) in
      rw (here, e) (small-back (get_or q k 0) (omega (arith, low-here))).1

  pub read_low : place_in (get_or l k nan) < n
  read_low = rw (here, (small-back (get_or p.places k 0) (omega (arith, low-here))).1) low-here
