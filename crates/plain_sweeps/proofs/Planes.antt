-- Matrices that are finite, and matrices that are alike but for the signs of zeros: what a turn of two columns does with them. Assumes nothing.
use mathlib.Core.Path.{◌≡◌, refl, sym, ap₂, ◌∙◌, subst}
use mathlib.Core.List.{List}
use Prim.Native.Nat.{ℕ, zero, suc, ◌+◌, ◌*◌, ◌≤◌, ◌<◌}
use native.Mathlib.Decide.{ℕ_discrete}
use native.Mathlib.Omega.{arith}
use lib.Ieee.{Float, nan}
use lib.ListN.{length, set, length-set}
use lib.Seq.{get_or-set_same, get_or-set_other}
use Rattle.complex.specs.declared.Complex.{Complex}
use Rattle.complex.specs.Arithmetic.{complex_of}
use Rattle.complex.specs.Planes.{plane_at, set_plane}
use Rattle.complex.proofs.PlanesLaws.{length-set_plane}
use Rattle.zero_signs.proofs.Cells.{Like, FiniteCell, like-self, like-trans, like-product, like-sum, times-plus-zero, times-minus-zero, sum_back, product-back, real-back}
use Rattle.svd_pair.specs.declared.Factors.{Factors}
use Rattle.svd_pair.specs.Turns.{Making, new_p, new_q, exact, turn_row, turn_rows}
use Rattle.svd_pair.specs.Plain.{plain_p, plain_q, plain}
use Rattle.svd_pair.specs.ZeroProducts.{RealTurn}
use Rattle.svd_pair.proofs.TurnsLaws.{plane-other, row_other}

-- a matrix of c cells whose numbers are finite
pub record Fine (c : ℕ) (xs : List Float) : Type 0 where
  pub size : length xs ≡ 2 * c
  pub cells : (i : ℕ) → i < c → FiniteCell (plane_at xs c i)

-- two matrices of c cells that are alike but for the signs of zeros
pub record Alike (c : ℕ) (xs ys : List Float) : Type 0 where
  pub first : length xs ≡ 2 * c
  pub second : length ys ≡ 2 * c
  pub cells : (i : ℕ) → i < c → Like (plane_at xs c i) (plane_at ys c i)

-- a matrix is like itself
pub alike_self : (c : ℕ) (xs : List Float) → length xs ≡ 2 * c → Alike c xs xs
alike_self c xs h = record { first = h; second = h; cells = λ i l. like-self (plane_at xs c i) }

-- ---- cells

-- what holds of i, of j, and of every other number holds of all
at_cells : (P : ℕ → Type 0) (i j : ℕ) → P i → P j → ((x : ℕ) → (x ≡ i → ⊥) → (x ≡ j → ⊥) → P x) → (x : ℕ) → P x
at_cells P i j hi hj h x = go (ℕ_discrete x i) (ℕ_discrete x j)
  where
    go : Dec (x ≡ i) → Dec (x ≡ j) → P x
    go (yes e) d = subst P (sym e) hi
    go (no a) (yes e) = subst P (sym e) hj
    go (no a) (no b) = h x a b

-- the cell that is set
pub plane-same : (xs : List Float) (c i : ℕ) (z : Complex) → i < c → length xs ≡ 2 * c → plane_at (set_plane xs c i z) c i ≡ z
unfolding plane_at set_plane
plane-same xs c i z h l =
    let ys = set xs i z.re in
    ap₂ complex_of
    (get_or-set_other ys (c + i) i z.im nan (λ e. omega arith) ∙ get_or-set_same xs i z.re nan (omega arith))
    (get_or-set_same ys (c + i) z.im nan (omega (arith, length-set xs i z.re)))

-- ---- one row

-- the list keeps its length
pub row-length : (g : Making) (f : Factors) (c i j : ℕ) (xs : List Float) → length (turn_row g f c i j xs) ≡ length xs
unfolding turn_row
row-length g f c i j xs = simp length-set_plane

module _ (g : Making) (f : Factors) (c i j : ℕ) (xs : List Float) (hi : i < c) (hj : j < c) (n : i ≡ j → ⊥) (l : length xs ≡ 2 * c) where
  -- the new cell i
  row-p : plane_at (turn_row g f c i j xs) c i ≡ g.p f (plane_at xs c i) (plane_at xs c j)
  unfolding turn_row
  row-p =
      let p = g.p f (plane_at xs c i) (plane_at xs c j) in
      plane-other (set_plane xs c i p) c i j (g.q f (plane_at xs c i) (plane_at xs c j)) hi hj n ∙ plane-same xs c i p hi l

  -- the new cell j
  row-q : plane_at (turn_row g f c i j xs) c j ≡ g.q f (plane_at xs c i) (plane_at xs c j)
  unfolding turn_row
  row-q =
      let p = g.p f (plane_at xs c i) (plane_at xs c j) in
      plane-same (set_plane xs c i p) c j (g.q f (plane_at xs c i) (plane_at xs c j)) hj (length-set_plane xs c i p ∙ l)

-- a finite new cell p has finite old cells
p_back : (f : Factors) {ap aq : Complex} → FiniteCell (plain_p f ap aq) → FiniteCell ap × FiniteCell aq
unfolding plain_p
p_back f h = let s = sum_back h in (real-back f.pp.re s.0, product-back f.pq s.1)

-- a row that is finite after it is turned was finite before
pub row_back : (f : Factors) (c i j : ℕ) (ys : List Float) → i < c → j < c → (i ≡ j → ⊥) → Fine c (turn_row plain f c i j ys) → Fine c ys
row_back f c i j ys hi hj n h =
    let l : length ys ≡ 2 * c = sym (row-length plain f c i j ys) ∙ h.size in
    let s = p_back f {ap = plane_at ys c i} {aq = plane_at ys c j} (subst FiniteCell (row-p plain f c i j ys hi hj n l) (h.cells i hi)) in
    record {
      size = l;
      cells = at_cells (λ (x : ℕ). x < c → FiniteCell (plane_at ys c x)) i j (λ k. s.0) (λ k. s.1) (λ x a b k. subst FiniteCell (row_other plain f ys c x i j k hi hj a b) (h.cells x k));
    }

-- the factors of the exact turn f and of the plain one f', whose cosine and sine are real numbers
pub record SameTurn (f f' : Factors) : Type 0 where
  pub real : RealTurn f'
  pub pp : f.pp ≡ f'.pp
  pub qp : f.qp ≡ f'.qp
  pub pq : Like f.pq f'.pq
  pub qq : Like f.qq f'.qq

-- the same numbers are alike
like-same : {a b : Complex} → a ≡ b → Like a b
like-same {a} {b} e = subst (Like a) e (like-self a)

-- the new cells p are alike, where the old cell p is finite
p-alike : {f f' : Factors} {ap aq ap' aq' : Complex} → SameTurn f f' → FiniteCell ap' → Like ap ap' → Like aq aq' → Like (new_p f ap aq) (plain_p f' ap' aq')
unfolding new_p plain_p
p-alike {f} {f'} {ap} {aq} {ap'} {aq'} t h a b =
    like-sum
    (like-trans (like-product (like-same t.pp) a) (times-plus-zero f'.pp.re f'.pp ap' refl t.real.cosine h))
    (like-product t.pq b)

-- and the new cells q
q-alike : {f f' : Factors} {ap aq ap' aq' : Complex} → SameTurn f f' → FiniteCell ap' → Like ap ap' → Like aq aq' → Like (new_q f ap aq) (plain_q f' ap' aq')
unfolding new_q plain_q
q-alike {f} {f'} {ap} {aq} {ap'} {aq'} t h a b =
    like-sum
    (like-trans (like-product (like-same t.qp) a) (times-minus-zero f'.qp.re f'.qp ap' refl t.real.sine h))
    (like-product t.qq b)

-- a row turned exactly and a row turned plainly are alike, where the old ones were and the plain one was finite
pub row-alike : {f f' : Factors} (c i j : ℕ) (xs ys : List Float) → i < c → j < c → (i ≡ j → ⊥) → SameTurn f f' → Fine c ys → Alike c xs ys
    → Alike c (turn_row exact f c i j xs) (turn_row plain f' c i j ys)
row-alike {f} {f'} c i j xs ys hi hj n t h a =
    let p : Like (new_p f (plane_at xs c i) (plane_at xs c j)) (plain_p f' (plane_at ys c i) (plane_at ys c j)) = p-alike t (h.cells i hi) (a.cells i hi) (a.cells j hj) in
    let q : Like (new_q f (plane_at xs c i) (plane_at xs c j)) (plain_q f' (plane_at ys c i) (plane_at ys c j)) = q-alike t (h.cells i hi) (a.cells i hi) (a.cells j hj) in
    record {
      first = row-length exact f c i j xs ∙ a.first;
      second = row-length plain f' c i j ys ∙ a.second;
      cells =
          at_cells (λ (x : ℕ). x < c → Like (plane_at (turn_row exact f c i j xs) c x) (plane_at (turn_row plain f' c i j ys) c x)) i j
          (λ k. rw (row-p exact f c i j xs hi hj n a.first, row-p plain f' c i j ys hi hj n a.second) p)
          (λ k. rw (row-q exact f c i j xs hi hj n a.first, row-q plain f' c i j ys hi hj n a.second) q)
          (λ x u w k. rw (row_other exact f xs c x i j k hi hj u w, row_other plain f' ys c x i j k hi hj u w) (a.cells x k));
    }

-- ---- two columns

-- the list keeps its length
pub rows-length : (g : Making) (f : Factors) (c a b k : ℕ) (xs : List Float) → length (turn_rows g f c a b k xs) ≡ length xs
unfolding turn_rows
rows-length g f c a b zero xs = refl
rows-length g f c a b (suc k) xs = row-length g f c (a + k) (b + k) (turn_rows g f c a b k xs) ∙ rows-length g f c a b k xs

-- columns that are finite after they are turned were finite before
pub rows_back : (f : Factors) (c a b k : ℕ) (ys : List Float) → a + k ≤ b → b + k ≤ c → Fine c (turn_rows plain f c a b k ys) → Fine c ys
unfolding turn_rows
rows_back f c a b zero ys ha hb h = h
rows_back f c a b (suc k) ys ha hb h =
    rows_back f c a b k ys (omega arith) (omega arith)
    (row_back f c (a + k) (b + k) (turn_rows plain f c a b k ys) (omega arith) (omega arith) (λ e. omega arith) h)

-- columns turned exactly and columns turned plainly are alike, where the old ones were and the plain ones are finite
pub rows_alike : {f f' : Factors} (c a b k : ℕ) (xs ys : List Float) → a + k ≤ b → b + k ≤ c → SameTurn f f' → Fine c (turn_rows plain f' c a b k ys) → Alike c xs ys
    → Alike c (turn_rows exact f c a b k xs) (turn_rows plain f' c a b k ys)
unfolding turn_rows
rows_alike c a b zero xs ys ha hb t h s = s
rows_alike {f} {f'} c a b (suc k) xs ys ha hb t h s =
    let before : Fine c (turn_rows plain f' c a b k ys) =
    row_back f' c (a + k) (b + k) (turn_rows plain f' c a b k ys) (omega arith) (omega arith) (λ e. omega arith) h in
    row-alike c (a + k) (b + k) (turn_rows exact f c a b k xs) (turn_rows plain f' c a b k ys) (omega arith) (omega arith) (λ e. omega arith) t before
    (rows_alike c a b k xs ys (omega arith) (omega arith) t before s)
