-- Laws of the tests and of the answers. Assumes nothing.
use mathlib.Core.Path.{◌≡◌, refl, sym, ap, ◌∙◌}
use mathlib.Core.Bool.{Bool, true, false, not, ◌&&◌, ◌||◌, true≢false}
use mathlib.Core.List.{List}
use Prim.Native.Nat.{ℕ, ◌+◌, ◌*◌, ◌/◌, ◌%◌, ◌≤◌}
use native.Mathlib.Omega.{arith}
use lib.Dec.{leb, ltb, eqb}
use borrow.Author.Tests.{leb-true, ltb-false, eqb-false, not-false}
use Rattle.std.proofs.Common.{Option, Some, None}
use Rattle.answers.specs.Paper.{Reply, done, refuse}
use Rattle.slab_runs.proofs.Theorems.{lowest-fits}
use Rattle.slab_sites.specs.Sites.{count, each_apart}
use Rattle.slab_sites.proofs.EveryLaws.{first_of, second-of, neither-first, neither-second}
use Rattle.slab_cells.specs.Cells.{map_of, clean}
use Rattle.slab_cells.proofs.CellLaws.{length-map}
use Rattle.slab_tests.specs.Tests.{sound, bad_data, entry_of, holds, room, is_nowhere, spot, put_reply, drop_reply, replace_reply}

-- ---- the slab's own tests

module _ (cells index : List ℕ) where
  module _ (s : sound cells index ≡ true) where
    pub sound-count : count index ≤ 64
    unfolding sound
    sound-count = leb-true (count index) 64 (first_of (leb (count index) 64) (each_apart index (count index) && clean (map_of index 64 (count index)) cells) s)

    rest : (each_apart index (count index) && clean (map_of index 64 (count index)) cells) ≡ true
    unfolding sound
    rest = second-of (leb (count index) 64) (each_apart index (count index) && clean (map_of index 64 (count index)) cells) s

    pub sound-apart : each_apart index (count index) ≡ true
    sound-apart = first_of (each_apart index (count index)) (clean (map_of index 64 (count index)) cells) rest

    pub sound-clean : clean (map_of index 64 (count index)) cells ≡ true
    sound-clean = second-of (each_apart index (count index)) (clean (map_of index 64 (count index)) cells) rest

pub said-sound : (cells index : List ℕ) {s : Bool} → s ≡ sound cells index → s ≡ true → sound cells index ≡ true
said-sound cells index e f = sym e ∙ f

-- ---- the data

module _ (len : ℕ) (b : bad_data len ≡ false) where
  right : (eqb (len % 2) 1 || ltb 8192 len) ≡ false
  right = neither-second (eqb len 0) (eqb (len % 2) 1 || ltb 8192 len) b

  pub some-data : len ≡ 0 → ⊥
  some-data = eqb-false len 0 (neither-first (eqb len 0) (eqb (len % 2) 1 || ltb 8192 len) b)

  pub even-data : len % 2 ≡ 1 → ⊥
  even-data = eqb-false (len % 2) 1 (neither-first (eqb (len % 2) 1) (ltb 8192 len) right)

  pub few-data : len ≤ 8192
  few-data = ltb-false 8192 len (neither-second (eqb (len % 2) 1) (ltb 8192 len) right)

  -- two numbers a cell
  pub whole_cells : 2 * (len / 2) ≡ len
  whole_cells = omega (arith, even-data)

  pub one_cell : 1 ≤ len / 2
  one_cell = omega (arith, even-data, some-data)

-- ---- the run

-- it lies within the slab
pub room_fits : (index : List ℕ) (skip len s : ℕ) → bad_data len ≡ false → room index skip len ≡ Some s → 2 * s + len ≤ 8192
unfolding room
room_fits index skip len s b e =
    let l = lowest-fits (len / 2) (map_of index skip (count index)) (one_cell len b) s e in
    omega (arith, l, length-map index skip (count index), whole_cells len b)

pub found : (r : Option ℕ) → is_nowhere r ≡ false → r ≡ Some (spot r)
found (Some s) e = refl
found None e = absurd (true≢false e)

pub spot-fits : (index : List ℕ) (skip len : ℕ) → bad_data len ≡ false → is_nowhere (room index skip len) ≡ false → 2 * spot (room index skip len) + len ≤ 8192
spot-fits index skip len b e = room_fits index skip len (spot (room index skip len)) b (found (room index skip len) e)

-- ---- rows of tests

abbrev put_row : Bool → Bool → Bool → Bool → Bool → Reply
put_row s b h w f = refuse (not s) (1, 0) (refuse b (1, 0) (refuse h (13, 0) (refuse w (14, 0) (refuse f (15, 0) done))))

row₄ : (s b h w f : Bool) → s ≡ true → b ≡ false → h ≡ false → w ≡ true → (14, 0) ≡ put_row s b h w f
row₄ s b h w f e g i j = rw (e, g, i, j)

row₆ : (s b h w f : Bool) → s ≡ true → b ≡ false → h ≡ false → w ≡ false → f ≡ false → (0, 0) ≡ put_row s b h w f
row₆ s b h w f e g i j k = rw (e, g, i, j, k)

abbrev drop_row : Bool → Bool → Reply
drop_row s h = refuse (not s) (1, 0) (refuse (not h) (13, 0) done)

drop₃ : (s h : Bool) → s ≡ true → h ≡ true → (0, 0) ≡ drop_row s h
drop₃ s h e g = rw (e, g)

-- ---- a call that is accepted has passed each test

put-row : (s b h w f : Bool) → (put_row s b h w f).0 ≡ 0 → (s ≡ true) × (b ≡ false) × (h ≡ false) × (w ≡ false) × (f ≡ false)
put-row false b h w f e = absurd (omega arith)
put-row true true h w f e = absurd (omega arith)
put-row true false true w f e = absurd (omega arith)
put-row true false false true f e = absurd (omega arith)
put-row true false false false true e = absurd (omega arith)
put-row true false false false false e = (refl, refl, refl, refl, refl)

drop-row : (s h : Bool) → (drop_row s h).0 ≡ 0 → (s ≡ true) × (h ≡ true)
drop-row false h e = absurd (omega arith)
drop-row true false e = absurd (omega arith)
drop-row true true e = (refl, refl)

pub record PutPasses (cells index : List ℕ) (site len : ℕ) : Type 0 where
  pub sound-is : sound cells index ≡ true
  pub good : bad_data len ≡ false
  pub new : holds index site ≡ false
  pub fits : is_nowhere (room index 64 len) ≡ false
  pub spare : eqb (count index) 64 ≡ false

pub record DropPasses (cells index : List ℕ) (site : ℕ) : Type 0 where
  pub sound-is : sound cells index ≡ true
  pub known : holds index site ≡ true

pub record ReplacePasses (cells index : List ℕ) (site len : ℕ) : Type 0 where
  pub sound-is : sound cells index ≡ true
  pub good : bad_data len ≡ false
  pub known : holds index site ≡ true
  pub fits : is_nowhere (room index (entry_of index site) len) ≡ false

module _ (cells index : List ℕ) (site len : ℕ) where
  pub put-passed : (put_reply cells index site len).0 ≡ 0 → PutPasses cells index site len
  put-passed e =
      let p = put-row (sound cells index) (bad_data len) (holds index site) (is_nowhere (room index 64 len)) (eqb (count index) 64) e in
      record { sound-is = p.0; good = p.1; new = p.2; fits = p.3; spare = p.4 }

  pub replace-passed : (replace_reply cells index site len).0 ≡ 0 → ReplacePasses cells index site len
  replace-passed e =
      let p = put-row (sound cells index) (bad_data len) (not (holds index site)) (is_nowhere (room index (entry_of index site) len)) false e in
      record { sound-is = p.0; good = p.1; known = not-false _ p.2; fits = p.3 }

  pub drop-passed : (drop_reply cells index site).0 ≡ 0 → DropPasses cells index site
  drop-passed e =
      let p = drop-row (sound cells index) (holds index site) e in
      record { sound-is = p.0; known = p.1 }

-- ---- a call whose tests are passed is accepted

pub drop-accepted : (cells index : List ℕ) (site : ℕ) → DropPasses cells index site → (0, 0) ≡ drop_reply cells index site
drop-accepted cells index site p = drop₃ (sound cells index) (holds index site) p.sound-is p.known

pub put-accepted : (cells index : List ℕ) (site len : ℕ) → PutPasses cells index site len → (0, 0) ≡ put_reply cells index site len
put-accepted cells index site len p =
    row₆ (sound cells index) (bad_data len) (holds index site) (is_nowhere (room index 64 len)) (eqb (count index) 64) p.sound-is p.good p.new p.fits p.spare

rows_same : (s b h w f t i x : Bool) → s ≡ true → h ≡ false → f ≡ false → t ≡ true → i ≡ true → w ≡ x → put_row s b h w f ≡ put_row t b (not i) x false
rows_same s b h w f t i x p q r u v e = rw (p, q, r, u, v, e)

-- a put where the number is new and an entry is spare, and a replace where it is held, answer alike where they
-- find the same run
pub same-answers : (cells index old before : List ℕ) (site len : ℕ) → sound cells index ≡ true → holds index site ≡ false → eqb (count index) 64 ≡ false
    → sound old before ≡ true → holds before site ≡ true → room index 64 len ≡ room before (entry_of before site) len
    → put_reply cells index site len ≡ replace_reply old before site len
same-answers cells index old before site len p q r u v e =
    rows_same (sound cells index) (bad_data len) (holds index site) (is_nowhere (room index 64 len)) (eqb (count index) 64) (sound old before) (holds before site)
    (is_nowhere (room before (entry_of before site) len)) p q r u v (ap is_nowhere e)

-- ---- 14 and the run

put-fourteen : (s b h w f : Bool) → (put_row s b h w f).0 ≡ 14 → w ≡ true
put-fourteen false b h w f e = absurd (omega arith)
put-fourteen true true h w f e = absurd (omega arith)
put-fourteen true false true w f e = absurd (omega arith)
put-fourteen true false false true f e = refl
put-fourteen true false false false true e = absurd (omega arith)
put-fourteen true false false false false e = absurd (omega arith)

nowhere-at : (r : Option ℕ) → is_nowhere r ≡ true → r ≡ None
nowhere-at (Some s) e = absurd (true≢false (sym e))
nowhere-at None e = refl

module _ (cells index : List ℕ) (site len : ℕ) where
  pub put-14-none : (put_reply cells index site len).0 ≡ 14 → room index 64 len ≡ None
  put-14-none e =
      nowhere-at (room index 64 len)
      (put-fourteen (sound cells index) (bad_data len) (holds index site) (is_nowhere (room index 64 len)) (eqb (count index) 64) e)

  pub none-put-14 : sound cells index ≡ true → bad_data len ≡ false → holds index site ≡ false → room index 64 len ≡ None
      → (14, 0) ≡ put_reply cells index site len
  none-put-14 s b h e =
      row₄ (sound cells index) (bad_data len) (holds index site) (is_nowhere (room index 64 len)) (eqb (count index) 64) s b h (ap is_nowhere e)

  pub replace-14-none : (replace_reply cells index site len).0 ≡ 14 → room index (entry_of index site) len ≡ None
  replace-14-none e =
      nowhere-at (room index (entry_of index site) len)
      (put-fourteen (sound cells index) (bad_data len) (not (holds index site)) (is_nowhere (room index (entry_of index site) len)) false e)

  pub none-replace-14 : sound cells index ≡ true → bad_data len ≡ false → holds index site ≡ true → room index (entry_of index site) len ≡ None
      → (14, 0) ≡ replace_reply cells index site len
  none-replace-14 s b h e =
      row₄ (sound cells index) (bad_data len) (not (holds index site)) (is_nowhere (room index (entry_of index site) len)) false s b (ap not h) (ap is_nowhere e)
