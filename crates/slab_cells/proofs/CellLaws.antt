-- Laws of the cells and of the map. Assumes nothing.
use mathlib.Core.Path.{◌≡◌, refl, sym, ap, ap₂, ◌∙◌}
use mathlib.Core.Bool.{Bool, true, false, cond, not, ◌&&◌, ◌||◌, or-true, or-false}
use mathlib.Core.List.{List, [], ◌∷◌, ◌++◌}
use mathlib.Core.Logic.{◌⊎◌, inl, inr, ⊎_elim}
use Prim.Native.Nat.{ℕ, zero, suc, ◌+◌, ◌-◌, ◌*◌, ◌≤◌, ◌<◌}
use native.Mathlib.Nat.{eq-or-lt_of_le}
use native.Mathlib.Numerals.{add-one}
use native.Mathlib.Omega.{arith}
use lib.Dec.{leb, ltb, eqb}
use lib.ListN.{length, get_or, set, take, drop, replicate, length-set, length-replicate, get_or-replicate}
use lib.Seq.{sets, sets-eq, drop-drop, get_or-set_same, get_or-set_other, ext_get_or}
use borrow.Rule.Slice.PartMut.{put_mid}
use borrow.Author.Tests.{ne_eqb, leb-true, leb-false, ltb-true, ltb-false}
use Rattle.std.proofs.Common.{append_assoc}
use Rattle.tables.specs.Tables.{table}
use Rattle.tables.proofs.TablesLaws.{length-table, table_at}
use Rattle.slab_sites.specs.declared.Site.{Site}
use Rattle.slab_sites.specs.Every.{every}
use Rattle.slab_sites.specs.Sites.{site_at, covers, inside, apart_from, each_apart, held}
use Rattle.slab_sites.proofs.EveryLaws.{every-none, every_more, every-bad, every-at, some-none, some_more, first_of, second-of}
use Rattle.slab_cells.specs.Cells.{blank, clean, map_of, marked, marked_entry, pasted, wiped}

-- ---- a list with a part replaced

sets-snoc : {A : Type 0} (vs l : List A) (i : ℕ) (a : A) → sets l i (vs ++ a ∷ []) ≡ set (sets l i vs) (i + length vs) a
sets-snoc [] l i a = ap (λ (k : ℕ). set l k a) (omega arith)
sets-snoc (v ∷ vs) l i a = sets-snoc vs (set l i v) (suc i) a ∙ ap (λ (k : ℕ). set (sets (set l i v) (suc i) vs) k a) (omega arith)

-- the numbers from `at` on, n of them, put in place of the slice's part
put-sets : {A : Type 0} (at n : ℕ) (vs l : List A) → at + n ≤ length l → length vs ≡ n → put_mid at (at + n - at) l vs ≡ sets l at vs
put-sets {A} at n vs l h e =
    let k : at + n - at ≡ n = omega arith in
    rw k (ap (λ (r : List A). take at l ++ (vs ++ r)) (drop-drop n at l ∙ ap (λ (m : ℕ). drop (at + m) l) (sym e)) ∙ sym (append_assoc (take at l) vs (drop (at + length vs) l)) ∙ sym (sets-eq vs l at (omega (arith, h, e))))

pub put-pasted : (at : ℕ) (given cells : List ℕ) {ys : List ℕ} → at + length given ≤ length cells → ys ≡ given
    → put_mid at (at + length given - at) cells ys ≡ pasted at given cells
unfolding pasted
put-pasted at given cells h e = rw e (put-sets at (length given) given cells h refl)

pub put-wiped : (start count : ℕ) (cells : List ℕ) {ys : List ℕ} → start + count ≤ 4096 → length cells ≡ 8192 → ys ≡ replicate (2 * count) 0
    → put_mid (2 * start) (2 * start + 2 * count - 2 * start) cells ys ≡ wiped start count cells
unfolding wiped pasted
put-wiped start count cells h l e = rw e (put-sets (2 * start) (2 * count) (replicate (2 * count) 0) cells (omega arith) (length-replicate {A = ℕ} (2 * count) 0))

-- ---- the map

replicate-more : (n : ℕ) → replicate (suc n) true ≡ replicate n true ++ true ∷ []
replicate-more zero = refl
replicate-more (suc n) = ap (λ (l : List Bool). true ∷ l) (replicate-more n)

marked-sets : (start count : ℕ) (map : List Bool) → sets map start (replicate count true) ≡ marked start count map
unfolding marked
marked-sets start zero map = refl
marked-sets start (suc n) map =
    ap (sets map start) (replicate-more n)
    ∙ sets-snoc (replicate n true) map start true
    ∙ ap₂ (λ (l : List Bool) (k : ℕ). set l (start + k) true) (marked-sets start n map) (length-replicate n true)

pub put-marked : (x : Site) (i skip : ℕ) (map : List Bool) {ys : List Bool} → (i ≡ skip → ⊥) → x.start + x.cells ≤ length map
    → ys ≡ replicate x.cells true → put_mid x.start (x.start + x.cells - x.start) map ys ≡ marked_entry x i skip map
unfolding marked_entry
put-marked x i skip map n h e =
    rw (ne_eqb i skip n, e)
    (put-sets x.start x.cells (replicate x.cells true) map h (length-replicate x.cells true) ∙ marked-sets x.start x.cells map)

pub length_marked : (start : ℕ) (map : List Bool) (t : ℕ) → length (marked start t map) ≡ length map
unfolding marked
length_marked start map zero = refl
length_marked start map (suc t) = length-set (marked start t map) (start + t) true ∙ length_marked start map t

-- a cell that is not among them is as it was
pub marked-off : (start : ℕ) (map : List Bool) (t c : ℕ) → (c < start) ⊎ (start + t ≤ c) → get_or (marked start t map) c false ≡ get_or map c false
unfolding marked
marked-off start map zero c h = refl
marked-off start map (suc t) c h =
    get_or-set_other (marked start t map) (start + t) c true false (λ e. ⊎_elim (λ (l : c < start). omega arith) (λ (l : start + suc t ≤ c). omega arith) h)
    ∙ marked-off start map t c (⊎_elim (λ (l : c < start). inl l) (λ (l : start + suc t ≤ c). inr (omega arith)) h)

-- a cell among them is held
pub marked-on : (start : ℕ) (map : List Bool) (t c : ℕ) → start ≤ c → c < start + t → start + t ≤ length map → get_or (marked start t map) c false ≡ true
unfolding marked
marked-on start map zero c h l m = absurd (omega arith)
marked-on start map (suc t) c h l m =
    ⊎_elim
    (λ (e : c ≡ start + t).
    ap (λ (x : ℕ). get_or (set (marked start t map) (start + t) true) x false) e
    ∙ get_or-set_same (marked start t map) (start + t) true false (omega (arith, length_marked start map t)))
    (λ (e : c < start + t).
    get_or-set_other (marked start t map) (start + t) c true false (λ o. omega arith) ∙ marked-on start map t c h e (omega arith))
    (eq-or-lt_of_le (omega arith))

-- both in one: what was held, and what the site covers
pub marked-at : (x : Site) (map : List Bool) (c : ℕ) → x.start + x.cells ≤ length map
    → get_or (marked x.start x.cells map) c false ≡ (get_or map c false || covers x c)
marked-at x map c h = by-start (leb x.start c) (ltb c (x.start + x.cells)) refl refl
  where
    by-start : (a b : Bool) → leb x.start c ≡ a → ltb c (x.start + x.cells) ≡ b
        → get_or (marked x.start x.cells map) c false ≡ (get_or map c false || a && b)
    by-start true true e f =
        marked-on x.start map x.cells c (leb-true x.start c e) (ltb-true c (x.start + x.cells) f) h ∙ sym (or-true (get_or map c false))
    by-start true false e f =
        marked-off x.start map x.cells c (inr (ltb-false c (x.start + x.cells) f)) ∙ sym (or-false (get_or map c false))
    by-start false b e f = marked-off x.start map x.cells c (inl (leb-false x.start c e)) ∙ sym (or-false (get_or map c false))

pub table-ext : (p : ℕ → Bool) (m : ℕ) (l : List Bool) → length l ≡ m → ((c : ℕ) → c < m → get_or l c false ≡ p c) → l ≡ table m p
table-ext p m l e f =
    ext_get_or false l (table m p) (e ∙ sym (length-table m p)) (λ c h. f c (omega arith) ∙ sym (table_at false m c p (omega arith)))

module _ (index : List ℕ) (skip : ℕ) where
  pub length-map : (n : ℕ) → length (map_of index skip n) ≡ 4096
  unfolding map_of
  length-map n = length-table 4096 (held index skip n)

  pub map_at : (n c : ℕ) → c < 4096 → get_or (map_of index skip n) c false ≡ held index skip n c
  unfolding map_of
  map_at n c h = table_at false 4096 c (held index skip n) h

  held_none : (c : ℕ) → held index skip 0 c ≡ false
  unfolding held
  held_none c = some-none (λ i. not (eqb i skip) && covers (site_at index i) c) 0 (λ i h. absurd (omega arith))

  pub held_more : (n c : ℕ) → held index skip (n + 1) c ≡ (held index skip n c || not (eqb n skip) && covers (site_at index n) c)
  unfolding held
  held_more n c = rw add-one (some_more (λ i. not (eqb i skip) && covers (site_at index i) c) n)

  pub map-none : replicate 4096 false ≡ map_of index skip 0
  unfolding map_of
  map-none =
      table-ext (held index skip 0) 4096 (replicate 4096 false) (length-replicate 4096 false)
      (λ c h. get_or-replicate 4096 c false false h ∙ sym (held_none c))

  pub map_more : (n : ℕ) {now next : List Bool} {x : Site} → now ≡ map_of index skip n → x ≡ site_at index n → x.start + x.cells ≤ 4096
      → next ≡ marked_entry x n skip now → next ≡ map_of index skip (n + 1)
  unfolding map_of marked_entry
  map_more n {now} {next} {x} e f h g = g ∙ by-skip (eqb n skip) refl
    where
      long : length now ≡ 4096
      long = ap length e ∙ length-map n

      here : (c : ℕ) → c < 4096 → get_or now c false ≡ held index skip n c
      here c l = ap (λ (m : List Bool). get_or m c false) e ∙ map_at n c l

      by-skip : (b : Bool) → eqb n skip ≡ b → cond b now (marked x.start x.cells now) ≡ map_of index skip (n + 1)
      by-skip true o =
          table-ext (held index skip (n + 1)) 4096 now long
          (λ c l. here c l ∙ sym (held_more n c ∙ ap (λ (b : Bool). held index skip n c || not b && covers (site_at index n) c) o ∙ or-false (held index skip n c)))
      by-skip false o =
          table-ext (held index skip (n + 1)) 4096 (marked x.start x.cells now) (length_marked x.start now x.cells ∙ long)
          (λ c l.
          marked-at x now c (omega (arith, long))
          ∙ ap₂ (λ (a b : Bool). a || b) (here c l) (ap (λ (y : Site). covers y c) f)
          ∙ sym (held_more n c ∙ ap (λ (b : Bool). held index skip n c || not b && covers (site_at index n) c) o))

  pub map-end : (i n : ℕ) {now : List Bool} → now ≡ map_of index skip i → i ≤ n → n ≤ i → now ≡ map_of index skip n
  map-end i n e h l =
      let k : i ≡ n = omega arith in
      e ∙ ap (map_of index skip) k

-- each of the sites ends within the slab
pub ends-within : (index : List ℕ) (n i : ℕ) {x : Site} → each_apart index n ≡ true → i < n → x ≡ site_at index i → x.start + x.cells ≤ 4096
unfolding each_apart
ends-within index n i {x} e h f =
    let p = every-at (λ j. inside (site_at index j) && apart_from index (site_at index j) j) n i e h in
    let q = second-of (not (eqb (site_at index i).cells 0)) (leb ((site_at index i).start + (site_at index i).cells) 4096) (first_of (inside (site_at index i)) (apart_from index (site_at index i) i) p) in
    let a = leb-true ((site_at index i).start + (site_at index i).cells) 4096 q in
    omega (arith, a, ap (λ (y : Site). y.start) f, ap (λ (y : Site). y.cells) f)

-- ---- the scan

-- the first c cells are held or +0.0
unfoldable pub clean_to : List Bool → List ℕ → ℕ → Bool
clean_to map cells c = every (λ i. get_or map i false || blank cells i) c

module _ (map : List Bool) (cells : List ℕ) where
  pub clean-none : clean_to map cells 0 ≡ true
  unfolding clean_to
  clean-none = every-none (λ i. get_or map i false || blank cells i)

  pub clean-more : (c : ℕ) {b : Bool} → clean_to map cells c ≡ true → b ≡ (get_or map c false || blank cells c) → b ≡ true → clean_to map cells (c + 1) ≡ true
  unfolding clean_to
  clean-more c e f g = every_more (λ i. get_or map i false || blank cells i) c e (sym f ∙ g)

  pub clean-bad : (c : ℕ) {b : Bool} → c < 4096 → b ≡ (get_or map c false || blank cells c) → b ≡ false → false ≡ clean map cells
  unfolding clean
  clean-bad c h f g = sym (every-bad (λ i. get_or map i false || blank cells i) c 4096 h (sym f ∙ g))

  pub clean_end : (c : ℕ) → clean_to map cells c ≡ true → c ≤ 4096 → 4096 ≤ c → true ≡ clean map cells
  unfolding clean_to clean
  clean_end c e h l =
      let k : c ≡ 4096 = omega arith in
      sym e ∙ ap (every (λ i. get_or map i false || blank cells i)) k
