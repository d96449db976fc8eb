-- A drop after a put, and a put after a drop. Assumes nothing.
use mathlib.Core.Path.{◌≡◌, refl, sym, ap, ◌∙◌}
use mathlib.Core.Bool.{Bool, true, false, cond}
use mathlib.Core.List.{List}
use mathlib.Core.Logic.{◌⊎◌, inl, inr}
use Prim.Native.Nat.{ℕ, ◌+◌, ◌-◌, ◌*◌, ◌/◌, ◌%◌, ◌≤◌, ◌<◌}
use native.Mathlib.Nat.{eq-or-lt_of_le}
use native.Mathlib.Omega.{arith}
use lib.Dec.{ltb, eqb}
use lib.ListN.{length, get_or}
use lib.Seq.{ext_get_or}
use borrow.Author.Tests.{ltb-true, ltb-false, lt-ltb, eqb-true, eqb-false}
use Rattle.slab_runs.specs.Runs.{lowest}
use Rattle.slab_sites.specs.declared.Site.{Site}
use Rattle.slab_sites.specs.Sites.{count, site_at, covers, held}
use Rattle.slab_sites.proofs.EveryLaws.{never_both}
use Rattle.slab_sites.proofs.IndexLaws.{held-not, not-held, find-is, find-before}
use Rattle.slab_cells.specs.Cells.{map_of, pasted, wiped}
use Rattle.slab_cells.proofs.CellLaws.{map_at, length-map, table-ext}
use Rattle.slab_cells.proofs.PasteLaws.{length-pasted, length-wiped, pasted-off, wiped-off, wiped-on}
use Rattle.slab_tests.specs.Tests.{entry_of, room, spot}
use Rattle.slab_changes.specs.Changes.{site_of, put_index, drop_index, freed}
use Rattle.slab_tests.proofs.TestLaws.{PutPasses, DropPasses, room_fits, whole_cells}
use Rattle.slabs.proofs.Sound.{says-sound, put_count, put-new, put-old, room-free}
use Rattle.slabs.proofs.Calls.{put-was, put-at, put-spare, put_holds, put-number-new, drop-was, drop-known, drop-finds, from_is, from-known, from-other, left-count}

-- ---- what was put is dropped

module _ (cells index : List ℕ) (site : ℕ) (given : List ℕ) (lc : length cells ≡ 8192) (li : length index ≡ 193) (ok : PutPasses cells index site (length given)) where
  abbrev s : ℕ
  s = spot (room index 64 (length given))

  abbrev k : ℕ
  k = length given / 2

  abbrev laid : List ℕ
  laid = pasted (2 * s) given cells

  abbrev listed : List ℕ
  listed = put_index index site s k

  spare : count index < 64
  spare = put-spare cells index site given lc li ok

  one_more : count listed ≡ count index + 1
  one_more = put_count index site s k li spare

  last : site_at listed (count index) ≡ site_of site s k
  last = put-new index site s k li spare

  before : (j : ℕ) → j < count index → site_at listed j ≡ site_at index j
  before j h = put-old index site s k li spare j (λ e. omega arith)

  -- the site is found in the last entry
  pub put-entry : entry_of listed site ≡ count index
  put-entry = by-bound (eq-or-lt_of_le at_most)
    where
      behind : entry_of listed site < count index + 1
      behind = by-it (ltb (entry_of listed site) (count index + 1)) refl
        where
          by-it : (b : Bool) → ltb (entry_of listed site) (count index + 1) ≡ b → entry_of listed site < count index + 1
          by-it true e = ltb-true (entry_of listed site) (count index + 1) e
          by-it false e =
              let g = ltb-false (entry_of listed site) (count index + 1) e in
              absurd (find-before listed site (count listed) (count index) (omega arith) (ap (λ (x : Site). x.number) last))

      at_most : entry_of listed site ≤ count index
      at_most = omega (arith, behind)

      by-bound : (entry_of listed site ≡ count index) ⊎ (entry_of listed site < count index) → entry_of listed site ≡ count index
      by-bound (inl e) = e
      by-bound (inr l) =
          absurd
          (put-number-new cells index site given lc li ok (entry_of listed site) l
          (sym (ap (λ (x : Site). x.number) (before (entry_of listed site) l)) ∙ find-is listed site (count listed) (omega (arith, one_more))))

  pub put-dropped : DropPasses laid listed site
  put-dropped = record {
    sound-is = says-sound laid listed (put_holds cells index site given lc li ok);
    known = lt-ltb (entry_of listed site) (count listed) (omega (arith, put-entry, one_more));
  }

  -- a number of the run was 0 before
  was-zero : (p : ℕ) → 2 * s ≤ p → p < 2 * (s + k) → 0 ≡ get_or cells p 0
  was-zero p h l =
      let w = room_fits index 64 (length given) s ok.good (put-at cells index site given lc li ok) in
      let g = put-was cells index site given lc li ok in
      let z =
      g.zeros (p / 2) (omega (arith, whole_cells (length given) ok.good))
      (λ i m. room-free index 64 (length given) s (p / 2) ok.good (put-at cells index site given lc li ok) (omega arith) (omega arith) i m (λ e. omega (arith, g.few)))
      in
      by-half (eqb (p % 2) 0) refl z.0 z.1
    where
      by-half : (b : Bool) → eqb (p % 2) 0 ≡ b → get_or cells (2 * (p / 2)) 0 ≡ 0 → get_or cells (2 * (p / 2) + 1) 0 ≡ 0 → 0 ≡ get_or cells p 0
      by-half true e a c =
          let q = eqb-true (p % 2) 0 e in
          let r : 2 * (p / 2) ≡ p = omega arith in
          sym a ∙ ap (λ (x : ℕ). get_or cells x 0) r
      by-half false e a c =
          let q = eqb-false (p % 2) 0 e in
          let r : 2 * (p / 2) + 1 ≡ p = omega (arith, q) in
          sym c ∙ ap (λ (x : ℕ). get_or cells x 0) r

  -- the cells are as before
  pub put-undone : freed (site_at listed (entry_of listed site)) laid ≡ cells
  put-undone =
      ap (λ (x : Site). freed x laid) (ap (site_at listed) put-entry ∙ last)
      ∙ ext_get_or 0 (wiped s k laid) cells (length-wiped s k laid ∙ length-pasted (2 * s) given cells) (λ p h. by_place p (ltb p (2 * s)) (ltb p (2 * (s + k))) refl refl)
    where
      w : 2 * s + length given ≤ 8192
      w = room_fits index 64 (length given) s ok.good (put-at cells index site given lc li ok)

      v : 2 * k ≡ length given
      v = whole_cells (length given) ok.good

      by_place : (p : ℕ) (a b : Bool) → ltb p (2 * s) ≡ a → ltb p (2 * (s + k)) ≡ b → get_or (wiped s k laid) p 0 ≡ get_or cells p 0
      by_place p true b e f =
          let l = ltb-true p (2 * s) e in
          wiped-off s k laid p (inl l) ∙ pasted-off (2 * s) given cells p (inl l)
      by_place p false true e f =
          let l = ltb-false p (2 * s) e in
          let m = ltb-true p (2 * (s + k)) f in
          wiped-on s k laid p l m (omega (arith, length-pasted (2 * s) given cells, w, v, lc)) ∙ was-zero p l m
      by_place p false false e f =
          let m = ltb-false p (2 * (s + k)) f in
          wiped-off s k laid p (inr m) ∙ pasted-off (2 * s) given cells p (inr (omega (arith, v)))

-- ---- what was dropped leaves its room

module _ (cells index : List ℕ) (site : ℕ) (lc : length cells ≡ 8192) (li : length index ≡ 193) (ok : DropPasses cells index site) where
  abbrev left : List ℕ
  left = drop_index index (entry_of index site)

  -- the same cells are held as where the entry is passed over
  left-held : (c : ℕ) → held left 64 (count left) c ≡ held index (entry_of index site) (count index) c
  left-held c = by-held (held index (entry_of index site) (count index) c) refl
    where
      few : count left ≤ 64
      few = omega (arith, left-count cells index site lc li ok, (drop-was cells index site lc li ok).few)

      by-held : (b : Bool) → held index (entry_of index site) (count index) c ≡ b → held left 64 (count left) c ≡ b
      by-held false e =
          not-held left 64 (count left) c
          (λ i h d.
          ap (λ (x : Site). covers x c) (from_is cells index site lc li ok i h)
          ∙ held-not index (entry_of index site) (count index) c e (cond (ltb i (entry_of index site)) i (i + 1)) (from-known cells index site lc li ok i h)
          (from-other cells index site lc li ok i))
      by-held true e = by-new (held left 64 (count left) c) refl
        where
          by-new : (b : Bool) → held left 64 (count left) c ≡ b → held left 64 (count left) c ≡ true
          by-new true f = f
          by-new false f =
              never_both (held index (entry_of index site) (count index) c) e
              (not-held index (entry_of index site) (count index) c
              (λ m h d.
              let q = drop-finds cells index site lc li ok m h d in
              sym (ap (λ (x : Site). covers x c) q.1)
              ∙ held-not left 64 (count left) c f (cond (ltb m (entry_of index site)) m (m - 1)) q.0 (λ g. omega (arith, q.0, few))))

  pub left-map : map_of left 64 (count left) ≡ map_of index (entry_of index site) (count index)
  unfolding map_of
  left-map =
      table-ext (held index (entry_of index site) (count index)) 4096 (map_of left 64 (count left)) (length-map left 64 (count left))
      (λ c h. map_at left 64 (count left) c h ∙ left-held c)

  -- so a put finds the run that a replace finds
  pub left-room : (len : ℕ) → room left 64 len ≡ room index (entry_of index site) len
  unfolding room
  left-room len = ap (lowest (len / 2) 0) left-map

  -- and the number is held no more
  pub left-absent : entry_of left site < count left → ⊥
  left-absent h =
      let w = drop-was cells index site lc li ok in
      let kn = drop-known cells index site lc li ok in
      let a =
      w.pairs (cond (ltb (entry_of left site) (entry_of index site)) (entry_of left site) (entry_of left site + 1)) (entry_of index site)
      (from-known cells index site lc li ok (entry_of left site) h) kn (from-other cells index site lc li ok (entry_of left site))
      in
      a.numbers
      (sym (ap (λ (x : Site). x.number) (from_is cells index site lc li ok (entry_of left site) h))
      ∙ find-is left site (count left) h
      ∙ sym (find-is index site (count index) kn))
