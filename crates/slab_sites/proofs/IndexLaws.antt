-- What the tests of the index say of its sites, as facts. Assumes nothing.
use mathlib.Core.Path.{◌≡◌, refl, sym, ap, ◌∙◌}
use mathlib.Core.Bool.{Bool, true, false, not, ◌&&◌, ◌||◌}
use mathlib.Core.List.{List}
use mathlib.Core.Logic.{◌⊎◌, inl, inr, ⊎_elim}
use Prim.Native.Nat.{ℕ, ◌+◌, ◌≤◌, ◌<◌}
use native.Mathlib.Omega.{arith}
use lib.Dec.{leb, ltb, eqb}
use borrow.Author.Tests.{ne_eqb, le-leb, lt-ltb, leb-true, leb-false, ltb-true, ltb-false, eqb-true, eqb-false, not-true}
use Rattle.slab_sites.specs.declared.Site.{Site}
use Rattle.slab_sites.specs.Sites.{site_at, covers, inside, apart, apart_from, each_apart, held, find_site}
use Rattle.slab_sites.proofs.EveryLaws.{both, first_of, second-of, never_both, not_so, every-at, every-all, some-not, some-none, seek-before, seek_found, seek-bound}

-- ---- one site

pub record Inside (x : Site) : Type 0 where
  pub not-empty : 1 ≤ x.cells
  pub within : x.start + x.cells ≤ 4096

pub inside-says : (x : Site) → inside x ≡ true → Inside x
inside-says x e =
    let n = eqb-false x.cells 0 (not-true (eqb x.cells 0) (first_of (not (eqb x.cells 0)) (leb (x.start + x.cells) 4096) e)) in
    record {
      not-empty = omega (arith, n);
      within = leb-true (x.start + x.cells) 4096 (second-of (not (eqb x.cells 0)) (leb (x.start + x.cells) 4096) e);
    }

pub says-inside : (x : Site) → Inside x → inside x ≡ true
says-inside x h = rw (ne_eqb x.cells 0 (λ e. omega (arith, h.not-empty)), le-leb (x.start + x.cells) 4096 h.within)

-- ---- a site and a cell

pub covers-says : (x : Site) (c : ℕ) → covers x c ≡ true → (x.start ≤ c) × (c < x.start + x.cells)
covers-says x c e =
    (leb-true x.start c (first_of (leb x.start c) (ltb c (x.start + x.cells)) e), ltb-true c (x.start + x.cells) (second-of (leb x.start c) (ltb c (x.start + x.cells)) e))

pub says-covers : (x : Site) (c : ℕ) → x.start ≤ c → c < x.start + x.cells → covers x c ≡ true
says-covers x c h l = both (leb x.start c) (ltb c (x.start + x.cells)) (le-leb x.start c h) (lt-ltb c (x.start + x.cells) l)

pub covers-not : (x : Site) (c : ℕ) → covers x c ≡ false → (c < x.start) ⊎ (x.start + x.cells ≤ c)
covers-not x c e = by-start (leb x.start c) refl
  where
    by-start : (b : Bool) → leb x.start c ≡ b → (c < x.start) ⊎ (x.start + x.cells ≤ c)
    by-start false f = inl (leb-false x.start c f)
    by-start true f = inr (by_end (ltb c (x.start + x.cells)) refl)
      where
        by_end : (b : Bool) → ltb c (x.start + x.cells) ≡ b → x.start + x.cells ≤ c
        by_end false g = ltb-false c (x.start + x.cells) g
        by_end true g = never_both (covers x c) (both (leb x.start c) (ltb c (x.start + x.cells)) f g) e

pub off-it : (x : Site) (c : ℕ) → (c < x.start) ⊎ (x.start + x.cells ≤ c) → covers x c ≡ false
off-it x c h = not_so (covers x c) (λ e. let p = covers-says x c e in ⊎_elim (λ (l : c < x.start). omega (arith, p.0)) (λ (l : x.start + x.cells ≤ c). omega (arith, p.1)) h)

-- ---- two sites

pub record Apart (a b : Site) : Type 0 where
  pub numbers : a.number ≡ b.number → ⊥
  pub rooms : (a.start + a.cells ≤ b.start) ⊎ (b.start + b.cells ≤ a.start)

pub apart-says : (a b : Site) → apart a b ≡ true → Apart a b
apart-says a b e =
    let n = first_of (not (eqb a.number b.number)) (leb (a.start + a.cells) b.start || leb (b.start + b.cells) a.start) e in
    let r = second-of (not (eqb a.number b.number)) (leb (a.start + a.cells) b.start || leb (b.start + b.cells) a.start) e in
    record { numbers = eqb-false a.number b.number (not-true (eqb a.number b.number) n); rooms = by_first (leb (a.start + a.cells) b.start) refl r }
  where
    by_first : (t : Bool) → leb (a.start + a.cells) b.start ≡ t → (t || leb (b.start + b.cells) a.start) ≡ true
        → (a.start + a.cells ≤ b.start) ⊎ (b.start + b.cells ≤ a.start)
    by_first true f g = inl (leb-true (a.start + a.cells) b.start f)
    by_first false f g = inr (leb-true (b.start + b.cells) a.start g)

pub says-apart : (a b : Site) → Apart a b → apart a b ≡ true
says-apart a b h = rw (ne_eqb a.number b.number h.numbers) (⊎_elim
    (λ (l : a.start + a.cells ≤ b.start). ap (λ (t : Bool). t || leb (b.start + b.cells) a.start) (le-leb (a.start + a.cells) b.start l))
    (λ (l : b.start + b.cells ≤ a.start). ap (λ (t : Bool). leb (a.start + a.cells) b.start || t) (le-leb (b.start + b.cells) a.start l) ∙ any-true (leb (a.start + a.cells) b.start))
    h.rooms)
  where
    any-true : (t : Bool) → (t || true) ≡ true
    any-true true = refl
    any-true false = refl

pub apart-back : {a b : Site} → Apart a b → Apart b a
apart-back h = record { numbers = λ e. h.numbers (sym e); rooms = ⊎_elim (λ l. inr l) (λ l. inl l) h.rooms }

-- a run of cells none of which the site covers lies before it or behind it
pub off-run : (x : Site) (s k : ℕ) → 1 ≤ x.cells → 1 ≤ k → ((c : ℕ) → s ≤ c → c < s + k → covers x c ≡ false)
    → (x.start + x.cells ≤ s) ⊎ (s + k ≤ x.start)
off-run x s k h l f = by_end (leb (x.start + x.cells) s) refl
  where
    meets : (c : ℕ) → s ≤ c → c < s + k → x.start ≤ c → c < x.start + x.cells → ⊥
    meets c a b d e = never_both (covers x c) (says-covers x c d e) (f c a b)

    by-start : (b : Bool) → s < x.start + x.cells → leb x.start s ≡ b → s + k ≤ x.start
    by-start true g i = absurd (meets s (omega arith) (omega arith) (leb-true x.start s i) g)
    by-start false g i = by-run (leb (s + k) x.start) refl
      where
        by-run : (b : Bool) → leb (s + k) x.start ≡ b → s + k ≤ x.start
        by-run true j = leb-true (s + k) x.start j
        by-run false j =
            let p = leb-false (s + k) x.start j in
            let q = leb-false x.start s i in
            absurd (meets x.start (omega arith) p (omega arith) (omega arith))

    by_end : (b : Bool) → leb (x.start + x.cells) s ≡ b → (x.start + x.cells ≤ s) ⊎ (s + k ≤ x.start)
    by_end true g = inl (leb-true (x.start + x.cells) s g)
    by_end false g = inr (by-start (leb x.start s) (leb-false (x.start + x.cells) s g) refl)

-- ---- all sites

module _ (index : List ℕ) (n : ℕ) (e : each_apart index n ≡ true) where
  step : (i : ℕ) → i < n → (inside (site_at index i) && apart_from index (site_at index i) i) ≡ true
  unfolding each_apart
  step i h = every-at (λ j. inside (site_at index j) && apart_from index (site_at index j) j) n i e h

  pub each-inside : (i : ℕ) → i < n → Inside (site_at index i)
  each-inside i h = inside-says (site_at index i) (first_of (inside (site_at index i)) (apart_from index (site_at index i) i) (step i h))

  before : (j i : ℕ) → j < i → i < n → Apart (site_at index j) (site_at index i)
  unfolding apart_from
  before j i h l =
      apart-says (site_at index j) (site_at index i)
      (every-at (λ k. apart (site_at index k) (site_at index i)) i j (second-of (inside (site_at index i)) (apart_from index (site_at index i) i) (step i l)) h)

  pub each-pair : (j i : ℕ) → j < n → i < n → (j ≡ i → ⊥) → Apart (site_at index j) (site_at index i)
  each-pair j i h l d = by_order (ltb j i) refl
    where
      by_order : (b : Bool) → ltb j i ≡ b → Apart (site_at index j) (site_at index i)
      by_order true f = before j i (ltb-true j i f) l
      by_order false f =
          let g = ltb-false j i f in
          apart-back (before i j (omega (arith, d)) h)

pub each_all : (index : List ℕ) (n : ℕ) → ((i : ℕ) → i < n → Inside (site_at index i)) → ((j i : ℕ) → j < i → i < n → Apart (site_at index j) (site_at index i))
    → each_apart index n ≡ true
unfolding each_apart apart_from
each_all index n f g =
    every-all (λ i. inside (site_at index i) && apart_from index (site_at index i) i) n
    (λ i h.
    both (inside (site_at index i)) (apart_from index (site_at index i) i) (says-inside (site_at index i) (f i h))
    (every-all (λ j. apart (site_at index j) (site_at index i)) i (λ j l. says-apart (site_at index j) (site_at index i) (g j i l h))))

-- ---- held cells

module _ (index : List ℕ) (skip n c : ℕ) where
  pub held-not : held index skip n c ≡ false → (i : ℕ) → i < n → (i ≡ skip → ⊥) → covers (site_at index i) c ≡ false
  unfolding held
  held-not e i h d =
      sym (ap (λ (b : Bool). not b && covers (site_at index i) c) (ne_eqb i skip d)) ∙ some-not (λ j. not (eqb j skip) && covers (site_at index j) c) n i e h

  pub not-held : ((i : ℕ) → i < n → (i ≡ skip → ⊥) → covers (site_at index i) c ≡ false) → held index skip n c ≡ false
  unfolding held
  not-held f = some-none (λ j. not (eqb j skip) && covers (site_at index j) c) n (λ i h. by-skip i h (eqb i skip) refl)
    where
      by-skip : (i : ℕ) → i < n → (b : Bool) → eqb i skip ≡ b → (not b && covers (site_at index i) c) ≡ false
      by-skip i h true e = refl
      by-skip i h false e = f i h (eqb-false i skip e)

-- ---- the entry of a number

module _ (index : List ℕ) (number n : ℕ) where
  pub find-bound : find_site index number n ≤ n
  unfolding find_site
  find-bound = omega (arith, seek-bound (λ j. eqb (site_at index j).number number) n 0)

  pub find-is : find_site index number n < n → (site_at index (find_site index number n)).number ≡ number
  unfolding find_site
  find-is h =
      eqb-true (site_at index (find_site index number n)).number number
      (seek_found (λ j. eqb (site_at index j).number number) n 0 (omega arith))

  pub find-before : (j : ℕ) → j < find_site index number n → (site_at index j).number ≡ number → ⊥
  unfolding find_site
  find-before j h = eqb-false (site_at index j).number number (seek-before (λ k. eqb (site_at index k).number number) n 0 j (omega arith) h)
