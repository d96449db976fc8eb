-- Laws of the index and its sites. Assumes nothing.
use mathlib.Core.Path.{◌≡◌, refl, sym, ap, ap₂, ◌∙◌}
use mathlib.Core.Bool.{Bool, true, false, ◌&&◌, and-false}
use mathlib.Core.List.{List}
use Prim.Native.Nat.{ℕ, zero, suc, ◌+◌, ◌-◌, ◌*◌, ◌≤◌, ◌<◌}
use mathlib.Core.Logic.{⊎_elim}
use native.Mathlib.Nat.{eq-or-lt_of_le}
use native.Mathlib.Numerals.{add-one}
use native.Mathlib.Omega.{arith}
use lib.Dec.{eqb}
use lib.ListN.{length, get_or, set, length-set}
use lib.Seq.{get_or-set_same, get_or-set_other}
use borrow.Author.Tests.{eq-eqb, ne_eqb}
use Rattle.slab_sites.specs.declared.Site.{Site}
use Rattle.slab_sites.specs.Every.{seek}
use Rattle.slab_sites.specs.Sites.{site_at, set_site, inside, apart, apart_from, each_apart, find_site, shifted}
use Rattle.slab_sites.proofs.EveryLaws.{both, every-none, every_more, every-bad, seek_hit, seek-miss, seek-end, seek-begin}

-- ---- one site, two sites

-- ---- the scans

module _ (index : List ℕ) (x : Site) where
  pub from-none : apart_from index x 0 ≡ true
  unfolding apart_from
  from-none = every-none (λ j. apart (site_at index j) x)

  pub from_more : (j : ℕ) {y : Site} {b : Bool} → apart_from index x j ≡ true → y ≡ site_at index j → b ≡ apart y x → b ≡ true
      → apart_from index x (j + 1) ≡ true
  unfolding apart_from
  from_more j i e f g = every_more (λ k. apart (site_at index k) x) j i (sym (ap (λ (z : Site). apart z x) e) ∙ sym f ∙ g)

  pub from-bad : (j n : ℕ) {y : Site} {b : Bool} → j < n → y ≡ site_at index j → b ≡ apart y x → b ≡ false → false ≡ apart_from index x n
  unfolding apart_from
  from-bad j n h e f g = sym (every-bad (λ k. apart (site_at index k) x) j n h (sym (ap (λ (z : Site). apart z x) e) ∙ sym f ∙ g))

pub from_end : (index : List ℕ) (x : Site) (j n : ℕ) → apart_from index x j ≡ true → j ≤ n → n ≤ j → true ≡ apart_from index x n
from_end index x j n e h l =
    let m : j ≡ n = omega arith in
    sym e ∙ ap (apart_from index x) m

module _ (index : List ℕ) where
  pub each_none : each_apart index 0 ≡ true
  unfolding each_apart
  each_none = every-none (λ i. inside (site_at index i) && apart_from index (site_at index i) i)

  module _ (i : ℕ) {x : Site} {a : Bool} (e : x ≡ site_at index i) (f : a ≡ inside x) where
    pub each-leaves : (n : ℕ) → i < n → a ≡ false → false ≡ each_apart index n
    unfolding each_apart
    each-leaves n h g =
        let o : inside (site_at index i) ≡ false = sym (ap inside e) ∙ sym f ∙ g in
        sym (every-bad (λ j. inside (site_at index j) && apart_from index (site_at index j) j) i n h (ap (λ (t : Bool). t && apart_from index (site_at index i) i) o))

    module _ {b : Bool} (g : b ≡ apart_from index x i) where
      pub each-meets : (n : ℕ) → i < n → b ≡ false → false ≡ each_apart index n
      unfolding each_apart
      each-meets n h o =
          let w : apart_from index (site_at index i) i ≡ false = sym (ap (λ (y : Site). apart_from index y i) e) ∙ sym g ∙ o in
          sym
          (every-bad (λ j. inside (site_at index j) && apart_from index (site_at index j) j) i n h
          (ap (λ (t : Bool). inside (site_at index i) && t) w ∙ and-false (inside (site_at index i))))

      pub each_more : each_apart index i ≡ true → a ≡ true → b ≡ true → each_apart index (i + 1) ≡ true
      unfolding each_apart
      each_more u v w =
          every_more (λ j. inside (site_at index j) && apart_from index (site_at index j) j) i u
          (both _ _ (sym (ap inside e) ∙ sym f ∙ v) (sym (ap (λ (y : Site). apart_from index y i) e) ∙ sym g ∙ w))

pub each-end : (index : List ℕ) (i n : ℕ) → each_apart index i ≡ true → i ≤ n → n ≤ i → true ≡ each_apart index n
each-end index i n e h l =
    let m : i ≡ n = omega arith in
    sym e ∙ ap (each_apart index) m

-- ---- the entry of a number

-- i of n entries are passed
unfoldable pub seek_site : List ℕ → ℕ → ℕ → ℕ → ℕ
seek_site index number n i = seek (λ j. eqb (site_at index j).number number) i (n - i)

module _ (index : List ℕ) (number n : ℕ) where
  pub find-begin : seek_site index number n 0 ≡ find_site index number n
  unfolding seek_site find_site
  find-begin = seek-begin (λ j. eqb (site_at index j).number number) n

  module _ (i : ℕ) (o : seek_site index number n i ≡ find_site index number n) where
    pub find-hit : {x : Site} → i < n → x ≡ site_at index i → x.number ≡ number → i ≡ find_site index number n
    unfolding seek_site
    find-hit h e f =
        seek_hit (λ j. eqb (site_at index j).number number) n i (find_site index number n) o h
        (eq-eqb (site_at index i).number number (sym (ap (λ (z : Site). z.number) e) ∙ f))

    pub find-miss : {x : Site} → i < n → x ≡ site_at index i → (x.number ≡ number → ⊥) → seek_site index number n (i + 1) ≡ find_site index number n
    unfolding seek_site
    find-miss h e f =
        seek-miss (λ j. eqb (site_at index j).number number) n i (find_site index number n) o h
        (ne_eqb (site_at index i).number number (λ g. f (ap (λ (z : Site). z.number) e ∙ g)))

    pub find-end : i ≤ n → n ≤ i → n ≡ find_site index number n
    unfolding seek_site
    find-end h l = seek-end (λ j. eqb (site_at index j).number number) n i (find_site index number n) o h l

-- ---- entries that move down

pub shift_none : (index : List ℕ) (i : ℕ) → index ≡ shifted index i 0
unfolding shifted
shift_none index i = refl

-- ---- an entry after a store

three : {a b c d e f : ℕ} → a ≡ d → b ≡ e → c ≡ f → ◌≡◌ {A = Site} (record { number = a; start = b; cells = c }) (record { number = d; start = e; cells = f })
three p q r = rw (p, q, r)

module _ (index : List ℕ) (i : ℕ) (x : Site) where
  -- a number of the index that is none of the entry's
  pub set-elsewhere : (k : ℕ) → (k ≡ 1 + 3 * i → ⊥) → (k ≡ 2 + 3 * i → ⊥) → (k ≡ 3 + 3 * i → ⊥) → get_or (set_site index i x) k 0 ≡ get_or index k 0
  set-elsewhere k n o p =
      get_or-set_other (set (set index (1 + 3 * i) x.number) (2 + 3 * i) x.start) (3 + 3 * i) k x.cells 0 p
      ∙ get_or-set_other (set index (1 + 3 * i) x.number) (2 + 3 * i) k x.start 0 o
      ∙ get_or-set_other index (1 + 3 * i) k x.number 0 n

  -- another entry stays
  pub set_other : (j : ℕ) → (j ≡ i → ⊥) → site_at (set_site index i x) j ≡ site_at index j
  set_other j n =
      three
      (set-elsewhere (1 + 3 * j) (λ e. n (omega arith)) (λ e. omega arith) (λ e. omega arith))
      (set-elsewhere (2 + 3 * j) (λ e. omega arith) (λ e. n (omega arith)) (λ e. omega arith))
      (set-elsewhere (3 + 3 * j) (λ e. omega arith) (λ e. omega arith) (λ e. n (omega arith)))

  pub length-set-site : length (set_site index i x) ≡ length index
  length-set-site = simp length-set

  -- the entry is read back
  pub set_same : 3 + 3 * i < length index → site_at (set_site index i x) i ≡ x
  set_same h =
      let one = set index (1 + 3 * i) x.number in
      let two = set one (2 + 3 * i) x.start in
      let l₁ : length one ≡ length index = length-set index (1 + 3 * i) x.number in
      let l₂ : length two ≡ length index = length-set one (2 + 3 * i) x.start ∙ l₁ in
      three
      (get_or-set_other two (3 + 3 * i) (1 + 3 * i) x.cells 0 (λ e. omega arith)
      ∙ get_or-set_other one (2 + 3 * i) (1 + 3 * i) x.start 0 (λ e. omega arith)
      ∙ get_or-set_same index (1 + 3 * i) x.number 0 (omega arith))
      (get_or-set_other two (3 + 3 * i) (2 + 3 * i) x.cells 0 (λ e. omega arith) ∙ get_or-set_same one (2 + 3 * i) x.start 0 (omega (arith, l₁)))
      (get_or-set_same two (3 + 3 * i) x.cells 0 (omega (arith, l₂)))

module _ (index : List ℕ) (i : ℕ) where
  -- the entries that have not moved yet
  pub shift_behind : (m j : ℕ) → i + m ≤ j → site_at (shifted index i m) j ≡ site_at index j
  unfolding shifted
  shift_behind zero j h = refl
  shift_behind (suc m) j h = set_other (shifted index i m) (i + m) (site_at index (i + m + 1)) j (λ e. omega arith) ∙ shift_behind m j (omega arith)

  pub shift-more : (t : ℕ) {now next : List ℕ} {x : Site} → now ≡ shifted index i t → x ≡ site_at now (i + t + 1) → next ≡ set_site now (i + t) x
      → next ≡ shifted index i (t + 1)
  unfolding shifted
  shift-more t {now} {next} {x} e f g =
      let o : x ≡ site_at index (i + t + 1) = f ∙ ap (λ (l : List ℕ). site_at l (i + t + 1)) e ∙ shift_behind t (i + t + 1) (omega arith) in
      rw add-one (g ∙ ap₂ (λ (l : List ℕ) (y : Site). set_site l (i + t) y) e o)

  pub shift-end : (t m : ℕ) {now : List ℕ} → now ≡ shifted index i t → t ≤ m → m ≤ t → now ≡ shifted index i m
  shift-end t m e h l =
      let k : t ≡ m = omega arith in
      e ∙ ap (shifted index i) k

  -- the entries before the gap stay
  pub shift-low : (m j : ℕ) → j < i → site_at (shifted index i m) j ≡ site_at index j
  unfolding shifted
  shift-low zero j h = refl
  shift-low (suc m) j h = set_other (shifted index i m) (i + m) (site_at index (i + m + 1)) j (λ e. omega arith) ∙ shift-low m j h

  pub length-shifted : (m : ℕ) → length (shifted index i m) ≡ length index
  unfolding shifted
  length-shifted zero = refl
  length-shifted (suc m) = length-set-site (shifted index i m) (i + m) (site_at index (i + m + 1)) ∙ length-shifted m

  -- those behind it have moved down by one
  pub shift-moved : (m j : ℕ) → i ≤ j → j < i + m → 3 * (i + m) < length index → site_at (shifted index i m) j ≡ site_at index (j + 1)
  unfolding shifted
  shift-moved zero j h l b = absurd (omega arith)
  shift-moved (suc m) j h l b =
      ⊎_elim
      (λ (e : j ≡ i + m).
      ap (site_at (set_site (shifted index i m) (i + m) (site_at index (i + m + 1)))) e
      ∙ set_same (shifted index i m) (i + m) (site_at index (i + m + 1)) (omega (arith, length-shifted m))
      ∙ ap (λ (x : ℕ). site_at index (x + 1)) (sym e))
      (λ (e : j < i + m).
      set_other (shifted index i m) (i + m) (site_at index (i + m + 1)) j (λ o. omega arith) ∙ shift-moved m j h e (omega arith))
      (eq-or-lt_of_le (omega arith))

-- the count is no part of an entry
pub count-apart : (index : List ℕ) (v j : ℕ) → site_at (set index 0 v) j ≡ site_at index j
count-apart index v j =
    three
    (get_or-set_other index 0 (1 + 3 * j) v 0 (λ e. omega arith))
    (get_or-set_other index 0 (2 + 3 * j) v 0 (λ e. omega arith))
    (get_or-set_other index 0 (3 + 3 * j) v 0 (λ e. omega arith))
