-- Laws of the texts. Assumes nothing.
use mathlib.Core.Path.{◌≡◌, refl, sym, ap, ap₂, subst, ◌∙◌}
use mathlib.Core.Bool.{Bool, true, false, cond}
use mathlib.Core.List.{List, [], ◌∷◌, ◌++◌, append_assoc}
use Prim.Native.Nat.{ℕ, zero, suc, ◌+◌, ◌-◌, ◌*◌, ◌/◌, ◌%◌, ◌^◌, ◌≤◌, ◌<◌}
use native.Mathlib.Nat.{add_assoc, pow-suc, pow-le-pow_right}
use native.Mathlib.Numerals.{add-one}
use native.Mathlib.Omega.{arith}
use borrow.Author.Tests.{ltb-true, ltb-false}
use borrow.Rule.Slice.PartMut.{put_mid}
use lib.Dec.{ltb}
use lib.ListN.{length, set, take, drop, length-append, length-drop}
use lib.Seq.{take_at, drop_at, drop-drop, length-take-le, set_split, append_snoc, paste-zero}
use Rattle.io.specs.Digits.{last_digits, IsDigitCount}
use Rattle.texts.specs.Text.{put, Puts, places, decimal, digit, hex, item_text, line, pair_line}

module _ (at : ℕ) (t d : List ℕ) (room : at + length t ≤ length d) where
  length_front : length (take at d ++ t) ≡ at + length t
  length_front = length-append (take at d) t ∙ omega (arith, length-take-le at d (omega arith))

  pub length-put : length (put at t d) ≡ length d
  unfolding put
  length-put = length-append (take at d ++ t) (drop (at + length t) d) ∙ omega (arith, length_front, length-drop (at + length t) d)

  -- a text and then another
  pub put-put : (u : List ℕ) → put (at + length t) u (put at t d) ≡ put at (t ++ u) d
  unfolding put
  put-put u =
      let rest = drop (at + length t) d in
      let front : take (at + length t) (take at d ++ t ++ rest) ≡ take at d ++ t = take_at (take at d ++ t) rest _ length_front in
      let back : drop (at + length t + length u) (take at d ++ t ++ rest) ≡ drop (at + length (t ++ u)) d =
      sym (drop-drop (length u) (at + length t) (take at d ++ t ++ rest))
      ∙ ap (drop (length u)) (drop_at (take at d ++ t) rest _ length_front)
      ∙ drop-drop (length u) (at + length t) d
      ∙ ap (λ (n : ℕ). drop n d) (add_assoc at (length t) (length u) ∙ ap (λ (n : ℕ). at + n) (sym (length-append t u))) in
      ap₂ (λ (a b : List ℕ). a ++ u ++ b) front back
      ∙ ap (λ (a : List ℕ). a ++ drop (at + length (t ++ u)) d) (append_assoc (take at d) t u)

pub put_one : (i a : ℕ) (d : List ℕ) → i < length d → set d i a ≡ put i (a ∷ []) d
unfolding put
put_one i a d h = set_split d i a h ∙ sym (append_snoc (take i d) a (drop (suc i) d)) ∙ ap (λ (n : ℕ). take i d ++ a ∷ [] ++ drop n d) (sym (add-one i))

-- a byte after a text
pub put_next : (at : ℕ) (t d : List ℕ) (g : ℕ) → at + length t < length d → set (put at t d) (at + length t) g ≡ put at (t ++ g ∷ []) d
put_next at t d g h =
    let r : at + length t ≤ length d = omega arith in
    put_one (at + length t) g (put at t d) (omega (arith, length-put at t d r)) ∙ put-put at t d r (g ∷ [])

-- what a loop that puts a text begins with
pub put-none : (at : ℕ) (d : List ℕ) → d ≡ put at [] d
unfolding put
put-none at d = paste-zero d at []

-- a text copied to a place
pub copied : (at k : ℕ) (t ys old : List ℕ) → ys ≡ t → k ≡ length t → Puts at t old (at + length t) (put_mid at k old ys)
unfolding put
copied at k t ys old e f = record {
  next = refl;
  cells =
      ap₂ (λ (y : List ℕ) (m : ℕ). take at old ++ (y ++ drop m (drop at old))) e f
      ∙ ap (λ (rest : List ℕ). take at old ++ (t ++ rest)) (drop-drop (length t) at old)
      ∙ sym (append_assoc (take at old) t (drop (at + length t) old));
}

pub puts_then : (at r s : ℕ) (t u old mid new : List ℕ) → at + length t ≤ length old → Puts at t old r mid → Puts r u mid s new → Puts at (t ++ u) old s new
puts_then at r s t u old mid new room p q = record {
  next = omega (arith, length-append t u, p.next, q.next);
  cells = q.cells ∙ ap₂ (λ (n : ℕ) (l : List ℕ). put n u l) p.next p.cells ∙ put-put at t old room u;
}

-- how many digits: the fewest that hold the number
ten-power : (j : ℕ) → 10 ≤ 10 ^ suc j
ten-power j = pow-le-pow_right {n = 10} (omega arith) {i = 1} {j = suc j} (omega arith)

least : (j n : ℕ) → IsDigitCount 10 1 n (suc (suc j)) → 10 ^ suc j ≤ n
least j n f =
    let e : suc (suc j) - 1 ≡ suc j = omega arith in
    subst (λ (m : ℕ). 10 ^ m ≤ n) e (f.2 (omega arith))

one_place : (n k : ℕ) → n < 10 → IsDigitCount 10 1 n k → k ≡ 1
one_place n zero l f = absurd (omega arith)
one_place n (suc zero) l f = refl
one_place n (suc (suc j)) l f = absurd (omega (arith, least j n f, ten-power j))

-- a number of ten or more: its tenth takes a place less
tenth : (n j : ℕ) → IsDigitCount 10 1 n (suc (suc j)) → IsDigitCount 10 1 (n / 10) (suc j)
tenth n j f = (
  omega arith,
  omega (arith, pow-suc 10 (suc j), f.1),
  λ h. let e : suc j - 1 ≡ j = omega arith in
      subst (λ (m : ℕ). 10 ^ m ≤ n / 10) (sym e) (omega (arith, least j n f, pow-suc 10 j)),
)

more-places : (n k x : ℕ) → 10 ≤ n → IsDigitCount 10 1 n k → ((j : ℕ) → IsDigitCount 10 1 (n / 10) (suc j) → suc j ≡ x) → k ≡ suc x
more-places n zero x l g ih = absurd (omega (arith, g.0))
more-places n (suc zero) x l g ih = absurd (omega (arith, g.1))
more-places n (suc (suc j)) x l g ih = ap suc (ih j (tenth n j g))

pub places-fewest : (most n k : ℕ) → n < 10 ^ suc most → IsDigitCount 10 1 n k → k ≡ places most n
unfolding places
places-fewest zero n k h f = one_place n k (omega arith) f
places-fewest (suc most) n k h f = go (ltb n 10) refl (λ j g. places-fewest most (n / 10) (suc j) (omega (arith, pow-suc 10 (suc most))) g)
  where
    go : (t : Bool) → ltb n 10 ≡ t → ((j : ℕ) → IsDigitCount 10 1 (n / 10) (suc j) → suc j ≡ places most (n / 10)) → k ≡ cond t 1 (suc (places most (n / 10)))
    go true e ih = one_place n k (ltb-true n 10 e) f
    go false e ih = more-places n k _ (ltb-false n 10 e) f ih

pub length_digits : (k n : ℕ) → length (last_digits 10 k n) ≡ k
length_digits zero n = refl
length_digits (suc k) n = length-append (last_digits 10 k (n / 10)) _ ∙ omega (arith, length_digits k (n / 10))

places-most : (most n : ℕ) → places most n ≤ suc most
unfolding places
places-most zero n = omega arith
places-most (suc most) n = go (ltb n 10) (places-most most (n / 10))
  where
    go : (t : Bool) → places most (n / 10) ≤ suc most → cond t 1 (suc (places most (n / 10))) ≤ suc (suc most)
    go true h = omega arith
    go false h = omega arith

pub length-decimal : (n : ℕ) → length (decimal n) ≤ 20
unfolding decimal
length-decimal n = omega (arith, length_digits (places 19 n) n, places-most 19 n)

pub length-hex : (m b : ℕ) → length (hex m b) ≡ m
unfolding hex
length-hex zero b = refl
length-hex (suc m) b = length-append (hex m b) _ ∙ omega (arith, length-hex m b)

pub hex-more : (m b : ℕ) → hex m b ++ digit (b / 2 ^ (60 - 4 * m) % 16) ∷ [] ≡ hex (m + 1) b
unfolding hex
hex-more m b = rw add-one

pub length-item : (w : List ℕ) (n : ℕ) → length (item_text w n) ≤ length w + 20
unfolding item_text
length-item w n = omega (arith, length-append w (decimal n), length-decimal n)

-- the loop that puts a word's digits, the same
pub hex-none : (at b : ℕ) (d : List ℕ) → d ≡ put at (hex 0 b) d
unfolding hex
hex-none at b d = put-none at d

pub hex-step : (at m b g : ℕ) (d out : List ℕ) → at + 16 ≤ length d → m < 16 → out ≡ put at (hex m b) d → g ≡ digit (b / 2 ^ (60 - 4 * m) % 16)
    → set out (at + m) g ≡ put at (hex (m + 1) b) d
hex-step at m b g d out room h e p =
    let l = length-hex m b in
    ap (λ (o : List ℕ). set o (at + m) g) e
    ∙ ap (λ (n : ℕ). set (put at (hex m b) d) (at + n) g) (sym l)
    ∙ put_next at (hex m b) d g (omega arith)
    ∙ ap (λ (x : ℕ). put at (hex m b ++ x ∷ []) d) p
    ∙ ap (λ (t : List ℕ). put at t d) (hex-more m b)

pub hex-end : (at m b : ℕ) (d out : List ℕ) → m ≡ 16 → out ≡ put at (hex m b) d → Puts at (hex 16 b) d (at + 16) out
hex-end at m b d out h e = record { next = omega (arith, length-hex 16 b); cells = e ∙ ap (λ (n : ℕ). put at (hex n b) d) h }

-- what `io::decimal` writes
pub decimal-is : (n m k : ℕ) (t : List ℕ) → n < 2 ^ 64 → m ≡ n → IsDigitCount 10 1 m k → t ≡ last_digits 10 k m → t ≡ decimal n
unfolding decimal
decimal-is n m k t h e f p =
    p ∙ ap₂ (λ (k n : ℕ). last_digits 10 k n) (places-fewest 19 m k (omega arith) f ∙ ap (places 19) e) e

pub puts-as : (at r : ℕ) (t u old new : List ℕ) → t ≡ u → Puts at t old r new → Puts at u old r new
puts-as at r t u old new e p = record {
  next = p.next ∙ ap (λ (s : List ℕ). at + length s) e;
  cells = p.cells ∙ ap (λ (s : List ℕ). put at s old) e;
}

-- a loop of calls that put one text after another: what it begins with
pub puts_none : (at : ℕ) (d : List ℕ) → Puts at [] d at d
puts_none at d = record { next = omega arith; cells = put-none at d }

-- how far a text reaches
pub length-puts : (at r : ℕ) (t old new : List ℕ) → at + length t ≤ length old → Puts at t old r new → length new ≡ length old
length-puts at r t old new room p = ap length p.cells ∙ length-put at t old room

-- how long the lines are
pub length-line : (w : List ℕ) (a : ℕ) → length (line w a) ≤ length w + 21
unfolding line
length-line w a = omega (arith, length-append (item_text w a) (10 ∷ []), length-item w a)

pub length-pair : (w : List ℕ) (a b : ℕ) → length (pair_line w a b) ≤ length w + 42
unfolding pair_line
length-pair w a b = omega (arith, length-append (item_text w a) (line (32 ∷ []) b), length-item w a, length-line (32 ∷ []) b)

-- only one outcome satisfies the contract of a call that puts a text
pub puts_one : (at : ℕ) (t old : List ℕ) (r s : ℕ) (new other : List ℕ) → Puts at t old r new → Puts at t old s other → (r ≡ s) × (new ≡ other)
puts_one at t old r s new other p q = (p.next ∙ sym q.next, p.cells ∙ sym q.cells)
