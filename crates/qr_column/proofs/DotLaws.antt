-- Laws of what `specs/Dot.antt` defines. Assumes nothing.
use mathlib.Core.Path.{◌≡◌, refl}
use mathlib.Core.List.{List}
use Prim.Native.Nat.{ℕ, ◌+◌, ◌*◌, ◌/◌, ◌%◌}
use native.Mathlib.Numerals.{add-one}
use lib.Ieee.{Float}
use Rattle.complex.specs.declared.Complex.{Complex}
use Rattle.qr_column.specs.declared.Sums.{Sums}
use Rattle.qr_column.specs.Dot.{no_sums, add_quad, add_first, joined, dot_term, quads_to, tail_to, dot_of}

-- ---- laws

pub quads_to-none : (q : List Float) (o : ℕ) (v : List Float) → no_sums ≡ quads_to q o v 0
unfolding quads_to
quads_to-none q o v = refl

pub quads_to-more : (q : List Float) (o : ℕ) (v : List Float) (k : ℕ) {a b : Sums} {x y z w : Complex} → a ≡ quads_to q o v k
    → x ≡ dot_term q o v (4 * k) → y ≡ dot_term q o v (4 * k + 1) → z ≡ dot_term q o v (4 * k + 2) → w ≡ dot_term q o v (4 * k + 3)
    → b ≡ add_quad a x y z w → b ≡ quads_to q o v (k + 1)
unfolding quads_to
quads_to-more q o v k e f g h i j = rw (add-one, ← e, ← f, ← g, ← h, ← i) j

pub tail_to-none : (q : List Float) (o : ℕ) (v : List Float) (s : ℕ) (a : Sums) → a ≡ tail_to q o v s a 0
unfolding tail_to
tail_to-none q o v s a = refl

pub tail_to-more : (q : List Float) (o : ℕ) (v : List Float) (s : ℕ) (a : Sums) (k : ℕ) {b d : Sums} {x : Complex} → b ≡ tail_to q o v s a k
    → x ≡ dot_term q o v (s + k) → d ≡ add_first b x → d ≡ tail_to q o v s a (k + 1)
unfolding tail_to
tail_to-more q o v s a k e f g = rw (add-one, ← e, ← f) g

pub dot-made : (q : List Float) (o : ℕ) (v : List Float) (rows n j : ℕ) {a b : Sums} {r : Complex} → n ≡ rows / 4 → j ≡ rows % 4
    → a ≡ quads_to q o v n → b ≡ tail_to q o v (4 * n) a j → r ≡ joined b → r ≡ dot_of q o v rows
unfolding dot_of
dot-made q o v rows n j e f g h i = rw (← e, ← f, ← g, ← h) i
