-- Laws of `bit_and` and `bit_or` that `lib.Bits` has not: association, distribution, absorption, and what it is to be a submask.
-- Each is one digit's law, and induction on the digits. Assumes nothing.
use Rattle.std.proofs.Common.{◌≡◌, ℕ, suc, ◌/◌, ◌%◌, ◌^◌, min, max, sym, refl, ap, ◌∙◌, ap₂, arith}
use native.Mathlib.Nat.{zero-div}
use lib.Arith.{bin_ind}
use lib.Bits.{bit_and, bit_or, and_step, or_step, and_zero_l, or_zero_l, or_comm, or_shr, and_shr}
use Rattle.submasks.proofs.SubmaskLaws.{shr-suc}

-- the halves and the lowest digits
pub or-half : (a b : ℕ) → bit_or a b / 2 ≡ bit_or (a / 2) (b / 2)
or-half a b = omega (arith, or_step a b)

pub or-low : (a b : ℕ) → bit_or a b % 2 ≡ max (a % 2) (b % 2)
or-low a b = omega (arith, or_step a b)

pub and-half : (a b : ℕ) → bit_and a b / 2 ≡ bit_and (a / 2) (b / 2)
and-half a b = omega (arith, and_step a b)

pub and_low : (a b : ℕ) → bit_and a b % 2 ≡ min (a % 2) (b % 2)
and_low a b = omega (arith, and_step a b)

-- two numbers with the same half and the same lowest digit
same : {x y : ℕ} → x / 2 ≡ y / 2 → x % 2 ≡ y % 2 → x ≡ y
same p q = omega arith

pub or_assoc : (a b c : ℕ) → bit_or (bit_or a b) c ≡ bit_or a (bit_or b c)
or_assoc =
    bin_ind (λ (a : ℕ). (b c : ℕ) → bit_or (bit_or a b) c ≡ bit_or a (bit_or b c))
    (λ b c. rw (or_zero_l b, or_zero_l (bit_or b c)))
    (λ a ih b c.
    same
    (or-half (bit_or a b) c ∙ ap (λ (x : ℕ). bit_or x (c / 2)) (or-half a b) ∙ ih (b / 2) (c / 2)
    ∙ ap (bit_or (a / 2)) (sym (or-half b c)) ∙ sym (or-half a (bit_or b c)))
    (omega (arith, or-low (bit_or a b) c, or-low a b, or-low b c, or-low a (bit_or b c))))

pub and-or : (a b m : ℕ) → bit_and (bit_or a b) m ≡ bit_or (bit_and a m) (bit_and b m)
and-or =
    bin_ind (λ (a : ℕ). (b m : ℕ) → bit_and (bit_or a b) m ≡ bit_or (bit_and a m) (bit_and b m))
    (λ b m.
    ap (λ (x : ℕ). bit_and x m) (or_zero_l b)
    ∙ sym (ap (λ (x : ℕ). bit_or x (bit_and b m)) (and_zero_l m) ∙ or_zero_l (bit_and b m)))
    (λ a ih b m.
    same
    (and-half (bit_or a b) m ∙ ap (λ (x : ℕ). bit_and x (m / 2)) (or-half a b) ∙ ih (b / 2) (m / 2)
    ∙ ap₂ bit_or (sym (and-half a m)) (sym (and-half b m)) ∙ sym (or-half (bit_and a m) (bit_and b m)))
    (omega (arith, and_low (bit_or a b) m, or-low a b, and_low a m, and_low b m, or-low (bit_and a m) (bit_and b m))))

pub absorb : (a b : ℕ) → bit_and a (bit_or a b) ≡ a
absorb =
    bin_ind (λ (a : ℕ). (b : ℕ) → bit_and a (bit_or a b) ≡ a)
    (λ b. and_zero_l (bit_or 0 b))
    (λ a ih b.
    same
    (and-half a (bit_or a b) ∙ ap (bit_and (a / 2)) (or-half a b) ∙ ih (b / 2))
    (omega (arith, and_low a (bit_or a b), or-low a b)))

pub and_assoc : (a b c : ℕ) → bit_and (bit_and a b) c ≡ bit_and a (bit_and b c)
and_assoc =
    bin_ind (λ (a : ℕ). (b c : ℕ) → bit_and (bit_and a b) c ≡ bit_and a (bit_and b c))
    (λ b c. rw (and_zero_l b, and_zero_l c, and_zero_l (bit_and b c)))
    (λ a ih b c.
    same
    (and-half (bit_and a b) c ∙ ap (λ (x : ℕ). bit_and x (c / 2)) (and-half a b) ∙ ih (b / 2) (c / 2)
    ∙ ap (bit_and (a / 2)) (sym (and-half b c)) ∙ sym (and-half a (bit_and b c)))
    (omega (arith, and_low (bit_and a b) c, and_low a b, and_low b c, and_low a (bit_and b c))))

-- x has a 1 only where m has
abbrev pub Submask : ℕ → ℕ → Type 0
Submask x m = bit_and x m ≡ x

pub submask-zero : (m : ℕ) → Submask 0 m
submask-zero m = and_zero_l m

pub submask-or : (a b m : ℕ) → Submask a m → Submask b m → Submask (bit_or a b) m
submask-or a b m p q = and-or a b m ∙ ap₂ bit_or p q

pub submask-self : (a b : ℕ) → Submask a (bit_or a b)
submask-self a b = absorb a b

pub submask-wider : (x m b : ℕ) → Submask x m → Submask x (bit_or m b)
submask-wider x m b p =
    sym (ap (λ (y : ℕ). bit_and y (bit_or m b)) p) ∙ and_assoc x m (bit_or m b) ∙ ap (bit_and x) (absorb m b) ∙ p

pub or_swap : (a b c : ℕ) → bit_or (bit_or a b) c ≡ bit_or (bit_or a c) b
or_swap a b c = or_assoc a b c ∙ ap (bit_or a) (or_comm b c) ∙ sym (or_assoc a c b)

-- ---- numbers by their digits

-- a digit that is 1 in one of the two is 1 in the union
pub or-digit-l : (a b p : ℕ) → a / 2 ^ p % 2 ≡ 1 → bit_or a b / 2 ^ p % 2 ≡ 1
or-digit-l a b p h = rw (or_shr a b p, or-low) (omega arith)

pub or-digit-r : (a b p : ℕ) → b / 2 ^ p % 2 ≡ 1 → bit_or a b / 2 ^ p % 2 ≡ 1
or-digit-r a b p h = rw (or_shr a b p, or-low) (omega arith)

pub and-digit : (a b p : ℕ) → bit_and a b / 2 ^ p % 2 ≡ min (a / 2 ^ p % 2) (b / 2 ^ p % 2)
and-digit a b p = rw (and_shr a b p, and_low)

no-digits : (b : ℕ) → ((q : ℕ) → b / 2 ^ q % 2 ≡ 0) → b ≡ 0
no-digits =
    bin_ind (λ (b : ℕ). ((q : ℕ) → b / 2 ^ q % 2 ≡ 0) → b ≡ 0) (λ h. refl)
    (λ b ih h.
    let i : b / 2 ≡ 0 = ih (λ q. ap (λ (x : ℕ). x % 2) (sym (shr-suc b q)) ∙ h (suc q)) in
    omega (arith, h 0))

-- two numbers with the same digits are one
pub same_digits : (a b : ℕ) → ((q : ℕ) → a / 2 ^ q % 2 ≡ b / 2 ^ q % 2) → a ≡ b
same_digits =
    bin_ind (λ (a : ℕ). (b : ℕ) → ((q : ℕ) → a / 2 ^ q % 2 ≡ b / 2 ^ q % 2) → a ≡ b)
    (λ b h. sym (no-digits b (λ q. sym (h q) ∙ rw zero-div)))
    (λ a ih b h.
    let i : a / 2 ≡ b / 2
    = ih (b / 2) (λ q. ap (λ (x : ℕ). x % 2) (sym (shr-suc a q)) ∙ h (suc q) ∙ ap (λ (x : ℕ). x % 2) (shr-suc b q)) in
    omega (arith, h 0))
