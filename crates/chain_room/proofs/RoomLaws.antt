-- The room is counted in numbers that fit. Assumes nothing.
use mathlib.Core.Path.{◌≡◌, refl, sym, ap, ap₂, ◌∙◌}
use Prim.Native.Nat.{ℕ, zero, suc, ◌+◌, ◌*◌, ◌^◌, ◌≤◌, ◌<◌}
use native.Mathlib.Nat.{mul-le-mul}
use native.Mathlib.Numerals.{add-one}
use native.Mathlib.Omega.{arith}
use lib.Pow.{pow_mono}
use Rattle.chain_walk.specs.Chain.{most_of, room_to}
use Rattle.chain_walk.proofs.ChainLaws.{room_next}

pub most-few : (n limit j : ℕ) → j ≤ 12 → most_of n limit j ≤ 4096
unfolding most_of
most-few n limit j h = let p : 2 ^ j ≤ 2 ^ 12 = pow_mono h in omega arith

pub room-none : (n limit : ℕ) → 0 ≡ room_to n limit 0
unfolding room_to
room-none n limit = refl

pub term_few : (n limit j : ℕ) {before after : ℕ} → n ≤ 12 → j < n → before ≡ most_of n limit j → after ≡ most_of n limit (j + 1) → 2 * before * after ≤ 33554432
term_few n limit j {before} {after} h l e f =
    let a : 2 * before ≤ 8192 = omega (arith, e, most-few n limit j (omega arith)) in
    let b : after ≤ 4096 = omega (arith, f, most-few n limit (j + 1) (omega arith)) in
    let m : 2 * before * after ≤ 8192 * 4096 = mul-le-mul a b in
    omega arith

pub room_few : (n limit j : ℕ) → j ≤ 12 → room_to n limit j ≤ 33554432 * j
room_few n limit zero h = omega (arith, room-none n limit)
room_few n limit (suc j) h =
    let a : 2 * most_of n limit j ≤ 8192 = omega (arith, most-few n limit j (omega arith)) in
    let b : most_of n limit (suc j) ≤ 4096 = most-few n limit (suc j) h in
    let m : 2 * most_of n limit j * most_of n limit (suc j) ≤ 8192 * 4096 = mul-le-mul a b in
    omega (arith, room_few n limit j (omega arith), room_next n limit j)

pub sum-few : (n limit j : ℕ) {room : ℕ} → n ≤ 12 → j < n → room ≡ room_to n limit j → room ≤ 402653184
sum-few n limit j h l e = omega (arith, e, room_few n limit j (omega arith))

pub room-more : (n limit j : ℕ) {room before after : ℕ} → room ≡ room_to n limit j → before ≡ most_of n limit j → after ≡ most_of n limit (j + 1)
    → room + 2 * before * after ≡ room_to n limit (j + 1)
room-more n limit j {room} e f g =
    let s : most_of n limit (j + 1) ≡ most_of n limit (suc j) = ap (most_of n limit) (add-one j) in
    ap₂ (λ (x y : ℕ). room + 2 * x * y) f (g ∙ s) ∙ ap (λ (x : ℕ). x + 2 * most_of n limit j * most_of n limit (suc j)) e
    ∙ sym (room_next n limit j) ∙ ap (room_to n limit) (sym (add-one j))
