-- Laws of the cut file's layout. Assumes nothing.
use mathlib.Core.Path.{◌≡◌, sym, ap, ◌∙◌}
use mathlib.Core.Bool.{true, false, not}
use Prim.Native.Nat.{ℕ, ◌+◌, ◌*◌, ◌/◌, ◌%◌, ◌^◌, ◌≤◌, ◌<◌}
use borrow.Author.Tests.{lt-ltb, le-ltb, ltb-false, eqb-true, not-false}
use lib.Dec.{T, eqb, ltb}
use lib.Pow.{pow_mono}
use lib.Ieee.{Float, binary64, of_bits, nan_bits}
use lib.Ieee.Bits.{nan_bits_above}
use lib.ListN.{length}
use mathlib.Core.List.{List}
use native.Mathlib.Omega.{arith}
use Rattle.answers.specs.declared.Refusal.{Refusal}
use Rattle.answers.specs.Paper.{Reply, table, done, if_done}
use Rattle.answers.proofs.Stopped.{stopped-number}
use Rattle.answers.proofs.PaperLaws.{refuse-done, and_then-done, done-new, done-old}
use Rattle.std.specs.Prelude.{Ok, Err}
use Rattle.cutfile.specs.Bytes.{word32, begins}
use Rattle.cutfile.specs.Layout.{mark, file_length, size_answer, file_offsets_answer, length_answer, fields_answer, header_answer, Header·is, LongEnough, bits_at, component, component_at}

pub small_power : (n : ℕ) → n ≤ 9 → 2 ^ n ≤ 512
small_power n h = pow_mono h

-- one comparison tells a NaN's pattern
is-nan : (b : ℕ) → 0x7ff0_0000_0000_0000 < b % 0x8000_0000_0000_0000 → nan_bits binary64 b ≡ true
is-nan b h = nan_bits_above binary64 b ∙ lt-ltb _ _ h

not-nan : (b : ℕ) → b % 0x8000_0000_0000_0000 ≤ 0x7ff0_0000_0000_0000 → nan_bits binary64 b ≡ false
not-nan b h = nan_bits_above binary64 b ∙ le-ltb _ _ h

pub no_nan : (b : ℕ) → b % 0x8000_0000_0000_0000 ≤ 0x7ff0_0000_0000_0000 → T (not (nan_bits binary64 b))
no_nan b h = rw (not-nan b h) tt

pub component_nan : (b : ℕ) → 0x7ff0_0000_0000_0000 < b % 0x8000_0000_0000_0000 → of_bits binary64 0x7ff0_0000_0000_0000 ≡ component b
unfolding of_bits component
component_nan b h = rw (is-nan b h)

pub component_else : (b : ℕ) → b % 0x8000_0000_0000_0000 ≤ 0x7ff0_0000_0000_0000 → of_bits binary64 b ≡ component b
unfolding component
component_else b h = rw (not-nan b h)

-- what is answered at a refusal, and where nothing is refused
pub refusal : (file : List ℕ) (e : Refusal) → table e ≡ header_answer file → Header·is file (Err e)
refusal file e h =
    let nought : (x : ℕ) → 0 ≡ if_done (header_answer file).0 x 0 = λ x. done-old _ x 0 (λ g. stopped-number e (ap (λ (y : Reply). y.0) h ∙ g)) in
    record { answer-is = h; n-is = nought (word32 file 4); k-is = nought (word32 file 8) }

pub acceptance : (file : List ℕ) (n k : ℕ) → done ≡ header_answer file → n ≡ word32 file 4 → k ≡ word32 file 8 → Header·is file (Ok (record { n = n; k = k }))
acceptance file n k e p q =
    let kept : (x : ℕ) → x ≡ if_done (header_answer file).0 x 0 = λ x. done-new _ x 0 (sym (ap (λ (y : Reply). y.0) e)) in
    record { answer-is = e; n-is = p ∙ kept (word32 file 4); k-is = q ∙ kept (word32 file 8) }

-- ---- what an answer 0 says

pub size_small : (n : ℕ) → (size_answer n).0 ≡ 0 → (1 ≤ n) × (n ≤ 9)
unfolding size_answer
size_small n e =
    let a = refuse-done (ltb n 1) 0 0 _ e in
    let b = refuse-done (ltb 9 n) 0 0 _ a.1 in
    (ltb-false n 1 a.0, ltb-false 9 n b.0)

pub offsets-small : (k : ℕ) (file : List ℕ) → (file_offsets_answer k file).0 ≡ 0 → k ≤ 64
unfolding file_offsets_answer
offsets-small k file e = ltb-false 64 k (refuse-done (ltb 64 k) 9 0 _ e).0

length-fits : (n k : ℕ) (file : List ℕ) → (length_answer n k file).0 ≡ 0 → length file ≡ file_length n k
unfolding length_answer
length-fits n k file e =
    let a = refuse-done (not (eqb (word32 file 20) (file_length n k))) 9 0 _ e in
    let b = refuse-done (not (eqb (length file) (file_length n k))) 9 0 _ a.1 in
    eqb-true _ _ (not-false _ b.0)

fields_fit : (n k : ℕ) (file : List ℕ) → (fields_answer n k file).0 ≡ 0 → LongEnough file n k × (1 ≤ n)
unfolding fields_answer
fields_fit n k file e =
    let a = and_then-done (size_answer n) _ e in
    let b = and_then-done (file_offsets_answer k file) _ a.1 in
    let s = size_small n a.0 in
    let l = length-fits n k file b.1 in
    (record { n-small = s.1; k-small = offsets-small k file b.0; reaches = omega (arith, l) }, s.0)

-- an accepted file has 1 to 9 qubits, and room for what its header says
pub accepted : (file : List ℕ) → (header_answer file).0 ≡ 0 → LongEnough file (word32 file 4) (word32 file 8) × (1 ≤ word32 file 4)
unfolding header_answer
accepted file e =
    let a = refuse-done (ltb (length file) 24) 9 0 _ e in
    let b = refuse-done (not (begins mark file)) 9 0 _ a.1 in
    fields_fit (word32 file 4) (word32 file 8) file b.1

-- the j-th component is a part of an amplitude
pub of_parts : (file : List ℕ) (k j b : ℕ) (x : Float) → b ≡ bits_at file k (2 * (j / 2) + j % 2) → x ≡ component b → x ≡ component_at file k j
of_parts file k j b x e p = p ∙ ap component (e ∙ ap (bits_at file k) (omega arith))
