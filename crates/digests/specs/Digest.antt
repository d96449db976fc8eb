-- FNV-1a of 64 bits, a number of a list of bytes. Assumes nothing.
use Rattle.std.specs.Prelude.{ℕ, ◌*◌, ◌%◌, ◌^◌, List, [], ◌∷◌, bit_xor}

-- 2^40 + 435
abbrev pub prime : ℕ
prime = 1099511628211

-- what the digest of no byte is
abbrev pub basis : ℕ
basis = 0xcbf2_9ce4_8422_2325

-- a byte more: the digits that differ, times the prime, modulo 2^64
unfoldable pub mixed : ℕ → ℕ → ℕ
mixed hash byte = bit_xor byte hash * prime % 2 ^ 64

-- byte after byte
unfoldable pub digest_from : ℕ → List ℕ → ℕ
unfolding mixed
digest_from hash [] = hash
digest_from hash (b ∷ l) = digest_from (mixed hash b) l

abbrev pub digest_of : List ℕ → ℕ
digest_of l = digest_from basis l
