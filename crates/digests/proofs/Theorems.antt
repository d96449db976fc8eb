-- What a reader may want to know of the digest. Assumes nothing.
use Rattle.std.proofs.Common.{◌≡◌, ℕ, List, [], ◌∷◌, sym, refl, ◌∙◌}
use Rattle.digests.specs.Digest.{mixed, digest_from, digest_of}

-- Only one outcome meets the contract of `digest`.
pub digest-one : (file : List ℕ) (r s : ℕ) → r ≡ digest_of file → s ≡ digest_of file → r ≡ s
digest-one file r s e f = e ∙ sym f

-- The published digests of no byte, of `a` and of `foobar`.
pub published : (digest_of [] ≡ 0xcbf2_9ce4_8422_2325) × (digest_of (97 ∷ []) ≡ 0xaf63_dc4c_8601_ec8c)
    × (digest_of (102 ∷ 111 ∷ 111 ∷ 98 ∷ 97 ∷ 114 ∷ []) ≡ 0x8594_4171_f739_67e8)
unfolding digest_from mixed
published = (refl, refl, refl)
