-- Laws of the digest: a step of the loop, and its end. Assumes nothing.
use Rattle.std.proofs.Common.{◌≡◌, ℕ, ◌+◌, ◌<◌, ◌≤◌, List, length, get_or, drop, sym, ap, ◌∙◌, ap₂, add-one, drop_of_length-le, drop-cons}
use Rattle.digests.specs.Digest.{mixed, digest_from, digest_of}

-- the loop: what is left gives the same digest
pub turn : (h i g : ℕ) (l : List ℕ) → i < length l → digest_from h (drop i l) ≡ digest_of l → g ≡ mixed h (get_or l i 0) → digest_from g (drop (i + 1) l) ≡ digest_of l
unfolding digest_from
turn h i g l lt e f =
    ap₂ (λ (a j : ℕ). digest_from a (drop j l)) f (add-one i) ∙ sym (ap (digest_from h) (drop-cons l i 0 lt)) ∙ e

pub end : (h i : ℕ) (l : List ℕ) → length l ≤ i → digest_from h (drop i l) ≡ digest_of l → h ≡ digest_of l
unfolding digest_from
end h i l le e = sym (ap (digest_from h) (drop_of_length-le l le)) ∙ e
