-- Laws of the sheet's 32 numbers, put part by part. Assumes nothing.
use mathlib.Core.Path.{◌≡◌, refl, sym, ap, subst, ◌∙◌}
use mathlib.Core.List.{List, [], ◌∷◌, ◌++◌, append-nil}
use Prim.Native.Nat.{ℕ, ◌+◌, ◌≤◌, ◌<◌}
use native.Mathlib.Numerals.{add-one}
use native.Mathlib.Omega.{arith}
use lib.ListN.{length, get_or, set, drop, length-append, length-drop, drop_of_length-le}
use lib.Seq.{paste, paste-zero, paste-suc, take_at, take-length, drop-append-add}
use Rattle.lot_tallies.specs.declared.Sheet.{Sheet}
use Rattle.lot_tallies.specs.Tallies.{sheet_numbers, part_put}

pub part_end : (out₀ out part : List ℕ) (at i : ℕ) → out ≡ part_put at part i out₀ → i ≤ length part → length part ≤ i → out ≡ part_put at part (length part) out₀
part_end out₀ out part at i e h k =
    let s : i ≡ length part = omega arith in
    subst (λ (n : ℕ). out ≡ part_put at part n out₀) s e

-- a part put where the front ends
part-whole : (front rest part : List ℕ) (at : ℕ) → length front ≡ at → paste (front ++ rest) at part (length part) ≡ front ++ part ++ drop (length part) rest
part-whole front rest part at e =
    let f : drop (at + length part) (front ++ rest) ≡ drop (length part) rest = subst (λ (n : ℕ). drop (n + length part) (front ++ rest) ≡ drop (length part) rest) e (drop-append-add front rest (length part)) in
    rw (take_at front rest at e, take-length part, f) refl

nothing_left : (o : List ℕ) (m n : ℕ) → length o ≡ 32 → m ≡ 11 → n ≡ 16 → drop 5 (drop n (drop m o)) ≡ []
nothing_left o m n l e f = drop_of_length-le (drop n (drop m o)) {i = 5} (omega (arith, length-drop n (drop m o), length-drop m o))

pub all-parts : (s : Sheet) (o a b d : List ℕ) → length o ≡ 32 → length s.answers ≡ 11 → length s.ranks ≡ 16
    → a ≡ part_put 0 s.answers (length s.answers) o → b ≡ part_put 11 s.ranks (length s.ranks) a
    → d ≡ part_put 27 (s.smallest ∷ s.smallest_file ∷ s.largest ∷ s.largest_file ∷ s.sum ∷ []) 5 b
    → d ≡ sheet_numbers s
unfolding sheet_numbers part_put
all-parts s o a b d l m n e f g =
    let last = s.smallest ∷ s.smallest_file ∷ s.largest ∷ s.largest_file ∷ s.sum ∷ [] in
    let x : a ≡ s.answers ++ drop (length s.answers) o = e ∙ part-whole [] o s.answers 0 refl in
    let y : b ≡ s.answers ++ s.ranks ++ drop (length s.ranks) (drop (length s.answers) o)
    = f
    ∙ ap (λ (q : List ℕ). paste q 11 s.ranks (length s.ranks)) x
    ∙ part-whole s.answers (drop (length s.answers) o) s.ranks 11 m in
    g
    ∙ ap (λ (q : List ℕ). paste q 27 last 5) y
    ∙ part-whole (s.answers ++ s.ranks) (drop (length s.ranks) (drop (length s.answers) o)) last 27 (omega (arith, length-append s.answers s.ranks))
    ∙ ap (λ (q : List ℕ). s.answers ++ s.ranks ++ last ++ q) (nothing_left o (length s.answers) (length s.ranks) l m n)
    ∙ append-nil (s.answers ++ s.ranks ++ last)
