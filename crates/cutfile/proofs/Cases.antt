-- Files whose answer is computed. Assumes nothing.
use mathlib.Core.Path.{◌≡◌, refl}
use mathlib.Core.List.{List, [], ◌∷◌, ◌++◌}
use Prim.Native.Nat.{ℕ}
use lib.ListN.{replicate}
use Rattle.answers.specs.Paper.{Reply}
use Rattle.cutfile.specs.Bytes.{word32}
use Rattle.cutfile.specs.Layout.{mark, size_answer, file_offsets_answer, length_answer, fields_answer, header_answer}

u32 : ℕ → List ℕ
u32 x = x ∷ 0 ∷ 0 ∷ 0 ∷ []

header : ℕ → ℕ → ℕ → ℕ → ℕ → List ℕ
unfolding u32
header n k list amplitudes size = mark ++ u32 n ++ u32 k ++ u32 list ++ u32 amplitudes ++ u32 size

nought : ℕ → List ℕ
nought m = replicate m 0

pub cases : List Reply
cases =
    header_answer []
    ∷ header_answer (nought 200)
    ∷ header_answer (header 0 9 9 9 9)
    ∷ header_answer (header 10 0 24 24 56)
    ∷ header_answer (header 10 65 24 24 56)
    ∷ header_answer (header 1 65 24 24 56)
    ∷ header_answer (header 1 0 24 24 56 ++ nought 32)
    ∷ header_answer (header 1 1 24 32 64 ++ 0 ∷ 0 ∷ 0 ∷ 0 ∷ nought 36)
    ∷ header_answer (header 1 1 24 32 64 ++ 0 ∷ 0 ∷ 0 ∷ 0 ∷ 1 ∷ nought 35)
    ∷ header_answer (header 1 0 24 24 56 ++ nought 31)
    ∷ []

pub cases-are : cases ≡ (10, 0) ∷ (10, 0) ∷ (1, 0) ∷ (1, 0) ∷ (1, 0) ∷ (10, 0) ∷ (0, 0) ∷ (0, 0) ∷ (10, 0) ∷ (10, 0) ∷ []
unfolding cases header_answer fields_answer size_answer file_offsets_answer length_answer word32 header u32 nought
cases-are = refl
