-- 01's starred cases as one record under one claim, each by computation from the definitions that the contracts cite. Assumes nothing.
use Rattle.std.specs.Prelude.{◌≡◌, List, [], ◌∷◌, map, ℕ, Float, take}
use Rattle.std.specs.Float.Ieee as Ieee
use Rattle.std.specs.Float.{binary64}
use Rattle.std.specs.Float.Ieee.{of_bits}
use Rattle.complex.specs.Zeros.{zeros}
use Rattle.qr_passes.specs.GramSchmidt.{factors, qr_factors}
use Rattle.site_ranks.specs.Ranks.{rank_of}
use Rattle.answers.specs.Paper.{Reply}
use Rattle.qubits.specs.Lists.{subsystem}
use Rattle.qubits.specs.Spread.{row_offsets, traced_base}
use Rattle.complex.specs.Arithmetic.{complex_of}
use Rattle.complex.specs.Cells.{cell_at}
use Rattle.cuts.specs.Cut.{source_of, cut_cell}
use Rattle.svd_pair.specs.Decisions.{verdict}
use Rattle.eigen_pair.specs.Decide.{theta_of, eigen_tangent, eigen_decision}

abbrev to8 : List ℕ
to8 = 0 ∷ 1 ∷ 2 ∷ 3 ∷ 4 ∷ 5 ∷ 6 ∷ 7 ∷ []

-- the amplitudes' numbers of a cut of three qubits, column after column
abbrev gathered : List ℕ → List ℕ
gathered l = map (source_of 3 l) to8

abbrev float0 : Float
float0 = of_bits binary64 0

abbrev float1 : Float
float1 = of_bits binary64 0x3ff0_0000_0000_0000

abbrev float2 : Float
float2 = of_bits binary64 0x4000_0000_0000_0000

abbrev float4 : Float
float4 = of_bits binary64 0x4010_0000_0000_0000

-- the columns (2,0),(4,0)
abbrev two_columns : List Float
two_columns = float2 ∷ float0 ∷ float0 ∷ float0 ∷ float4 ∷ float0 ∷ float0 ∷ float0 ∷ []

-- 1 / √2, rounded
abbrev root_half : Float
root_half = of_bits binary64 0x3fe6_a09e_667f_3bcc

-- 0.3
abbrev threshold : Float
threshold = of_bits binary64 0x3fd3_3333_3333_3333

pub record Starred : Type 0 where
  -- n=3, list {2} and list {0,1}: columns (0,4),(1,5),(2,6),(3,7)
  pub list-2 : gathered (2 ∷ []) ≡ 0 ∷ 4 ∷ 1 ∷ 5 ∷ 2 ∷ 6 ∷ 3 ∷ 7 ∷ []
  pub list-01 : gathered (0 ∷ 1 ∷ []) ≡ 0 ∷ 4 ∷ 1 ∷ 5 ∷ 2 ∷ 6 ∷ 3 ∷ 7 ∷ []
  -- n=3, list {0,2}: columns (0,2),(1,3),(4,6),(5,7)
  pub list-02 : gathered (0 ∷ 2 ∷ []) ≡ 0 ∷ 2 ∷ 1 ∷ 3 ∷ 4 ∷ 6 ∷ 5 ∷ 7 ∷ []
  -- so of the definition that the cut's contract cites: the cells of any state
  pub cells-2 : (s : List Float) → map (cut_cell s 3 (2 ∷ [])) to8 ≡ map (cell_at s) (0 ∷ 4 ∷ 1 ∷ 5 ∷ 2 ∷ 6 ∷ 3 ∷ 7 ∷ [])
  pub cells-02 : (s : List Float) → map (cut_cell s 3 (0 ∷ 2 ∷ [])) to8 ≡ map (cell_at s) (0 ∷ 2 ∷ 1 ∷ 3 ∷ 4 ∷ 6 ∷ 5 ∷ 7 ∷ [])
  -- n=3, list 2,0: row offsets 0,4,1,5; traced bases 0,2
  pub offsets : row_offsets (2 ∷ 0 ∷ []) ≡ 0 ∷ 4 ∷ 1 ∷ 5 ∷ []
  pub bases : map (traced_base 3 (2 ∷ 0 ∷ [])) (0 ∷ 1 ∷ []) ≡ 0 ∷ 2 ∷ []
  -- n=2: list 1,1 is 3 at 1, list 5,1 is 2 at 0, list 0,1 is 5, the empty list 4
  pub twice : ◌≡◌ {A = Reply} (subsystem 2 (1 ∷ 1 ∷ [])) (3, 1)
  pub out : ◌≡◌ {A = Reply} (subsystem 2 (5 ∷ 1 ∷ [])) (2, 0)
  pub whole : ◌≡◌ {A = Reply} (subsystem 2 (0 ∷ 1 ∷ [])) (5, 0)
  pub empty : ◌≡◌ {A = Reply} (subsystem 2 []) (4, 0)
  -- the printed case, n=4, list 0,1: the columns start at 0,4,8,12
  pub starts : map (source_of 4 (0 ∷ 1 ∷ [])) (0 ∷ 4 ∷ 8 ∷ 12 ∷ []) ≡ 0 ∷ 4 ∷ 8 ∷ 12 ∷ []
  -- QR of zero 2×2: rank 1, q (1,0), r zero
  pub qr-zero : qr_factors (zeros 8) 2 2 ≡ factors (float1 ∷ zeros 7) (zeros 8) 1
  -- columns (2,0),(4,0): rank 1, r 2,4
  pub qr-rank : (qr_factors two_columns 2 2).rank ≡ 1
  pub qr-r : take 4 (qr_factors two_columns 2 2).r ≡ float2 ∷ float0 ∷ float4 ∷ float0 ∷ []
  -- rank of 1, 0.5, 0.25 with threshold 0.3 and cap 8: 2. Of 0, 0: 1. Any list with cap 0: 0
  pub rank-halves : rank_of (float1 ∷ of_bits binary64 0x3fe0_0000_0000_0000 ∷ of_bits binary64 0x3fd0_0000_0000_0000 ∷ []) threshold 8 ≡ 2
  pub rank-zeros : rank_of (float0 ∷ float0 ∷ []) threshold 8 ≡ 1
  pub rank-capped : (values : List Float) (epsilon : Float) → rank_of values epsilon 0 ≡ 0
  -- eigen pair with diagonal +0.0, -0.0 and off-diagonal 1: theta -0.0, t = -1
  pub eigen-theta : theta_of float0 (Ieee.neg float0) float1 ≡ Ieee.neg float0
  pub eigen-tangent : eigen_tangent (Ieee.neg float0) ≡ Ieee.neg float1
  -- and through the decision, from the off-diagonal 1: the cosine √½, the sine its negative, the phase 1
  pub eigen-turn : verdict (eigen_decision (complex_of float1 float0) float0 (Ieee.neg float0) float0)
      ≡ record { number = 1; values = root_half ∷ Ieee.neg root_half ∷ float1 ∷ float0 ∷ [] }
