-- What the program writes of the bytes of `state.bin`. Definitions only.
use Rattle.std.specs.Prelude.{List, ℕ, Float, Result}
use Rattle.std.specs.Float.{binary64}
use Rattle.std.specs.Float.Ieee.{of_bits}
use Rattle.answers.specs.Paper.{Reply, paper, given, if_done}
use Rattle.cutfile.specs.Bytes.{word32}
use Rattle.cutfile.specs.Layout.{header_answer}
use Rattle.cutfile_result.specs.Result.{state_of}
use Rattle.lines.specs.Lines.{refused_line}
use Rattle.answers.specs.declared.Refusal.{Refusal}
use Rattle.chain_fill.specs.Fill.{bonds_of, starts_of, marks_of, dropped_of}
use Rattle.chains.specs.Chains.{sites_filled, chain_reply}
use Rattle.chain_lines.specs.ChainLines.{chain_text}

-- the threshold, 1e-12
abbrev pub threshold : Float
threshold = of_bits binary64 0x3d71_9799_812d_ea11

-- the text of what the call answered and left: the chain, or `refused N P`
unfoldable pub told_text : ℕ → Result ℕ Refusal → List Float → List ℕ → List ℕ → List ℕ → List ℕ
told_text n made sites bonds starts marks =
    if_done (paper made).0 (chain_text n (given 0 made) sites bonds starts marks) (refused_line (paper made))

-- the answer of `chain_of_sites` at that threshold, with bond limit 64 and the room that the program lends
unfoldable pub state_reply : List Float → ℕ → Reply
state_reply s n = chain_reply s n threshold 64 2384 10 10 24 1024 1024 1024 3104

-- the text of a state of n qubits: that of its chain, or of the refusal
unfoldable pub state_text : List Float → ℕ → List ℕ
unfolding state_reply
state_text s n =
    if_done (state_reply s n).0
    (chain_text n (dropped_of s n threshold 64) (sites_filled s n threshold 64) (bonds_of s n threshold 64) (starts_of s n threshold 64) (marks_of s n threshold 64))
    (refused_line (state_reply s n))

-- all that is written: the text of the file's state, or of the header's refusal
unfoldable pub file_text : List ℕ → List ℕ
unfolding state_text
file_text file =
    if_done (header_answer file).0 (state_text (state_of file (word32 file 4) (word32 file 8)) (word32 file 4)) (refused_line (header_answer file))
