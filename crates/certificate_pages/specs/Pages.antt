-- Both pages of a cut file, for every list of bytes. Definitions only.
use Rattle.std.specs.Prelude.{◌≡◌, true, false, List, ◌++◌, ℕ, ◌≤◌, eqb, Float, length}
use Rattle.answers.specs.Paper.{Reply, paper, and_then, if_done, if_worked, room}
use Rattle.cutfile.specs.Bytes.{word32}
use Rattle.cutfile_result.specs.declared.CutResult.{CutResult}
use Rattle.cutfile_result.specs.Result.{state_of, file_reply, file_list, file_values, file_sweeps, file_exact, Result}
use Rattle.texts.specs.Text.{put, Puts}
use Rattle.lines.specs.Lines.{refused_line}
use Rattle.digests.specs.Digest.{digest_from, digest_of}
use Rattle.certificates.specs.declared.Written.{Written}
use Rattle.certificate_front.specs.Front.{front_text}
use Rattle.certificate_back.specs.Back.{back_text}

-- page one, and page two: its list, and what it says of the state
unfoldable pub pages_text : List ℕ → List ℕ
unfolding digest_from front_text back_text
pages_text file =
    front_text (digest_of file) (file_reply file) (word32 file 4) (file_list file) (file_values file) (file_sweeps file).begun (file_sweeps file).quiet (file_exact file)
    ++ back_text (state_of file (word32 file 4) (word32 file 8)) (word32 file 4) (file_list file) (eqb (file_reply file).0 0)

-- BOTH PAGES, where the work on the file was begun, or the line of its refusal
unfoldable pub pages_of : List ℕ → List ℕ
unfolding pages_text refused_line
pages_of file = if_worked (file_reply file).0 (pages_text file) (refused_line (file_reply file))

-- a call that prints: 6 where the text has less room than the need, else the reply; the print's length; and the text with the print at its front
pub record Called (need : ℕ) (reply : Reply) (print old : List ℕ) (r : Written) (new : List ℕ) : Type 0 where
  pub answer : paper r.answer ≡ and_then (room 1 (length old) need) reply
  pub length-is : r.length ≡ if_done (room 1 (length old) need).0 (length print) 0
  pub text-is : new ≡ if_done (room 1 (length old) need).0 (put 0 print old) old

-- the same where there is room: what is put at the front, and the answer
pub record PagesThere (file old : List ℕ) (r : ℕ) (new : List ℕ) : Type 0 where
  pub puts : Puts 0 (pages_of file) old r new
  pub short : length (pages_of file) ≤ 102400

pub record PagesPut (file old : List ℕ) (r : Written) (new : List ℕ) : Type 0 where
  pub answered : paper r.answer ≡ file_reply file
  pub there : PagesThere file old r.length new

-- what both pages ask: what `cut_result` gave of a file, over two lists, where the work on it was begun
pub record Begun (file : List ℕ) (r : CutResult) (list : List ℕ) (values : List Float) : Type 0 where
  pub old-list : List ℕ
  pub old-values : List Float
  pub is : Result file old-list old-values r list values
  pub worked : if_worked (paper r.cut).0 true false ≡ true
