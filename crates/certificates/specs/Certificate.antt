-- What is printed of a cut file, for every list of bytes: a definition over the file's result. Definitions only.
use Rattle.std.specs.Prelude.{List, ℕ}
use Rattle.answers.specs.Paper.{if_done}
use Rattle.cutfile.specs.Bytes.{word32}
use Rattle.cutfile_result.specs.Result.{file_reply, file_list, file_values, file_sweeps}
use Rattle.lines.specs.Lines.{refused_line}
use Rattle.certificates.specs.Accepted.{accepted_text}

-- the lines of a file that is answered 0, or the line of its refusal
unfoldable pub certificate_of : List ℕ → List ℕ
unfolding accepted_text
certificate_of file =
    if_done (file_reply file).0 (accepted_text (word32 file 4) (file_list file) (file_values file) (file_sweeps file).begun (file_sweeps file).quiet)
    (refused_line (file_reply file))
