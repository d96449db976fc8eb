-- What a reader may want to know of the certificate. Assumes nothing.
use mathlib.Core.Path.{◌≡◌, sym, ap, ◌∙◌}
use mathlib.Core.List.{List}
use Prim.Native.Nat.{ℕ, ◌≤◌, ◌<◌}
use lib.ListN.{length, take}
use Rattle.answers.specs.Paper.{Reply}
use Rattle.answers.proofs.PaperLaws.{done-old}
use Rattle.cutfile.proofs.Longer.{longest}
use Rattle.cutfile_result.specs.Result.{file_reply}
use Rattle.cutfile_result.proofs.Theorems.{longer-reply}
use Rattle.texts.proofs.TextLaws.{puts_one}
use Rattle.lines.specs.Lines.{refused_line}
use Rattle.certificates.specs.Certificate.{certificate_of}
use Rattle.certificates.specs.Accepted.{Printed}

-- Only one outcome meets the contract of `certificate`.
pub certificate-one : (file old : List ℕ) (r s : ℕ) (new other : List ℕ) → Printed (certificate_of file) old r new → Printed (certificate_of file) old s other → (r ≡ s) × (new ≡ other)
certificate-one file old r s new other p q = puts_one 0 (certificate_of file) old r s new other p.puts q.puts

-- What stands past the 8,480 bytes that the program reads changes nothing.
pub longer-certificate : (m : ℕ) (file : List ℕ) → longest < m → m ≤ length file → certificate_of (take m file) ≡ certificate_of file
unfolding certificate_of
longer-certificate m file h l =
    let long = longer-reply m file h l in
    sym (done-old (file_reply (take m file)).0 _ (refused_line (file_reply (take m file))) (λ e. long.1 (sym (ap (λ (r : Reply). r.0) long.0) ∙ e)))
    ∙ ap refused_line long.0
    ∙ done-old (file_reply file).0 _ (refused_line (file_reply file)) long.1
