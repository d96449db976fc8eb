-- What a reader may want to know of the printed pages. Assumes nothing.
use mathlib.Core.Path.{◌≡◌, refl, sym, ap, ◌∙◌}
use mathlib.Core.Bool.{Bool, true}
use mathlib.Core.List.{List, [], ◌++◌}
use Prim.Native.Nat.{ℕ, zero, suc, ◌*◌, ◌^◌}
use native.Mathlib.Omega.{arith}
use lib.ListN.{length}
use Rattle.answers.specs.Paper.{Answer, Reply, after}
use Rattle.answers.proofs.PaperLaws.{Ended}
use Rattle.answers.proofs.Theorems.{paper-one}
use Rattle.complex.specs.Cells.{written}
use Rattle.cuts.specs.Cut.{cut_cell}
use Rattle.agreement.specs.FromCut.{cut_density_cell}
use Rattle.cutfile.specs.Bytes.{word32}
use Rattle.cutfile.specs.Layout.{header_answer, component_at}
use Rattle.cutfile.proofs.LayoutLaws.{accepted}
use Rattle.tables.proofs.TablesLaws.{length-table}
use Rattle.cutfile_result.specs.Result.{state_of, library_reply, file_reply, file_list}
use Rattle.cutfile_result.proofs.Theorems.{file-never-length}
use Rattle.page_matrices.specs.Matrices.{matrices_text}
use Rattle.page_two.specs.PageTwo.{page_two_reply, density_of}
use Rattle.page_two.proofs.Theorems.{summed-from-cut, always-summed, page-two-never-length}
use Rattle.certificates.specs.declared.Written.{Written}
use Rattle.certificates.specs.Certificate.{certificate_of}
use Rattle.certificate_back.specs.Back.{total_bits, last_line, back_text}
use Rattle.certificate_pages.specs.Pages.{pages_of, Called}
use Rattle.certificate_pages.proofs.BegunLaws.{header-with, begun-taken}

same-written : {a b : Answer} {m n : ℕ} → a ≡ b → m ≡ n → ◌≡◌ {A = Written} (record { answer = a; length = m }) (record { answer = b; length = n })
same-written e f = cc

called-one : (need : ℕ) (reply : Reply) (print old : List ℕ) (r s : Written) (new other : List ℕ) → Called need reply print old r new → Called need reply print old s other → (r ≡ s) × (new ≡ other)
called-one need reply print old r s new other p q =
    (same-written (paper-one r.answer s.answer (p.answer ∙ sym q.answer)) (p.length-is ∙ sym q.length-is), p.text-is ∙ sym q.text-is)

-- Only one outcome meets the contract of `print_pages`: the answer, the length, and every byte of the text.
pub print-pages-one : (file old : List ℕ) (r s : Written) (new other : List ℕ) → Called 102400 (file_reply file) (pages_of file) old r new → Called 102400 (file_reply file) (pages_of file) old s other → (r ≡ s) × (new ≡ other)
print-pages-one file old r s new other p q = called-one 102400 (file_reply file) (pages_of file) old r s new other p q

-- Only one outcome meets the contract of `print_certificate`.
pub print-certificate-one : (file old : List ℕ) (r s : Written) (new other : List ℕ) → Called 2048 (file_reply file) (certificate_of file) old r new → Called 2048 (file_reply file) (certificate_of file) old s other → (r ≡ s) × (new ≡ other)
print-certificate-one file old r s new other p q = called-one 2048 (file_reply file) (certificate_of file) old r s new other p q

-- THE TWO PAGES AGREE, of what is printed: wherever page two is printed, its matrix is the one summed from the cut matrix of page one alone.
pub printed-agree : (file : List ℕ) → Ended (file_reply file).0
    → let n = word32 file 4 in let s = state_of file n (word32 file 8) in let l = file_list file in
    density_of s n l ≡ written (2 ^ length l * 2 ^ length l) (cut_density_cell n l (written (2 ^ n) (cut_cell s n l) [])) []
printed-agree file h = summed-from-cut (state_of file (word32 file 4) (word32 file 8)) (word32 file 4) (file_list file) (begun-taken file h)

-- Wherever page two's density is accepted, what is printed past its list is the matrices with `summed yes`, and the last line.
pub printed-summed : (file : List ℕ) (accepted : Bool) → Ended (file_reply file).0
    → let n = word32 file 4 in let s = state_of file n (word32 file 8) in let l = file_list file in
    (page_two_reply s n l).0 ≡ 0 → back_text s n l accepted ≡ matrices_text (density_of s n l) (2 ^ length l) accepted (total_bits s n l) true ++ last_line
unfolding back_text
printed-summed file accepted h z =
    let n = word32 file 4 in
    let s = state_of file n (word32 file 8) in
    let l = file_list file in
    ap (λ (t : List ℕ). t ++ last_line) (always-summed s n l accepted (total_bits s n l) (begun-taken file h) z)

-- No file is refused by 6: the answer is never that of a buffer.
pub file-never-six : (file : List ℕ) → (file_reply file).0 ≡ 6 → ⊥
unfolding file_reply
file-never-six file = by (header_answer file).0 refl
  where
    by : (x : ℕ) → (header_answer file).0 ≡ x → (after x (header_answer file) (library_reply file (word32 file 4) (word32 file 8))).0 ≡ 6 → ⊥
    by zero e = file-never-length file (word32 file 4) (word32 file 8) (accepted file e).0
    by (suc x) e = header-with (λ (y : ℕ). y ≡ 6 → ⊥) (λ z. omega (arith, z)) (λ z. omega (arith, z)) (λ z. omega (arith, z)) file

-- Nor is page two of one.
pub page-two-never-six : (file : List ℕ) → Ended (file_reply file).0 → (page_two_reply (state_of file (word32 file 4) (word32 file 8)) (word32 file 4) (file_list file)).0 ≡ 6 → ⊥
page-two-never-six file h =
    page-two-never-length (state_of file (word32 file 4) (word32 file 8)) (word32 file 4) (file_list file) (begun-taken file h)
    (length-table (2 * 2 ^ word32 file 4) (component_at file (word32 file 8)))
