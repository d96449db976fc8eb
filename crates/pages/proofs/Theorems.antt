-- What a reader may want to know of this crate's definitions and calls. Assumes nothing.
use mathlib.Core.Bool.{Bool, true, false}
use mathlib.Core.Path.{◌≡◌, sym, ap, ◌∙◌}
use mathlib.Core.List.{List}
use Prim.Native.Nat.{ℕ}
use lib.Ieee.{Float}
use lib.ListN.{length}
use Rattle.std.specs.Prelude.{Result, Ok}
use Rattle.answers.specs.declared.Refusal.{Refusal}
use Rattle.answers.specs.Paper.{Reply, given, and_then, if_done}
use Rattle.answers.proofs.PaperLaws.{and_then-done}
use Rattle.answers.proofs.Theorems.{result-one}
use Rattle.complex.specs.Cells.{components}
use Rattle.cut_sides.specs.Sides.{cut_refusal}
use Rattle.cut_sides.proofs.SideLaws.{is-parted}
use Rattle.cuts.specs.Cut.{cut_lengths, cut_answer}
use Rattle.densities.specs.Density.{density_answer}
use Rattle.density_recount.specs.Recount.{recount_sizes}
use Rattle.pages.proofs.Both.{goes, density-done, sizes-done}
use Rattle.pages.specs.Agree.{both_answer, pages_answer, pages_same, Says}
use Rattle.pages.proofs.AgreeLaws.{pages-same}

-- Where the cut and the density are both accepted the answer is always yes.
pub always-yes : (s : List Float) (n : ℕ) (l : List ℕ) (cap : ℕ) (r : Result Bool Refusal) → Says (pages_answer s n l cap) (pages_same s n l) r
    → (cut_answer s n l cap 8192).0 ≡ 0 → (density_answer s n l cap 8192 128).0 ≡ 0 → r ≡ Ok true
always-yes s n l cap r f e h =
    let q : pages_answer s n l cap ≡ (0, 0) =
    sym (goes (recount_sizes n (length l) cap) (both_answer s n l cap) (sizes-done s n l cap e h))
    ∙ sym (goes (cut_answer s n l cap 8192) (density_answer s n l cap 8192 128) e) ∙ density-done s n l cap e h in
    let p = is-parted l n cap (and_then-done (cut_refusal l n cap) (and_then (cut_lengths n (length s) 8192) (components 0 s)) e).0 in
    let y : given false r ≡ true = f.agree ∙ ap (λ (x : Reply). if_done x.0 (pages_same s n l) false) q ∙ pages-same s n l p in
    result-one r (Ok true) (f.answer ∙ q) (λ a b g h. sym (ap (given false) g) ∙ y ∙ ap (given false) h)

-- Only one outcome meets the contract of `pages_agree`.
pub pages-agree-one : (s : List Float) (n : ℕ) (l : List ℕ) (cap : ℕ) (r r' : Result Bool Refusal) → Says (pages_answer s n l cap) (pages_same s n l) r
    → Says (pages_answer s n l cap) (pages_same s n l) r' → r ≡ r'
pages-agree-one s n l cap r r' f g =
    result-one r r' (f.answer ∙ sym g.answer) (λ x y p q. sym (ap (given false) p) ∙ f.agree ∙ sym g.agree ∙ ap (given false) q)
