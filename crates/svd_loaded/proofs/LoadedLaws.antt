-- The factors of a loaded matrix, and their end. Assumes nothing.
use mathlib.Core.Path.{◌≡◌, sym, ap, ap₂, ◌∙◌}
use mathlib.Core.Bool.{true, false}
use mathlib.Core.List.{List}
use Prim.Native.Nat.{ℕ, ◌*◌, ◌≤◌, ◌<◌}
use native.Mathlib.Nat.{mul_comm}
use lib.ListN.{length, take}
use lib.Ieee.{Float}
use Rattle.answers.specs.Paper.{Answer, paper, given, if_done}
use Rattle.complex.specs.Zeros.{zeros}
use Rattle.sweeps.specs.declared.Sweeps.{Sweeps}
use Rattle.svd_thin.specs.Thin.{Thin}
use Rattle.std.proofs.Common.{Result}
use Rattle.answers.specs.declared.Refusal.{Refusal}
use Rattle.sweeps.specs.Sweeping.{no_sweeps}
use Rattle.factored.specs.Factored.{kept_sweeps}
use Rattle.factored.proofs.Laws.{kept_by}
use Rattle.svd.specs.Svd.{work_of, SvdExact, SvdFactored, SvdFinished}
use Rattle.svd.proofs.SvdLaws.{work-wide, work-tall, wide-made, tall-made}
use Rattle.svd_loaded.specs.Loaded.{SvdLoaded}

pub loaded-wide : (m n : ℕ) (scratch : List Float) {main s other : List Float} {q : Sweeps} → m < n → Thin n m true (take (2 * (m * n)) scratch) q main s other
    → (a : List Float) → take (2 * (m * n)) scratch ≡ work_of a m n → SvdFactored a m n q other s main
loaded-wide m n scratch h t a e = wide-made a m n h (e ∙ sym (work-wide a m n h)) t

pub loaded-tall : (m n : ℕ) (scratch : List Float) {main s other : List Float} {q : Sweeps} → n ≤ m → Thin m n false (take (2 * (n * m)) scratch) q main s other
    → (a : List Float) → take (2 * (m * n)) scratch ≡ work_of a m n → SvdFactored a m n q main s other
loaded-tall m n scratch h t a e =
    tall-made a m n h (ap (λ (x : ℕ). take (2 * x) scratch) (mul_comm n m) ∙ e ∙ sym (work-tall a m n h)) t

pub loaded : (m n : ℕ) (u₀ s₀ vt₀ : List Float) {w u s vt u' s' vt' : List Float} {t : Sweeps} (q : Answer) (r : Result Sweeps Refusal) {la lt : ℕ}
    → SvdExact m n la (length u₀) (length s₀) (length vt₀) lt
    → length u ≡ length u₀ → length s ≡ length s₀ → length vt ≡ length vt₀
    → ((a : List Float) → w ≡ work_of a m n → SvdFactored a m n t u s vt)
    → SvdFinished u s vt q u' s' vt'
    → (paper r ≡ paper q) × (given no_sweeps r ≡ kept_sweeps q t)
    → (a : List Float) → w ≡ work_of a m n → SvdLoaded a m n r u' s' vt'
loaded m n u₀ s₀ vt₀ {w} {u} {s} {vt} {u'} {s'} {vt'} q r e lu ls lv made h i a is =
    let f = made a is in
    record {
      answer = i.0 ∙ h.answer ∙ rw (f.u-is, f.s-is, f.vt_is);
      u-is = rw i.0 (h.u-is ∙ ap₂ (λ (x : List Float) (y : ℕ). if_done (paper q).0 x (zeros y)) f.u-is (lu ∙ e.u-is));
      s-is = rw i.0 (h.s-is ∙ ap₂ (λ (x : List Float) (y : ℕ). if_done (paper q).0 x (zeros y)) f.s-is (ls ∙ e.s-is));
      vt_is = rw i.0 (h.vt_is ∙ ap₂ (λ (x : List Float) (y : ℕ). if_done (paper q).0 x (zeros y)) f.vt_is (lv ∙ e.vt_is));
      sweeps-are = kept_by r q i.0 f.sweeps-are i.1;
    }
