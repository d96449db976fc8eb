-- What a reader may want to know of this crate's definitions and calls. Assumes nothing.
use mathlib.Core.Path.{◌≡◌, sym, ap, ◌∙◌}
use Prim.Native.Nat.{ℕ}
use Rattle.std.specs.Prelude.{Result}
use Rattle.answers.specs.declared.Refusal.{Refusal}
use Rattle.answers.specs.Paper.{Reply, paper, given, if_done}
use Rattle.answers.proofs.Theorems.{result-one}
use Rattle.site_ranks.specs.Ranks.{Ranked}

-- Only one outcome meets the contract of `cut_rank` and of `widest_block_cut`.
pub ranked-one : (reply : Reply) (value : ℕ) (r q : Result ℕ Refusal) → Ranked reply value r → Ranked reply value q → r ≡ q
ranked-one reply value r q a b =
    let e : paper r ≡ paper q = a.answer-is ∙ sym b.answer-is in
    let g : given 0 r ≡ given 0 q = a.rank_is ∙ ap (λ (z : Reply). if_done z.0 value 0) e ∙ sym b.rank_is in
    result-one r q e (λ x y f h. sym (ap (given 0) f) ∙ g ∙ ap (given 0) h)
