use mathlib.Core.Path.{◌≡◌, sym, ◌∙◌}
use Prim.Native.Nat.{◌+◌, ◌*◌, min}
use Prim.Native.Nat.{◌-◌}
use native.Mathlib.Omega.{arith}
use Rattle.svd_gram.proofs.GramLaws.{gram_to-none}
use Rattle.svd_gram.proofs.TermsLaws.{block-added}
use borrow.Author.Rules.{rules}
use Rattle.svd_gram.proofs.gram_blocks.Goals as goal

pub loop-k-init : goal.loop-k-init
loop-k-init c =
    let none : min (32 * 0) c.args.m ≡ 0 = omega arith in
    (search rules, rw none (c.no_sums-g.ensures ∙ sym (gram_to-none _ _ _ _)))

pub loop-k-preserved : goal.loop-k-preserved
loop-k-preserved c =
    let now : min (32 * c.loop-k.k) c.args.m ≡ 32 * c.loop-k.k = omega arith in
    let next : min (32 * (c.loop-k.k + 1)) c.args.m ≡ 32 * c.loop-k.k + min (c.args.m - 32 * c.loop-k.k) 32 = omega arith in
    (search rules, rw (c.add_terms-g.ensures, c.loop-k.invariant.1, now, next, ← c.min-w.ensures) (block-added _ _ _ _ _ _ _ _ c.fill_terms.ensures (omega arith)))

pub returns : goal.returns
returns c =
    let e : min (32 * c.loop-k.k) c.args.m ≡ c.args.m = omega arith in
    rw e at c.loop-k.invariant.1
