use mathlib.Core.Path.{sym, ◌∙◌, ap}
use Prim.Native.Nat.{ℕ, ◌+◌}
use lib.ListN.{drop}
use lib.Bits.{or_lt, bit_or}
use lib.Pow.{pow-lt}
use Rattle.qubits.specs.Spread.{mask_from}
use Rattle.qubits.proofs.NamedLaws.{mask_end, mask-more}
use Rattle.qubits.proofs.mask_of.Goals as goal

pub loop-q-preserved : goal.loop-q-preserved
loop-q-preserved c =
    let i = c.loop-q.q-index in
    let h = c.loop-q-test.true in (
      c.loop-q.invariant.0 ∙ mask-more _ _ i h ∙ ap (λ (b : ℕ). mask_from (bit_or c.loop-q.mask b) (drop (i + 1) c.args.list.now)) (sym c.bit-mask.ensures),
      rw c.bit-mask.ensures (or_lt _ _ _ c.loop-q.invariant.1 (pow-lt (c.requires.below i h))),
    )

pub returns : goal.returns
returns c = (sym (c.loop-q.invariant.0 ∙ mask_end _ _ _ c.loop-q-test.false), c.loop-q.invariant.1)
