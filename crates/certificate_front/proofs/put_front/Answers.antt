-- `certificate_front::put_front` meets its contract. Four texts, one after the other.
-- Assumes nothing.
use native.Mathlib.Omega.{arith}
use mathlib.Core.List.{◌++◌}
use lib.ListN.{length-append}
use Rattle.texts.proofs.TextLaws.{puts_then}
use Rattle.certificate_front.specs.Front.{page_one_line, page_two_line, head_text, one_of, front_text}
use Rattle.certificate_front.proofs.FrontLaws.{length-head, length-one_of}
use Rattle.certificate_front.proofs.put_front.Goals as goal

pub put_one-second-requires : goal.put_one-second-requires
put_one-second-requires c = record { kept = c.requires.kept; fits = omega (arith, c.requires.fits, c.put_head-first.ensures.next, c.put_head-first.auto.out, length-head page_one_line c.args.digest) }

pub put_head-third-requires : goal.put_head-third-requires
put_head-third-requires c = omega (arith, c.requires.fits, c.put_head-first.ensures.next, c.put_head-first.auto.out, length-head page_one_line c.args.digest, c.put_one-second.ensures.next, c.put_one-second.auto.out, length-one_of _ _ _ _ c.requires.kept)

pub put_list-requires : goal.put_list-requires
put_list-requires c = omega (arith, c.requires.fits, c.requires.few, c.put_head-first.ensures.next, c.put_head-first.auto.out, length-head page_one_line c.args.digest, c.put_one-second.ensures.next, c.put_one-second.auto.out, length-one_of _ _ _ _ c.requires.kept, c.put_head-third.ensures.next, c.put_head-third.auto.out, length-head page_two_line c.args.digest)

pub returns : goal.returns
unfolding front_text
returns c =
    let h = length-head page_one_line c.args.digest in
    let o = length-one_of _ _ _ _ c.requires.kept in
    let g = length-head page_two_line c.args.digest in
    let one = one_of c.args.cut c.args.n c.args.list.now c.args.values.now in
    let a = length-append (head_text page_one_line c.args.digest) one in
    let b = length-append (head_text page_one_line c.args.digest ++ one) (head_text page_two_line c.args.digest) in
    puts_then _ _ _ _ _ _ _ _ (omega (arith, c.requires.fits))
    (puts_then _ _ _ _ _ _ _ _ (omega (arith, c.requires.fits))
    (puts_then _ _ _ _ _ _ _ _ (omega (arith, c.requires.fits)) c.put_head-first.ensures c.put_one-second.ensures) c.put_head-third.ensures) c.put_list.ensures
