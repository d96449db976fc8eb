-- `certificate_pages::put_both` meets its contract. Assumes nothing.
use native.Mathlib.Omega.{arith}
use Rattle.certificate_pages.proofs.PagesLaws.{few-named, front-asked, back-asked, next-few, pages-done}
use Rattle.certificate_pages.proofs.put_both.Goals as goal

pub slice_bounds-named-end : goal.slice_bounds-named-end
slice_bounds-named-end c = let b = c.requires.begun in omega (arith, few-named _ _ _ c.args.given _ _ b.is b.worked)

pub shared_ref_as_front-named : goal.shared_ref_as_front-named
shared_ref_as_front-named c = let b = c.requires.begun in few-named _ _ _ c.args.given _ _ b.is b.worked

pub put_front-next-requires : goal.put_front-next-requires
put_front-next-requires c = let b = c.requires.begun in front-asked _ _ _ c.args.given _ _ b.is b.worked _ (omega arith) c.requires.room

pub put_back-requires : goal.put_back-requires
put_back-requires c =
    let b = c.requires.begun in
    back-asked _ _ _ c.args.given _ _ b.is b.worked _ _ (omega (arith, c.requires.room, c.put_front-next.auto.out)) (next-few _ _ _ c.args.given _ _ b.is b.worked _ _ _ _ (omega arith) c.put_front-next.ensures)

pub returns : goal.returns
returns c = let b = c.requires.begun in pages-done _ _ _ c.args.given _ _ b.is b.worked _ _ _ _ _ _ _ (omega arith) c.digest-digest.ensures c.is_ok.ensures.value c.requires.room c.put_front-next.ensures c.put_back.ensures
