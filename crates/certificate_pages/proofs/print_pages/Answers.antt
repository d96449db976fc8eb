-- `certificate_pages::print_pages` meets its contract at each way out.
-- Assumes nothing.
use Rattle.certificate_pages.proofs.PagesLaws.{called-short, called-done, called-counts, none-counts}
use Rattle.certificate_pages.proofs.print_pages.Goals as goal

pub returns-then-text-lt102400 : goal.returns-then-text-lt102400
returns-then-text-lt102400 c = record { called = called-short _ _ _ _ c.if-text-lt102400.true; prefix_len = none-counts c.args.text.now }

pub returns : goal.returns
returns c = record { called = called-done _ _ _ _ c.put_pages.result _ c.if-text-lt102400.false c.put_pages.ensures.there.puts c.put_pages.ensures.answered; prefix_len = called-counts _ (0, 0) _ _ c.put_pages.result _ c.if-text-lt102400.false c.put_pages.ensures.there.puts c.put_pages.ensures.there.short }
