-- `certificate_pages::print_certificate` meets its contract at each way out.
-- Assumes nothing.
use Rattle.certificate_pages.proofs.PagesLaws.{called-short, called-done, none-counts}
use Rattle.certificate_pages.proofs.print_certificate.Goals as goal

pub returns-then-text-lt2048 : goal.returns-then-text-lt2048
returns-then-text-lt2048 c = record { called = called-short _ _ _ _ c.if-text-lt2048.true; prefix_len = none-counts c.args.text.now }

pub returns : goal.returns
returns c = record { called = called-done _ _ _ _ c.answered.result _ c.if-text-lt2048.false c.answered.ensures.printed.puts c.answered.ensures.answer_value; prefix_len = c.answered.ensures.prefix_len }
