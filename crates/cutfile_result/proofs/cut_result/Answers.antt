use Rattle.cutfile_result.proofs.ResultLaws.{header_refused, header-fits, header-done}
use borrow.Author.Rules.{rules}
use Rattle.cutfile_result.proofs.cut_result.Goals as goal

pub of_file-requires : goal.of_file-requires
of_file-requires c = (header-fits _ _ c.in-Ok.ensures, search rules, search rules)

pub returns-in-Ok : goal.returns-in-Ok
returns-in-Ok c = header-done _ _ c.in-Ok.ensures _ _ _ _ _ c.of_file.ensures c.of_file.auto.list c.of_file.auto.values

pub returns-in-Err : goal.returns-in-Err
returns-in-Err c = header_refused _ _ c.in-Err.ensures _ _
