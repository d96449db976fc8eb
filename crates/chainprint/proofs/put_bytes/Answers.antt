-- `chainprint::put_bytes` meets its contract. Assumes nothing.
use native.Mathlib.Omega.{arith}
use Rattle.cutfile_result.proofs.ResultLaws.{header-fits}
use Rattle.chainprint.proofs.PrintoutLaws.{refused-counts, file-refused, file-read}
use Rattle.chainprint.proofs.put_bytes.Goals as goal

pub put_file-requires : goal.put_file-requires
put_file-requires c = record { long_enough = header-fits _ _ c.in-Ok.ensures; out_len = c.requires }

pub returns-in-Ok : goal.returns-in-Ok
returns-in-Ok c = record { puts = file-read _ _ c.in-Ok.ensures _ _ _ c.put_file.ensures.puts; prefix_len = c.put_file.ensures.prefix_len }

pub returns-in-Err : goal.returns-in-Err
returns-in-Err c =
    record {
      puts = file-refused _ _ c.in-Err.ensures _ _ _ c.put_refused.ensures;
      prefix_len = refused-counts _ _ _ _ (omega (arith, c.requires)) c.put_refused.ensures;
    }
