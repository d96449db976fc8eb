-- `cuts::cut_over` meets its contract. Assumes nothing.
use Rattle.answers.proofs.Stopped.{was-done}
use Rattle.cuts.proofs.CutLaws.{ready-sides, lengths-done}
use Rattle.cuts.proofs.cut_over.Goals as goal

pub fill_cut-requires : goal.fill_cut-requires
fill_cut-requires c =
    let d = lengths-done _ _ _ (was-done _ _ c.cut_lengths.ensures c.in_ok-cut_lengths.was) in
    ready-sides _ _ _ _ c.requires d.0 d.1
