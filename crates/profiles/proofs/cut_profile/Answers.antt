-- `profiles::cut_profile` meets its contract: refused before the work, or the work done on the needed parts. Assumes nothing.
use Rattle.std.proofs.lemmas.Result.{err_from_is_err_and}
use Rattle.answers.proofs.Stopped.{passed}
use Rattle.profiles.proofs.ProfileLaws.{profile-worked, profile-refused}
use Rattle.profiles.proofs.cut_profile.Goals as goal

pub returns-in_err-check : goal.returns-in_err-check
returns-in_err-check c =
    let p = err_from_is_err_and c.from_residual.result c.from_residual.ensures.1 in
    rw (p.1, p.2) (profile-refused _ _ _ _ _ _ _ _ _ _ c.in_err-check.ensures.answer)

pub returns : goal.returns
returns c =
    profile-worked _ _ _ _ _ _ _ _ _ c.work.result c.bit-cells.ensures c.bit-side.ensures c.values_room-room.ensures
    (passed _ _ _ c.check.ensures.answer c.in_ok-check.was) c.work.ensures
