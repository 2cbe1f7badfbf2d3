-- `open_feed`: a bank that can't be cleared can't be opened. Assumes nothing.
use Rattle.std.proofs.Common.{◌≡◌, Err, rules}
use Rattle.phs.proofs.Answering.{not_cleared}
use Rattle.phs.proofs.feeding.open_feed.Goals as goal

pub returns-in_err-clear : goal.returns-in_err-clear
returns-in_err-clear c =
    let is : c.from_residual.result ≡ Err c.in_err-clear.field-0.0 = search rules in
    rw is (not_cleared _ _ _ _ _ c.in_err-clear.ensures)
