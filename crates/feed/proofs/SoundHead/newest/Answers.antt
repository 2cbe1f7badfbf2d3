-- `SoundHead::newest` is the newest phase of the window, or zero, by the samples held. Assumes nothing.
use Rattle.std.proofs.Common.{◌∙◌}
use Rattle.model.specs.Filter.{lent_samples}
use Rattle.feed.proofs.Sound.{sound}
use Rattle.feed.proofs.Centres.{newest_so}
use Rattle.feed.proofs.SoundHead.newest.Goals as goal

pub returns : goal.returns
returns c =
    let h = c.args.self in
    c.phase_if.ensures ∙ newest_so h.head (sound h.head h.in_order) (lent_samples 31 c.args.window.now) _ (rw c.from.ensures at c.newest_phase.ensures)
