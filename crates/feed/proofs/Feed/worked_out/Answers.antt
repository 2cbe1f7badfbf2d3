-- `Feed::worked_out` by its two cases: faulty numbers, and the phases of the samples that are held. Assumes nothing.
use Rattle.feed.proofs.Centres.{stays_faulty, works_out}
use Rattle.feed.proofs.Feed.worked_out.Goals as goal

pub returns-in_default : goal.returns-in_default
returns-in_default c = stays_faulty c.args.self c.in_default.ensures.1

pub returns : goal.returns
returns c =
    let h = c.in-Ok.head in
    let is = c.in-Ok.ensures in
    works_out c.args.self (rw is at h.in_order) _ (rw (c.place.ensures, is) at c.window-window.ensures) _ (rw is at c.held_phases.ensures)
