-- `read_part` goes on from place to place, until the part is read or no line has room. Assumes nothing.
use Rattle.phs.proofs.Onwards.{onward_then, onward_from, call_stops}
use Rattle.phs.proofs.read_part.Goals as goal

pub loop-i-preserved : goal.loop-i-preserved
loop-i-preserved c =
    let l = c.loop-i in
    onward_then l.invariant (onward_from _ l.out l.i l.at l.invariant.within l.invariant.fits c.advance-m.ensures.onward)

pub returns : goal.returns
returns c = call_stops c.loop-i.invariant c.loop-i-test.false
