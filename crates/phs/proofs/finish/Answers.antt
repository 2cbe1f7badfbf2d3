-- `finish`, by whether the line has room. Assumes nothing.
use Rattle.phs.proofs.Endings.{no_room_left, line_last}
use Rattle.phs.proofs.finish.Goals as goal

pub returns-in_default : goal.returns-in_default
returns-in_default c = no_room_left c.args.r c.args.out.now c.in_default.ensures.cases

pub returns : goal.returns
returns c = line_last c.args.r c.args.out.now c.in-Some.ensures.cases c.put_end.ensures
