-- `SoundHead::place` is one of the thirty-one. Assumes nothing.
use Rattle.feed.proofs.Sound.{sound}
use Rattle.feed.proofs.SoundHead.place.Goals as goal

pub invariant_of-result : goal.invariant_of-result
invariant_of-result c = record { one_of_31 = (sound c.args.self.head c.args.self.in_order).place }
