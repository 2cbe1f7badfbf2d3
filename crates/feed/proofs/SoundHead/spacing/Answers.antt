-- `SoundHead::spacing` answers D: a served rate is not 0. Assumes nothing.
use Rattle.std.proofs.Common.{arith}
use Rattle.feed.proofs.Sound.{sound}
use Rattle.feed.proofs.SoundHead.spacing.Goals as goal

pub nonzero_div-result : goal.nonzero_div-result
nonzero_div-result c = omega (arith, (sound c.args.self.head c.args.self.in_order).rated.slow)
