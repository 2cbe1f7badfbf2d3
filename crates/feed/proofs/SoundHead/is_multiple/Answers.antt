-- `SoundHead::is_multiple` asks of index × rate and the sampling what the definition asks of the index and D. Assumes nothing.
use Rattle.std.proofs.Common.{ap}
use Rattle.sampling.specs.Sampling.{sampling_of}
use Rattle.feed.proofs.Sound.{sound}
use Rattle.feed.proofs.Standing.{multiple}
use Rattle.feed.proofs.SoundHead.is_multiple.Goals as goal

pub returns-then-self-eq50 : goal.returns-then-self-eq50
returns-then-self-eq50 c =
    let h = c.args.self in
    rw (c.from.ensures, c.from-2.ensures) (multiple _ _ c.args.index 750 (sound h.head h.in_order).rated (ap sampling_of c.if-self-eq50.true))

pub returns-else-self-eq50 : goal.returns-else-self-eq50
returns-else-self-eq50 c =
    let h = c.args.self in
    let v = (sound h.head h.in_order).rated in
    rw (c.from.ensures, c.from-2.ensures) (multiple _ _ c.args.index 900 v (ap sampling_of (v.sixty c.if-self-eq50.false)))
