-- `SoundHead::centre` answers where the sample 15 before the next one stands: in the same second, or in the one before. Assumes nothing.
use Rattle.std.proofs.Common.{arith}
use Rattle.feed.proofs.Sound.{sound}
use Rattle.feed.proofs.Standing.{later, same_second, second_before}
use Rattle.feed.proofs.SoundHead.centre.Goals as goal

pub returns-then-self-ge15 : goal.returns-then-self-ge15
returns-then-self-ge15 c =
    let h = c.args.self in
    same_second h.head (sound h.head h.in_order) c.requires c.if-self-ge15.true

pub overflow_sub-result-2 : goal.overflow_sub-result-2
overflow_sub-result-2 c =
    let h = c.args.self in
    let l = later h.head (sound h.head h.in_order) c.requires c.if-self-ge15.false in
    omega arith

pub overflow_sub-result-3 : goal.overflow_sub-result-3
overflow_sub-result-3 c =
    let h = c.args.self in
    omega (arith, c.sampling.ensures, (sound h.head h.in_order).rated.low)

pub returns : goal.returns
returns c =
    let h = c.args.self in
    rw c.sampling.ensures (second_before h.head (sound h.head h.in_order) c.requires c.if-self-ge15.false)
