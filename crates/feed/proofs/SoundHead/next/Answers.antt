-- `SoundHead::next` answers the head after one sample more, by whether the sample is the last of its second. Assumes nothing.
use Rattle.std.proofs.Common.{refl, arith, rules}
use Rattle.feed.proofs.Sound.{sound}
use Rattle.feed.proofs.Due.{second_goes_on, second_ends, time_ends}
use Rattle.feed.proofs.SoundHead.next.Goals as goal

pub overflow_add-self : goal.overflow_add-self
overflow_add-self c =
    let s = sound c.args.self.head c.args.self.in_order in
    record { fits = omega (arith, s.held) }

pub overflow_add-next : goal.overflow_add-next
overflow_add-next c =
    let s = sound c.args.self.head c.args.self.in_order in
    record { fits = omega (arith, s.index, s.rated.high) }

pub returns-then-next-sampling : goal.returns-then-next-sampling
returns-then-next-sampling c =
    let h = c.args.self in
    second_goes_on h.head (sound h.head h.in_order) _ _ c.min.ensures (rw c.place.ensures at c.next.ensures) (omega (arith, c.sampling.ensures))

pub returns-in-Some : goal.returns-in-Some
returns-in-Some c =
    let h = c.args.self in
    second_ends h.head (sound h.head h.in_order) _ _ c.min.ensures (rw c.place.ensures at c.next.ensures) (omega (arith, c.sampling.ensures)) _ c.in-Some.ensures.0 c.in-Some.ensures.1

pub returns-in-None : goal.returns-in-None
returns-in-None c =
    let h = c.args.self in
    (refl, time_ends h.head (sound h.head h.in_order) (omega (arith, c.sampling.ensures)) (search rules) c.in-None.ensures)
