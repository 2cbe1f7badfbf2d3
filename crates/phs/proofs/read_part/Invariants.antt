-- The call has gone on from where it began. Assumes nothing.
use Rattle.std.proofs.Common.{◌-◌, length}
use Rattle.phs.specs.Inside.{Onward}
use Rattle.phs.proofs.read_part.Given as goal

abbrev pub invariant-loop-i : goal.invariant-loop-i
invariant-loop-i l =
    Onward l.part
    (record { reader = l.initial.reader; bank = l.initial.bank; out = l.initial.out; read = 0; written = 0 })
    (record { reader = l.reader; bank = l.bank; out = l.out; read = l.i; written = l.at })

abbrev pub decreases-loop-i : goal.decreases-loop-i
decreases-loop-i l = length l.part - l.i
