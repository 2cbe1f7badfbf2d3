-- No more is held than there is room for, and each turn holds more.
use Rattle.std.proofs.Common.{◌-◌, ◌≤◌, length}
use Rattle.mend.proofs.read_input.Given as goal

abbrev pub invariant-loop-held : goal.invariant-loop-held
invariant-loop-held l = l.held ≤ length l.room

abbrev pub decreases-loop-held : goal.decreases-loop-held
decreases-loop-held l = 4097 - l.held
