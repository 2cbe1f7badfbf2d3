-- Each record is one of the part.
use Rattle.std.proofs.Common.{◌-◌, ◌≤◌, length}
use Rattle.replay.proofs.run_all.Given as goal

abbrev pub invariant-loop-record : goal.invariant-loop-record
invariant-loop-record l = l.at ≤ length l.part

abbrev pub decreases-loop-record : goal.decreases-loop-record
decreases-loop-record l = length l.part - l.at
