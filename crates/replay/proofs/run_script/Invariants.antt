-- What is held stays within its bytes.
use Rattle.std.proofs.Common.{◌≤◌, length}
use Rattle.replay.proofs.run_script.Given as goal

abbrev pub invariant-loop : goal.invariant-loop
invariant-loop l = l.held ≤ length l.input
