-- `salvage::mend_slots` meets its contract: a turn mends one slot more. Assumes nothing.
use Rattle.salvage.proofs.Turns.{MendedTo}
use Rattle.salvage.proofs.mend_slots.Given as goal

abbrev pub invariant-loop-k : goal.invariant-loop-k
invariant-loop-k l = MendedTo l.k l.initial.image l.image l.slots
