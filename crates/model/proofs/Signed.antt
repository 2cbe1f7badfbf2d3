-- The lemmas with which a signed number that is read back is the number itself, where it fits. Assumes nothing.
use Rattle.std.proofs.lemmas.Int.{ints, to_z-of_z}

pub ruleset signed = (ints, to_z-of_z)
