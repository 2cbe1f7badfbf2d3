-- The measure is how many steps are left. Assumes nothing.
use Rattle.model.proofs.angle.+steps_left.Given as goal

abbrev pub decreases-steps_left : goal.decreases-steps_left
decreases-steps_left l = l.left
