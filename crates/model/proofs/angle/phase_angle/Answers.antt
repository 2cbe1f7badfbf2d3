-- `phase_angle` is the angle: scaled, turned and stepped as the definition has it, each within what the next asks. Assumes nothing.
use Rattle.std.proofs.Common.{lit≤, to_z-of_z, w64, SFits, rules}
use Rattle.model.specs.Angle.{phase_angle}
use Rattle.model.specs.Bounds.{cap}
use Rattle.model.proofs.Quadrant.{turned_sized, scaled_sized}
use Rattle.model.proofs.Stepping.{within_60}
use Rattle.model.proofs.angle.phase_angle.Goals as goal

pub first_quadrant-v-requires : goal.first_quadrant-v-requires
first_quadrant-v-requires c = rw c.times_65536.ensures (within_60 0 (lit≤ tt) (scaled_sized c.args.p c.requires))

pub steps_left-requires-clause-sized : goal.steps_left-requires-clause-sized
steps_left-requires-clause-sized c =
    let f : SFits w64 c.first_quadrant-v.result.re = search rules in
    let g : SFits w64 c.first_quadrant-v.result.im = search rules in
    rw (to_z-of_z f, to_z-of_z g, c.first_quadrant-v.ensures, c.times_65536.ensures) (turned_sized (cap 0) _ (scaled_sized c.args.p c.requires))

pub returns : goal.returns
unfolding phase_angle
returns c =
    let f : SFits w64 c.first_quadrant-v.result.re = search rules in
    let g : SFits w64 c.first_quadrant-v.result.im = search rules in
    rw (c.steps_left.ensures, to_z-of_z f, to_z-of_z g, c.first_quadrant-v.ensures, c.times_65536.ensures)
