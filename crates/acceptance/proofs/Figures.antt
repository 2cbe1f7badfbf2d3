-- The figures of document 01 that are marked P hold: the rules are computed. Assumes nothing.
use mathlib.Core.Path.{refl}
use lib.Ieee.{of_int, div, to_bits}
use Rattle.ints.specs.Whole.{sum}
use Rattle.model.specs.Filter.{weight, offset, phase_sum, term, weighted, positive}
use Rattle.model.specs.Angle.{arctan, scaled, turned, step, steps, no_phase, phase_angle, phase_of}
use Rattle.bits.specs.Bits.{signed_in}
use Rattle.model.specs.Report.{differences, over, joined, phase_at, figures_at}
use Rattle.verdict.specs.Errors.{errors_of}
use Rattle.verdict.specs.Judging.{verdict_on}
use Rattle.acceptance.specs.Figures.{holds, FiguresHold}

pub figures_hold : FiguresHold
unfolding holds phase_of no_phase phase_angle scaled turned steps step arctan positive weighted term phase_sum weight offset sum differences joined phase_at figures_at signed_in over of_int div to_bits errors_of verdict_on
figures_hold = refl
