-- `SoundHead::report` answers the report that is due: its tag from the centre, its figures from the window. Assumes nothing.
use Rattle.std.proofs.Common.{◌≡◌, ◌-◌, ◌<◌, FitsSigned, ◌∙◌, arith, rules, mod-lt}
use Rattle.std.specs.Int.{w32, w64}
use Rattle.std.proofs.lemmas.Int.{to_z-of_z}
use Rattle.model.specs.Filter.{windowed, lent_samples}
use Rattle.model.specs.Report.{figures_with, three_phase}
use Rattle.sampling.specs.Tags.{nominal_of}
use Rattle.sampling.specs.Sampling.{sampling_of}
use Rattle.feed.specs.Answers.{tagged}
use Rattle.feed.specs.Ring.{next_number_of}
use Rattle.feed.specs.Inside.{centre_number, centre_at, report_with}
use Rattle.feed.proofs.Sound.{sound}
use Rattle.feed.proofs.Standing.{spacing_positive, frame_below}
use Rattle.feed.proofs.Due.{due_there, due_not, due_full}
use Rattle.feed.proofs.Turning.{by_newest}
use Rattle.feed.proofs.SoundHead.report.Goals as goal

pub nonzero_div-frame : goal.nonzero_div-frame
nonzero_div-frame c =
    let h = c.args.self in
    rw c.spacing.ensures (spacing_positive _ _ (sound h.head h.in_order).rated)

pub overflow_cast-frame : goal.overflow_cast-frame
overflow_cast-frame c =
    let h = c.args.self.head in
    let v = (sound h c.args.self.in_order).rated in
    let i : (centre_at h).index < sampling_of h.nominal = mod-lt (centre_number h) (omega (arith, v.low)) in
    let centre_is = (due_there h c.in_ok-centre.ensures).1 in
    rw (centre_is, c.spacing.ensures)
    (record { fits = omega (arith, frame_below h.nominal h.rate (centre_at h).index v i, v.fast) })

pub returns-in_err-centre : goal.returns-in_err-centre
returns-in_err-centre c = rw (c.from_residual.ensures, due_not c.args.self.head c.in_err-centre.ensures)

pub returns : goal.returns
unfolding report_with tagged
returns c =
    let due = due_there c.args.self.head c.in_ok-centre.ensures in
    let m = c.measure_kept-figures in
    let k = c.args.kept in
    let h = c.args.self.head in
    let w = lent_samples 31 c.args.window.now in
    let figures : m.result ≡ figures_with three_phase (nominal_of h.nominal) (windowed w (next_number_of h - 30)) (centre_number h) k =
    (rw (c.from.ensures, c.nominal_of.ensures) at m.ensures) ∙ by_newest (nominal_of h.nominal) w k h (sound h c.args.self.in_order) (due_full h due.0) in
    let re : FitsSigned w64 m.result.re = search rules in
    let im : FitsSigned w64 m.result.im = search rules in
    let d1 : FitsSigned w32 m.result.d1 = search rules in
    let d2 : FitsSigned w32 m.result.d2 = search rules in
    rw (
      to_z-of_z w64 m.result.re re,
      to_z-of_z w64 m.result.im im,
      to_z-of_z w32 m.result.d1 d1,
      to_z-of_z w32 m.result.d2 d2,
      due.0,
      due.1,
      c.spacing.ensures,
      figures,
    )
