-- Document 02, CR 6: the phases that a feed keeps, those that the rule gives, and the report that is joined from phases that are kept.
use Rattle.std.specs.Prelude.{false, cond, ℕ, ◌+◌, ◌-◌, ◌/◌, leb, length}
use Rattle.model.specs.declared.angle.Phase.{Phase}
use Rattle.model.specs.declared.report.Phases.{Phases}
use Rattle.model.specs.Angle.{zero_turn}
use Rattle.model.specs.Filter.{windowed}
use Rattle.model.specs.Report.{phase_at, figures_with, three_phase}
use Rattle.sampling.specs.Tags.{nominal_of, spacing, soc_of, index_of}
use Rattle.feed.specs.Answers.{Said, taken, tagged}
use Rattle.feed.specs.History.{History, next_number, centre_of, is_due}

-- ---- the phases that the rule gives

-- zero and flag 0
abbrev pub zero_phase : Phase
zero_phase = record { angle = zero_turn; none = false }

-- the newest centre stands 14 behind the newest sample
abbrev pub newest_centre : History → ℕ
newest_centre h = next_number h - 1 - 14

-- the phase at the centre so many before the newest one: the angle and flag of its 29 samples; zero until it has 29 samples
unfoldable pub phase_back : History → ℕ → Phase
phase_back h back =
    cond (leb (29 + back) (length h.samples)) (phase_at three_phase (windowed h.samples h.first) (newest_centre h - back)) zero_phase

-- the phases of the three newest centres, oldest first
unfoldable pub phases_of : History → Phases
phases_of h = record { p = phase_back h 2; q = phase_back h 1; r = phase_back h 0 }

-- ---- the phases that are kept

-- none of the three newest centres has 29 samples
abbrev pub zero_phases : Phases
zero_phases = record { p = zero_phase; q = zero_phase; r = zero_phase }

-- the three move on by one place, and the newest centre's phase comes last
abbrev pub moved_on : Phases → Phase → Phases
moved_on kept newest = record { p = kept.q; q = kept.r; r = newest }

-- ---- the report

-- A report takes p, q and r from the three then kept; re and im are those at its centre, and its tag is the centre's
unfoldable pub report_from : History → ℕ → Phases → Said
report_from h centre kept =
    tagged (soc_of h.nominal centre) (index_of h.nominal centre / spacing h.nominal h.rate)
    (figures_with three_phase (nominal_of h.nominal) (windowed h.samples h.first) centre kept)

-- a push answers "taken", with the report if the history rule has one due at that sample and without one otherwise
unfoldable pub answered_from : History → Phases → Said
answered_from h kept = cond (is_due h) (report_from h (centre_of h) kept) taken
