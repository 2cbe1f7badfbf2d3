-- Any two answers that a public contract admits coincide: each contract says that the answer is one thing. Assumes nothing.
use Rattle.std.proofs.Common.{◌≡◌, ℕ, List, sym, ◌∙◌}
use Rattle.model.specs.Report.{Measuring, NewestPhase, ThreePhases, MeasuringKept}
use Rattle.model.specs.declared.angle.Phase.{Phase}
use Rattle.model.specs.declared.filter.Sample.{Sample}
use Rattle.model.specs.declared.report.Figures.{Figures}
use Rattle.model.specs.declared.report.Phases.{Phases}
use Rattle.sampling.specs.declared.Nominal.{Nominal}

pub measure_unique : (window : List Sample) (index : ℕ) (nominal : Nominal) (r s : Figures) → Measuring window index nominal r → Measuring window index nominal s → r ≡ s
measure_unique window index nominal r s p q = p ∙ sym q

pub newest_phase_unique : (window : List Sample) (index : ℕ) (r s : Phase) → NewestPhase window index r → NewestPhase window index s → r ≡ s
newest_phase_unique window index r s p q = p ∙ sym q

pub phases_of_unique : (window : List Sample) (index : ℕ) (r s : Phases) → ThreePhases window index r → ThreePhases window index s → r ≡ s
phases_of_unique window index r s p q = p ∙ sym q

pub measure_kept_unique : (window : List Sample) (index : ℕ) (kept : Phases) (nominal : Nominal) (r s : Figures)
    → MeasuringKept window index kept nominal r → MeasuringKept window index kept nominal s → r ≡ s
measure_kept_unique window index kept nominal r s p q = p ∙ sym q
