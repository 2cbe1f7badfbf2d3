-- Document 01, "The report".
use Rattle.std.specs.Prelude.{◌≡◌, ℕ, ◌+◌, ◌-◌, ◌*◌, ◌/◌, ◌%◌, ◌^◌, cond, ◌||◌, List, ℤ, pos, ◌*ℤ◌, Float}
use Rattle.std.specs.Float.{binary64}
use Rattle.std.specs.Float.Ieee.{of_int, div}
use Rattle.model.specs.declared.angle.Angle.{Angle}
use Rattle.model.specs.declared.angle.Phase.{Phase}
use Rattle.model.specs.declared.filter.Phasor.{Phasor}
use Rattle.model.specs.declared.filter.Sample.{Sample}
use Rattle.sampling.specs.declared.Nominal.{Nominal}
use Rattle.model.specs.declared.report.Differences.{Differences}
use Rattle.model.specs.declared.report.Figures.{Figures}
use Rattle.model.specs.declared.report.Phases.{Phases}
use Rattle.model.specs.declared.report.Scale.{Scale}
use Rattle.bits.specs.Bits.{signed32}
use Rattle.sampling.specs.Sampling.{sampling}
use Rattle.model.specs.Filter.{positive, windowed}
use Rattle.model.specs.Angle.{phase_of}

-- r - p, modulo 2^32
abbrev pub difference : (p r : Angle) → ℕ
difference p r = (r.parts + (2 ^ 32 - p.parts)) % 2 ^ 32

-- r - 2q + p, modulo 2^32
unfoldable pub second_difference : (p q r : Angle) → ℕ
second_difference p q r = (r.parts + 2 * (2 ^ 32 - q.parts) + p.parts) % 2 ^ 32

-- d1 = r - p and d2 = r - 2q + p, each read as a signed 32-bit number. If any of the three has no phase, d1 = d2 = 0 and the no-phase mark is 1;
-- else it is 0
unfoldable pub differences : Phase → Phase → Phase → Differences
differences p q r =
    cond (p.none || q.none || r.none)
    (record { d1 = pos 0; d2 = pos 0; mark = 1 })
    (record { d1 = signed32 (difference p.angle r.angle); d2 = signed32 (second_difference p.angle q.angle r.angle); mark = 0 })

-- a whole number, made a float and divided once
unfoldable pub over : ℤ → ℕ → Float
over n by = div binary64 (of_int binary64 n) (of_int binary64 (pos by))

-- re and im in peak counts, each divided once by 5529600; there is no phase when both |re| and |im| are below 22118400, which is four peak counts
-- (CR 5)
abbrev pub three_phase : Scale
three_phase = record { limit = 22118400; divisor = 5529600 }

-- the frequency deviation in Hz: d1 × half the sampling, divided once by 4294967296
abbrev pub deviation_of : Nominal → ℤ → Float
deviation_of nominal d1 = over (d1 *ℤ pos (sampling nominal / 2)) 4294967296

-- ROCOF in Hz/s: d2 × the square of the sampling, divided once by 4294967296
abbrev pub rocof_of : Nominal → ℤ → Float
rocof_of nominal d2 = over (d2 *ℤ pos (sampling nominal * sampling nominal)) 4294967296

-- A report, less its tag: re, im, d1, d2, mark, and four 64-bit floats
unfoldable pub joined : Scale → Nominal → Phasor → Differences → Figures
joined scale nominal p d = record {
  re = p.re;
  im = p.im;
  d1 = d.d1;
  d2 = d.d2;
  mark = d.mark;
  re_peak = over p.re scale.divisor;
  im_peak = over p.im scale.divisor;
  deviation = deviation_of nominal d.d1;
  rocof = rocof_of nominal d.d2;
}

-- the phase at centre i
unfoldable pub phase_at : Scale → (ℕ → Sample) → ℕ → Phase
phase_at scale x i = phase_of scale.limit (positive x i)

-- the figures at centre i, 15 or more: p, q, r are the phases at centres i-1, i, i+1
unfoldable pub figures_at : Scale → Nominal → (ℕ → Sample) → ℕ → Figures
figures_at scale nominal x i = joined scale nominal (positive x i) (differences (phase_at scale x (i - 1)) (phase_at scale x i) (phase_at scale x (i + 1)))

-- what `measure` answers of 31 samples, the first of which has this index: their centre is 15 after it
abbrev pub Measuring : List Sample → ℕ → Nominal → Figures → Type 0
Measuring window index nominal r = r ≡ figures_at three_phase nominal (windowed window index) (index + 15)

-- ---- CR 6: the phases by themselves, and the figures from phases that are kept

-- what `newest_phase` answers of 31 samples, the first of which has this index: the phase at the newest centre, which stands 14 behind the newest
-- sample, the 30th after the first
abbrev pub NewestPhase : List Sample → ℕ → Phase → Type 0
NewestPhase window index r = r ≡ phase_at three_phase (windowed window index) (index + 30 - 14)

-- what `phases_of` answers of 31 samples, the first of which has this index: the phases at the three centres that they have, the oldest first
abbrev pub ThreePhases : List Sample → ℕ → Phases → Type 0
ThreePhases window index k = k ≡ record {
  p = phase_at three_phase (windowed window index) (index + 30 - 16);
  q = phase_at three_phase (windowed window index) (index + 30 - 15);
  r = phase_at three_phase (windowed window index) (index + 30 - 14);
}

-- the figures at centre i, where p, q and r are given; re and im are those at the centre
unfoldable pub figures_with : Scale → Nominal → (ℕ → Sample) → ℕ → Phases → Figures
figures_with scale nominal x i k = joined scale nominal (positive x i) (differences k.p k.q k.r)

-- what `measure_kept` answers of 31 samples and three phases
abbrev pub MeasuringKept : List Sample → ℕ → Phases → Nominal → Figures → Type 0
MeasuringKept window index kept nominal r = r ≡ figures_with three_phase nominal (windowed window index) (index + 15) kept
