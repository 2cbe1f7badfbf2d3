-- No part of any promise: what the functions of the crate answer one another, the report that comes with a sample told of the head before the sample,
-- and the bytes of places as numbers.
use Rattle.std.specs.Prelude.{Bool, cond, ◌&&◌, List, [], ◌∷◌, ℕ, zero, suc, ◌+◌, ◌-◌, ◌/◌, ◌%◌, leb, eqb, ℤ, get_or, drop}
use Rattle.bits.specs.Bits.{be16, signed16}
use Rattle.model.specs.declared.angle.Phase.{Phase}
use Rattle.model.specs.declared.filter.Sample.{Sample}
use Rattle.model.specs.declared.report.Phases.{Phases}
use Rattle.model.specs.Filter.{windowed}
use Rattle.model.specs.Report.{phase_at, figures_with, three_phase}
use Rattle.feed.specs.declared.Head.{Head}
use Rattle.feed.specs.declared.Centre.{Centre}
use Rattle.sampling.specs.Tags.{nominal_of, spacing, soc_of, index_of}
use Rattle.feed.specs.Answers.{Said, tagged}
use Rattle.feed.specs.Kept.{zero_phase}
use Rattle.feed.specs.Ring.{next_number_of, next_head}

-- the number of the sample 15 before the next one
abbrev pub centre_number : Head → ℕ
centre_number h = next_number_of h - 15

-- where it stands
abbrev pub centre_at : Head → Centre
centre_at h = record { soc = soc_of h.nominal (centre_number h); index = index_of h.nominal (centre_number h) }

-- whether a report comes with the next sample
unfoldable pub due_with : Head → Bool
due_with h = leb 30 h.held && eqb ((centre_at h).index % spacing h.nominal h.rate) 0

-- that report, of the thirty-one samples and the phases that are then held
unfoldable pub report_with : Head → List Sample → Phases → Said
report_with h window kept =
    tagged (centre_at h).soc ((centre_at h).index / spacing h.nominal h.rate)
    (figures_with three_phase (nominal_of h.nominal) (windowed window (next_number_of h - 30)) (centre_number h) kept)

-- the phase at the centre so many before the newest one, of thirty-one samples of which the last ones are held; the first stands at this index
unfoldable pub phase_over : (held index : ℕ) → List Sample → (back : ℕ) → Phase
phase_over held index window back = cond (leb (29 + back) held) (phase_at three_phase (windowed window index) (index + 30 - (14 + back))) zero_phase

-- the newest one that comes with the next sample: mod 15, the first of thirty-one stands where the last does
abbrev pub newest_with : Head → List Sample → Phase
newest_with h window = phase_over (next_head h).held h.index window 0

-- the three of the samples held: the next sample is the thirty-second, so the first stands 14 after it, mod 15
abbrev pub phases_with : Head → List Sample → Phases
phases_with h window = record {
  p = phase_over h.held (h.index + 14) window 2;
  q = phase_over h.held (h.index + 14) window 1;
  r = phase_over h.held (h.index + 14) window 0;
}

-- the first n numbers in bytes, two bytes each
unfoldable pub numbers_in : ℕ → List ℕ → List ℤ
numbers_in zero p = []
numbers_in (suc n) p = signed16 (be16 (get_or p 0 0) (get_or p 1 0)) ∷ numbers_in n (drop 2 p)
