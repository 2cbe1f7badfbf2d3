-- Document 01, "Sampling and tags", and condition B: which reports a feed gives, told of the samples that it has taken, with no places and no bytes.
use Rattle.std.specs.Prelude.{Bool, cond, ◌&&◌, List, [], ◌∷◌, ◌++◌, ℕ, ◌+◌, ◌-◌, ◌*◌, ◌/◌, ◌%◌, leb, eqb, length}
use Rattle.model.specs.declared.filter.Sample.{Sample}
use Rattle.model.specs.Filter.{windowed}
use Rattle.model.specs.Report.{figures_at, three_phase}
use Rattle.refusals.specs.Refusals.{Refusal, unless_refused}
use Rattle.sampling.specs.Tags.{nominal_of, kept_rate, spacing, soc_of, index_of}
use Rattle.sampling.specs.Sampling.{sampling_of}
use Rattle.feed.specs.Answers.{Said, refused, taken, tagged}

-- the nominal and the kept rate, the number of the first sample, and the samples since, oldest first
pub record History : Type 0 where
  pub nominal : ℕ
  pub rate : ℕ
  pub first : ℕ
  pub samples : List Sample

-- the number of the sample that comes next
abbrev pub next_number : History → ℕ
next_number h = h.first + length h.samples

-- the centre of the newest 31 samples: 15 before the newest sample
abbrev pub centre_of : History → ℕ
centre_of h = next_number h - 1 - 15

-- opened at index 0 of a second, with no sample yet; the rate is the one kept
unfoldable pub opening : ℕ → ℕ → ℕ → History
opening nominal rate soc = record { nominal = nominal; rate = kept_rate nominal rate; first = soc * sampling_of nominal; samples = [] }

-- one sample more
unfoldable pub grown : History → Sample → History
grown h s = record { nominal = h.nominal; rate = h.rate; first = h.first; samples = h.samples ++ (s ∷ []) }

-- A report is centred on each index that is a multiple of D. It comes with the sample 15 after, if 31 samples are held: the centre is then 15 or
-- more after the first sample, so index 0 of the opening second is never reported.
unfoldable pub is_due : History → Bool
is_due h = leb 31 (length h.samples) && eqb (index_of h.nominal (centre_of h) % spacing h.nominal h.rate) 0

-- Its tag is the centre's SOC and the frame number, index / D; its figures are those at the centre, of the samples under their numbers
unfoldable pub report_at : History → ℕ → Said
report_at h centre =
    tagged (soc_of h.nominal centre) (index_of h.nominal centre / spacing h.nominal h.rate)
    (figures_at three_phase (nominal_of h.nominal) (windowed h.samples h.first) centre)

-- a push answers "taken", with the report if one is due at that sample and without one otherwise
unfoldable pub answered : History → Said
answered h = cond (is_due h) (report_at h (centre_of h)) taken

-- the last index of the second
abbrev pub last_index : (nominal index : ℕ) → Bool
last_index nominal index = eqb (index + 1) (sampling_of nominal)

-- 8: SOC 4294967295 and the sample is the last index of the second
abbrev pub end_of_time : (nominal soc index : ℕ) → Refusal
end_of_time nominal soc index = record { number = 8; due = eqb soc 4294967295 && last_index nominal index }

-- an answer, and the history after it
pub record Told : Type 0 where
  pub answer : Said
  pub history : History

-- one sample: refused 8, and then the history stays; else it is answered, with the history that has it
unfoldable pub told : History → Sample → Told
told h s =
    unless_refused (end_of_time h.nominal (soc_of h.nominal (next_number h)) (index_of h.nominal (next_number h)) ∷ [])
    (λ n. record { answer = refused n; history = h })
    (record { answer = answered (grown h s); history = grown h s })
