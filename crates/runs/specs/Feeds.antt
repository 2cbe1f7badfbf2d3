-- The same measurement as a feed's. Table indices go mod 15 and a run's first sample is index 0, so the feed's first sample stands at a place k of
-- the runs that equals its number mod 15.
use Rattle.std.specs.Prelude.{◌≡◌, List, ℕ, ◌+◌, ◌-◌, ◌/◌, ◌%◌, ◌<◌, ◌≤◌, ℤ, length, get_or}
use Rattle.model.specs.declared.report.Figures.{Figures}
use Rattle.model.specs.Filter.{no_sample}
use Rattle.sampling.specs.Tags.{spacing, soc_of, index_of}
use Rattle.feed.specs.Answers.{tagged}
use Rattle.feed.specs.History.{History, centre_of, answered}
use Rattle.runs.specs.Runs.{said_figures, sample_at, measured}

-- the runs, of one length, hold the history's samples from place k on, and may go on after them; k is the first sample's number mod 15
pub record Holding (h : History) (a b c : List ℤ) (k : ℕ) : Type 0 where
  pub index : k % 15 ≡ h.first % 15
  pub b_length : length b ≡ length a
  pub c_length : length c ≡ length a
  pub room : k + length h.samples ≤ length a
  pub samples : (j : ℕ) → j < length h.samples → sample_at a b c (k + j) ≡ get_or h.samples j no_sample

-- one and the same figures: the feed's report has them, with its tag, and the whole run answers them, without, at the centre that stands as far
-- after place k as the report's does after the first sample
pub record SameMeasurement (h : History) (a b c : List ℤ) (k : ℕ) : Type 0 where
  pub figures : Figures
  pub of_the_feed : answered h
      ≡ tagged (soc_of h.nominal (centre_of h)) (index_of h.nominal (centre_of h) / spacing h.nominal h.rate) figures
  pub of_the_run : measured a b c (k + (centre_of h - h.first)) h.nominal ≡ said_figures figures
