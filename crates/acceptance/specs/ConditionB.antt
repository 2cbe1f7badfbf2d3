-- Condition B, the figures. The class P model with document 01's tables and whole-number rules is `figures_at`;
-- which report a feed gives at a sample is the history rule `told`.
use Rattle.std.specs.Prelude.{◌≡◌, true, false, Option, Some, Result, Ok, List, ℕ, ◌+◌, ◌≤◌, ℤ, length}
use Rattle.refusals.specs.declared.Refused.{Refused}
use Rattle.model.specs.declared.report.Figures.{Figures}
use Rattle.model.specs.Report.{figures_at, three_phase}
use Rattle.feed.specs.declared.Report.{Report}
use Rattle.sampling.specs.Tags.{served_nominal, nominal_of}
use Rattle.feed.specs.Answers.{said_report, said}
use Rattle.feed.specs.History.{History, centre_of, is_due, told}
use Rattle.feed.specs.Ring.{history_of}
use Rattle.bank.specs.Slot.{slot_at, feed_in}
use Rattle.bank.specs.Damage.{is_open, is_damaged}
use Rattle.bank.specs.Calls.{Pushing}
use Rattle.runs.specs.Runs.{sample_at, RunMeasuring}
use Rattle.runs.specs.Feeds.{Holding, SameMeasurement}
use Rattle.phs.specs.Cut.{EveryCut}
use Rattle.acceptance.specs.Runs.{I16, sample_by}
use Rattle.acceptance.specs.Reached.{Reached}
use Rattle.acceptance.specs.Within.{WithinLimits}

-- demand 2; its first sentence is read for reached banks (CR 6)
pub record ConditionB : Type 0 where
  -- "Each report holds the positive sequence, frequency, rate of change of frequency and UTC tag that the class P model .. gives":
  -- a report that a push gives is the history rule's, for the samples held and this one
  pub each_report : (bank after : List ℕ) (slot : ℕ) (a b c : I16) (r : Report) → Reached bank → Pushing bank slot (sample_by a b c) (Ok (Some r)) after
      → said_report r ≡ (told (history_of (feed_in (slot_at bank slot))) (sample_by a b c)).answer
  -- and no report is left out: a push to an open slot that is not damaged is answered what the history rule says.
  -- Over whole runs of calls condition C says the same of every feed
  pub each_push : (bank after : List ℕ) (slot : ℕ) (a b c : I16) (r : Result (Option Report) Refused)
      → Reached bank → length bank ≡ 4096 → slot ≤ 15
      → is_damaged (slot_at bank slot) ≡ false → is_open (slot_at bank slot) ≡ true → Pushing bank slot (sample_by a b c) r after
      → said r ≡ (told (history_of (feed_in (slot_at bank slot))) (sample_by a b c)).answer
  -- "Index 0 of the opening second is never reported": a report's centre is 15 or more after the first sample
  pub never_the_first : (h : History) → is_due h ≡ true → h.first + 15 ≤ centre_of h
  -- "The whole-run measurement .. answers the report without a tag"
  pub each_run : (a b c : List ℤ) (centre nominal : ℕ) (f : Figures) → RunMeasuring a b c centre nominal (Ok f)
      → f ≡ figures_at three_phase (nominal_of nominal) (sample_at a b c) centre
  -- "the same measurement over whole lent sample runs": the same as a feed's
  pub same_figures : (h : History) (a b c : List ℤ) (k : ℕ)
      → served_nominal h.nominal ≡ true → is_due h ≡ true → Holding h a b c k → SameMeasurement h a b c k
  -- "R and S count the reports and samples of the rule": however a file is cut, what comes out is the listing that
  -- the header's refusals and the history rule give
  pub each_listing : EveryCut
  -- "Where a verdict is due, a device is within TVE, FE or RFE exactly when its error doesn't exceed the limit for its class and test"
  pub within : WithinLimits
