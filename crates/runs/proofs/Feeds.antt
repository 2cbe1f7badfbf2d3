-- The whole-run measurement is a feed's: the 31 samples around the centre are the same, and so is the centre's index mod 15. Assumes nothing.
use mathlib.Core.Path.{◌≡◌, sym, ◌∙◌, ap}
use mathlib.Core.Bool.{true, false}
use mathlib.Core.List.{List}
use Prim.Native.Nat.{ℕ, ◌+◌, ◌-◌, ◌%◌, ◌≤◌, ◌<◌}
use native.Mathlib.Omega.{arith}
use lib.IntN.{ℤ}
use Rattle.std.proofs.lemmas.Bool.Decides.{nat_tests}
use lib.ListN.{length}
use Rattle.std.proofs.lemmas.Bool.{cond-true}
use Rattle.model.specs.Filter.{windowed}
use Rattle.model.specs.Report.{figures_at, three_phase}
use Rattle.model.proofs.Same.{figures_same}
use Rattle.sampling.specs.Tags.{served_nominal, nominal_of}
use Rattle.feed.specs.History.{History, centre_of, is_due, report_at, answered}
use Rattle.runs.specs.Runs.{said_figures, sample_at, differ, no_centre, measured}
use Rattle.runs.specs.Feeds.{Holding, SameMeasurement}

-- where a report is due, 31 samples are there
pub due_held : (h : History) → is_due h ≡ true → 31 ≤ length h.samples
unfolding is_due
due_held h due = grind (arith, nat_tests)

module _ (h : History) (a b c : List ℤ) (k : ℕ) (served : served_nominal h.nominal ≡ true) (due : is_due h ≡ true) (runs : Holding h a b c k) where
  enough : 31 ≤ length h.samples
  enough = due_held h due

  -- the centre in the runs
  abbrev at : ℕ
  at = k + (centre_of h - h.first)

  -- the sample j places after the first of the 31
  sample : (j : ℕ) → j < 31 → windowed h.samples h.first (centre_of h + j - 15) ≡ sample_at a b c (at + j - 15)
  sample j l = grind (arith, enough, runs.samples (length h.samples - 31 + j))

  turn : centre_of h % 15 ≡ at % 15
  turn = omega (arith, enough, runs.index)

  around : figures_at three_phase (nominal_of h.nominal) (windowed h.samples h.first) (centre_of h) ≡ figures_at three_phase (nominal_of h.nominal) (sample_at a b c) at
  around =
      figures_same (windowed h.samples h.first) (sample_at a b c) (centre_of h) at (omega (arith, enough)) (omega (arith, enough)) turn sample three_phase
      (nominal_of h.nominal)

  alike : (differ a b c).due ≡ false
  alike = grind (arith, nat_tests, runs.b_length, runs.c_length)

  centred : (no_centre a at).due ≡ false
  centred = grind (arith, nat_tests, enough, runs.room)

  answers : measured a b c at h.nominal ≡ said_figures (figures_at three_phase (nominal_of h.nominal) (sample_at a b c) at)
  unfolding measured
  answers = simp (served, alike, centred)

  pub same_measurement : SameMeasurement h a b c k
  unfolding answered report_at
  same_measurement = record {
    figures = figures_at three_phase (nominal_of h.nominal) (windowed h.samples h.first) (centre_of h);
    of_the_feed = cond-true (is_due h) _ _ due;
    of_the_run = answers ∙ ap said_figures (sym around);
  }
