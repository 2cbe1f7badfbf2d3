-- What the rule gives for the three newest centres: the phases move back one with each sample, and a report joined from them is the history rule's.
-- Assumes nothing.
use mathlib.Core.Path.{◌≡◌, refl, ap}
use mathlib.Core.Bool.{Bool, true, false, cond}
use mathlib.Core.List.{[], ◌∷◌, ◌++◌}
use Prim.Native.Nat.{ℕ, suc, ◌+◌, ◌-◌, ◌≤◌, ◌<◌}
use native.Mathlib.Omega.{arith}
use lib.Dec.{leb}
use lib.ListN.{length, length-append, get_or-append}
use borrow.Author.Tests.{le-leb, lt-leb, leb-true, leb-false}
use Rattle.model.specs.declared.filter.Sample.{Sample}
use Rattle.model.specs.Filter.{windowed, no_sample}
use Rattle.model.specs.Report.{phase_at, figures_at, figures_with, three_phase}
use Rattle.model.proofs.Same.{phase_same}
use Rattle.feed.specs.Answers.{Said, taken}
use Rattle.feed.specs.History.{History, next_number, centre_of, grown, is_due, report_at, answered}
use Rattle.feed.specs.Kept.{zero_phase, newest_centre, phase_back, phases_of, zero_phases, report_from, answered_from}
use Rattle.feed.proofs.Alike.{centre_back}

-- ---- one sample more

module _ (h : History) (s : Sample) where
  one_more : length (h.samples ++ (s ∷ [])) ≡ length h.samples + 1
  one_more = length-append h.samples (s ∷ [])

  -- a sample that was there is there under the same number
  still_there : (n : ℕ) → n < next_number h → h.first ≤ n → windowed (h.samples ++ (s ∷ [])) h.first n ≡ windowed h.samples h.first n
  still_there n l m = get_or-append h.samples (s ∷ []) no_sample (n - h.first) (omega arith)

  -- the centre that was the newest, or so many before it, is then one more before it
  pub back_grows : (back : ℕ) → phase_back (grown h s) (suc back) ≡ phase_back h back
  unfolding phase_back grown
  back_grows back = go (leb (29 + back) (length h.samples)) refl
    where
      at : (i : ℕ) → 29 + back ≤ length h.samples → i + (15 + back) ≡ next_number h
          → phase_at three_phase (windowed (h.samples ++ (s ∷ [])) h.first) i ≡ phase_at three_phase (windowed h.samples h.first) i
      at i n c =
          phase_same (windowed (h.samples ++ (s ∷ [])) h.first) (windowed h.samples h.first) i i (omega arith) (omega arith) refl
          (λ j l. still_there (i + j - 14) (omega arith) (omega arith)) three_phase

      go : (b : Bool) → leb (29 + back) (length h.samples) ≡ b
          → cond (leb (29 + suc back) (length (h.samples ++ (s ∷ []))))
          (phase_at three_phase (windowed (h.samples ++ (s ∷ [])) h.first) (h.first + length (h.samples ++ (s ∷ [])) - 1 - 14 - suc back)) zero_phase
          ≡ cond b (phase_at three_phase (windowed h.samples h.first) (newest_centre h - back)) zero_phase
      go true e =
          let n = leb-true (29 + back) (length h.samples) e in
          let t = le-leb (29 + suc back) (length (h.samples ++ (s ∷ []))) (omega (arith, one_more)) in
          let c : h.first + length (h.samples ++ (s ∷ [])) - 1 - 14 - suc back ≡ newest_centre h - back = omega (arith, one_more) in
          rw (t, c) (at (newest_centre h - back) n (centre_back h back n))
      go false e = rw (lt-leb (29 + suc back) (length (h.samples ++ (s ∷ []))) (omega (arith, one_more, leb-false (29 + back) (length h.samples) e)))

-- ---- no sample

pub none_yet : (h : History) → length h.samples ≡ 0 → phases_of h ≡ zero_phases
unfolding phases_of phase_back
none_yet h e = rw e

-- ---- a report

module _ (h : History) (full : 31 ≤ length h.samples) where
  back_is : (back i : ℕ) → back ≤ 2 → newest_centre h - back ≡ i → phase_back h back ≡ phase_at three_phase (windowed h.samples h.first) i
  unfolding phase_back
  back_is back i l e = rw (le-leb (29 + back) (length h.samples) (omega (arith, full)), e)

  report_true : report_from h (centre_of h) (phases_of h) ≡ report_at h (centre_of h)
  unfolding report_from report_at figures_with figures_at phases_of
  report_true =
      rw (
        back_is 2 (centre_of h - 1) (omega arith) (omega arith),
        back_is 1 (centre_of h) (omega arith) (omega arith),
        back_is 0 (centre_of h + 1) (omega arith) (omega (arith, full)),
      )

-- answered from the phases that the rule gives is answered by the history rule
pub answered_true : (h : History) → answered_from h (phases_of h) ≡ answered h
unfolding answered_from answered is_due
answered_true h = go (leb 31 (length h.samples)) refl
  where
    go : (b : Bool) → leb 31 (length h.samples) ≡ b → cond (is_due h) (report_from h (centre_of h) (phases_of h)) taken ≡ cond (is_due h) (report_at h (centre_of h)) taken
    go true e = ap (λ (r : Said). cond (is_due h) r taken) (report_true h (leb-true 31 (length h.samples) e))
    go false e = rw e
