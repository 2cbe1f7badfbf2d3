-- No useless model and no slip is admitted: the rules are computed on the calls, and what comes out is something else. Assumes nothing.
use mathlib.Core.Path.{◌≡◌, sym, ap, ◌∙◌}
use mathlib.Core.List.{List}
use Prim.Native.Nat.{ℕ}
use native.Mathlib.Omega.{arith}
use lib.IntN.{ℤ, pos, nat_abs}
use lib.ListN.{get_or, take, drop}
use lib.Ieee.{Float, binary64, of_int, div, to_bits}
use Rattle.ints.specs.Whole.{sum}
use Rattle.bits.specs.Bits.{signed_in, bits16}
use Rattle.sampling.specs.Tags.{served_rate, kept_rate}
use Rattle.model.specs.Filter.{weight, offset, phase_sum, term, weighted, positive}
use Rattle.model.specs.Angle.{arctan, scaled, turned, step, steps, no_phase, phase_angle, phase_of}
use Rattle.model.specs.Report.{second_difference, differences, over, joined, phase_at, figures_at, figures_with}
use Rattle.feed.specs.Answers.{Said, refused, done, taken, taken_with, tagged}
use Rattle.feed.specs.Places.{zeros, sample_of, place_of, samples_of, with_place}
use Rattle.feed.specs.History.{is_due}
use Rattle.feed.specs.Kept.{phase_back, phases_of, report_from, answered_from}
use Rattle.feed.specs.Ring.{unserved, uneven, early, faulty, opened, next_head, stored, history_of, Next, pushed, worked_out}
use Rattle.bank.specs.Slot.{slot_at, with_slot, head_in, head_bytes, places_in, kept_in, kept_bytes, tail_in, tail_of, feed_in, slot_of, free_slot}
use Rattle.bank.specs.Damage.{blank, flag_over, stray, is_damaged}
use Rattle.bank.specs.Calls.{Outcome, cleared, opened_at, pushed_at, closed_at}
use Rattle.salvage.specs.Image.{salvaged, Outcome as Salvage, Said as SalvageSaid, refused as salvage_refused, mended}
use Rattle.runs.specs.Runs.{measured, Said as RunSaid, refused as run_refused, figures}
use Rattle.verdict.specs.Errors.{errors_of}
use Rattle.verdict.specs.Judging.{verdict_on, judgement}
use Rattle.header.specs.Header.{is_mark, version_in, soc_in, headed}
use Rattle.frames.specs.Checksum.{divided, after_byte, checksum}
use Rattle.frames.specs.Fields.{figure_at, device_in}
use Rattle.frames.specs.Tags.{apart, agrees}
use Rattle.frames.specs.Reading.{reading}
use Rattle.acceptance.specs.Rejected.{RefusesEverything, UselessModels, Slips}

-- ---- what is read off an answer

-- which answer it is
abbrev kind_of : Said → ℕ
kind_of (refused n) = 0
kind_of done = 1
kind_of taken = 2
kind_of (taken_with soc frame re im d1 d2 mark re_peak im_peak deviation rocof) = 3

abbrev salvage_kind : SalvageSaid → ℕ
salvage_kind (salvage_refused n) = 0
salvage_kind (mended slots) = 1

-- the frame and the re of a report; 0 where there is none
abbrev frame_of : Said → ℕ
frame_of (refused n) = 0
frame_of done = 0
frame_of taken = 0
frame_of (taken_with soc frame re im d1 d2 mark re_peak im_peak deviation rocof) = frame

abbrev re_of : Said → ℤ
re_of (refused n) = pos 0
re_of done = pos 0
re_of taken = pos 0
re_of (taken_with soc frame re im d1 d2 mark re_peak im_peak deviation rocof) = re

-- the same of a whole run: which answer it is, and the re, the d1 and the deviation of its figures
abbrev run_kind : RunSaid → ℕ
run_kind (run_refused n) = 0
run_kind (figures re im d1 d2 mark re_peak im_peak deviation rocof) = 1

abbrev run_re : RunSaid → ℤ
run_re (run_refused n) = pos 0
run_re (figures re im d1 d2 mark re_peak im_peak deviation rocof) = re

abbrev run_d1 : RunSaid → ℤ
run_d1 (run_refused n) = pos 0
run_d1 (figures re im d1 d2 mark re_peak im_peak deviation rocof) = d1

abbrev run_deviation : RunSaid → Float
run_deviation (run_refused n) = of_int binary64 (pos 0)
run_deviation (figures re im d1 d2 mark re_peak im_peak deviation rocof) = deviation

-- which answer a call gives
answer_is : {x y : Outcome} → x ≡ y → kind_of x.answer ≡ kind_of y.answer
answer_is p = ap (λ (o : Outcome). kind_of o.answer) p

-- 1 is not 0
one_not_zero : ◌≡◌ {A = ℕ} 1 0 → ⊥
one_not_zero e = omega (arith, e)

-- the sizes of two whole numbers that are one
same_size : {x y z : ℤ} → x ≡ y → x ≡ z → nat_abs y ≡ nat_abs z
same_size p q = ap nat_abs (sym p ∙ q)

refuses_everything : RefusesEverything
unfolding cleared opened_at pushed_at closed_at salvaged slot_at with_slot head_in head_bytes places_in kept_in kept_bytes tail_in tail_of feed_in slot_of free_slot blank flag_over stray is_damaged unserved uneven early faulty opened next_head stored history_of pushed zeros served_rate kept_rate sample_of place_of samples_of with_place signed_in bits16 is_due phase_back phases_of report_from answered_from figures_with worked_out measured judgement errors_of verdict_on is_mark version_in soc_in headed checksum after_byte divided figure_at device_in apart agrees reading sum weight offset phase_sum term weighted positive arctan scaled turned step steps no_phase phase_angle phase_of second_difference differences joined phase_at figures_at tagged
refuses_everything = record {
  clearing = λ r after p. omega (arith, answer_is p);
  opening = λ r after p. omega (arith, answer_is p);
  pushing = λ r after p. omega (arith, answer_is p);
  closing = λ r after p. omega (arith, answer_is p);
  salvaging = λ r after p. let e = ap (λ (o : Salvage). salvage_kind o.answer) p in omega (arith, e);
  feeding = λ r next p. let e = ap (λ (o : Next). kind_of o.answer) p in omega (arith, e);
  judging = λ r p. cc;
  reading = λ r p. cc;
  measuring = λ r p. let e = ap run_kind p in omega (arith, e);
  heading = λ r p. cc;
}

pub useless_models : UselessModels
unfolding opened_at pushed_at slot_at with_slot head_in head_bytes places_in kept_in kept_bytes tail_in tail_of feed_in slot_of blank flag_over stray is_damaged unserved uneven early faulty opened next_head stored history_of zeros served_rate kept_rate sample_of place_of samples_of with_place signed_in bits16 sum weight offset phase_sum term weighted positive arctan scaled turned step steps no_phase phase_angle phase_of second_difference differences joined phase_at figures_at tagged is_due phase_back phases_of report_from answered_from figures_with worked_out
useless_models = record {
  refuses_everything = refuses_everything;
  fixed_report = λ r after after' p q.
      let e = same_size (ap (λ (o : Outcome). re_of o.answer) p) (ap (λ (o : Outcome). re_of o.answer) q) in omega (arith, e);
  stores_nothing = λ r p. one_not_zero (sym (ap (λ (o : Outcome). get_or o.bank 3 0) p));
  place_stays = λ r after p q. one_not_zero (
      sym (ap (λ (o : Outcome). get_or (take 6 (drop 11 o.bank)) 1 0) p) ∙ ap (λ (l : List ℕ). get_or l 1 0) q);
  opening_pretended = λ after p q. one_not_zero (
      sym (ap (λ (o : Outcome). get_or (slot_at o.bank 15) 0 0) p) ∙ ap (λ (l : List ℕ). get_or l 0 0) q);
  push_pretended = λ r after p q. one_not_zero (
      sym (ap (λ (o : Outcome). get_or (slot_at o.bank 15) 3 0) p) ∙ ap (λ (l : List ℕ). get_or l 3 0) q);
  report_withheld = λ after p. omega (arith, answer_is p);
  report_of_slot_0 = λ r after p. omega (arith, answer_is p);
}

pub slips : Slips
unfolding opened_at pushed_at closed_at slot_at with_slot head_in head_bytes places_in kept_in kept_bytes tail_in tail_of feed_in slot_of free_slot blank flag_over stray is_damaged unserved uneven early faulty opened next_head stored history_of zeros served_rate kept_rate sample_of place_of samples_of with_place signed_in bits16 sum weight offset phase_sum term weighted positive arctan scaled turned step steps no_phase phase_angle phase_of second_difference differences joined phase_at figures_at tagged is_due phase_back phases_of report_from answered_from figures_with worked_out measured over of_int div to_bits
slips = record {
  negative_sequence = λ r p q. let e = ap (λ (s : RunSaid). nat_abs (run_re s)) (sym p ∙ q) in omega (arith, e);
  not_wrapped = λ f p q. let e = ap (to_bits binary64) (sym (ap run_deviation p) ∙ q) in omega (arith, e);
  newest_time = λ r after p soc frame. let e = ap (λ (o : Outcome). frame_of o.answer) p in omega (arith, e, frame);
  floored = λ f p. ap run_d1 p;
  truncating = λ f p q. let e = same_size (ap run_d1 p) q in omega (arith, e);
  fault_elsewhere_opening = λ after p. omega (arith, answer_is p);
  fault_elsewhere_pushing = λ after p. omega (arith, answer_is p);
  fault_elsewhere_closing = λ after p. omega (arith, answer_is p);
}
