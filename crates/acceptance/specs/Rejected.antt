-- Document 01, "What each public call must say of itself" and "Slips to keep out": the four useless models and the five slips.
-- For each a call, with its bytes, on which the contract does not admit what that model answers or leaves. A listing with invented counts is
-- shut out by `each_listing` of condition B.
use Rattle.std.specs.Prelude.{◌≡◌, cond, Option, Some, None, Result, Ok, Err, List, [], ◌∷◌, ◌++◌, ℕ, zero, suc, ◌-◌, ◌/◌, ◌^◌, ℤ, pos, negsuc, neg_ℤ, ◌+ℤ◌, ◌-ℤ◌, take, drop, set, replicate}
use Rattle.std.specs.Int.Signed.{lt_z}
use Rattle.ints.specs.Whole.{floor_div}
use Rattle.refusals.specs.declared.Refused.{Refused}
use Rattle.refusals.specs.declared.Refused.TheVariants.{Damaged}
use Rattle.bits.specs.Bits.{signed32}
use Rattle.sampling.specs.declared.Nominal.TheVariants.{Sixty}
use Rattle.model.specs.declared.filter.Sample.{Sample}
use Rattle.model.specs.declared.angle.Angle.{Angle}
use Rattle.model.specs.declared.report.Figures.{Figures}
use Rattle.model.specs.Filter.{positive, no_sample}
use Rattle.model.specs.Angle.{gains, loses, arctan, scaled, turned}
use Rattle.model.specs.Report.{difference, deviation_of}
use Rattle.feed.specs.declared.Feed.{Feed}
use Rattle.feed.specs.declared.Report.{Report}
use Rattle.feed.specs.Places.{zeros}
use Rattle.feed.specs.Kept.{zero_phases}
use Rattle.feed.specs.Ring.{opened, worked_out, Pushing as FeedPushing}
use Rattle.bank.specs.Slot.{slot_at, with_slot, slot_of}
use Rattle.bank.specs.Calls.{Clearing, Opening, Pushing, Closing}
use Rattle.salvage.specs.Image.{Mending}
use Rattle.runs.specs.Runs.{sample_at, RunMeasuring}
use Rattle.verdict.specs.Judging.{Judging}
use Rattle.header.specs.Header.{Heading}
use Rattle.frames.specs.Reading.{Reading as FrameReading}
use Rattle.acceptance.specs.ConditionD.{one_frame, one_bench, one_tag}
use Rattle.acceptance.specs.Figures.{device, reference}
use Rattle.acceptance.specs.Document.{wave, samples_from, file}

-- ---- the bytes of the calls: every feed is opened at 60 Hz, 60 reports a second, SOC 1000

-- a cleared bank
abbrev pub blank_bank : List ℕ
blank_bank = zeros 4096

-- a bank whose one feed, in this slot, has taken no sample
abbrev pub open_bank : ℕ → List ℕ
open_bank slot = with_slot blank_bank slot (slot_of (opened 60 60 1000))

-- a feed that holds thirty samples, of these bytes, and their angles: a report comes with the next one
abbrev pub thirty_held : List ℕ → Feed
thirty_held samples = worked_out (record {
  head = record { nominal = 60; rate = 60; held = 30; soc = 1000; index = 30; place = 30 };
  places = samples ++ zeros 6;
  kept = zero_phases;
})

-- a bank whose one feed, in this slot, is that
abbrev pub held_bank : ℕ → List ℕ → List ℕ
held_bank slot samples = with_slot blank_bank slot (slot_of (thirty_held samples))

-- the sample (1, 2, 3)
abbrev pub one_two_three : Sample
one_two_three = record { a = pos 1; b = pos 2; c = pos 3 }

-- one phase of the document's wave, over so many samples from index n on
abbrev pub wave_run : (Sample → ℤ) → (n count : ℕ) → List ℤ
wave_run phase n zero = []
wave_run phase n (suc count) = phase (wave n) ∷ wave_run phase (suc n) count

-- a run of 31 zeros, and one that is 962 at index 3 and 813 at index 27. With phase a such and the others zero, the angle passes the whole
-- turn about the centre, index 15
abbrev pub silence : List ℤ
silence = replicate 31 (pos 0)

abbrev pub two_peaks : List ℤ
two_peaks = set (set silence 3 (pos 962)) 27 (pos 813)

-- ---- the four useless models

-- "one that refuses everything": on each of these calls no refusal at all is admitted
pub record RefusesEverything : Type 0 where
  pub clearing : (r : Refused) (after : List ℕ) → Clearing blank_bank (Err r) after → ⊥
  pub opening : (r : Refused) (after : List ℕ) → Opening blank_bank 0 60 60 1000 (Err r) after → ⊥
  pub pushing : (r : Refused) (after : List ℕ) → Pushing (held_bank 0 (samples_from 0 30)) 0 (wave 30) (Err r) after → ⊥
  pub closing : (r : Refused) (after : List ℕ) → Closing (open_bank 0) 0 (Err r) after → ⊥
  pub salvaging : (r : Refused) (after : List ℕ) → Mending blank_bank (Err r) after → ⊥
  pub feeding : (r : Refused) (next : Feed) → FeedPushing (opened 60 60 1000) one_two_three (record { feed = next; answer = Err r }) → ⊥
  pub judging : (r : Refused) → Judging 0 0 (pos 0) (device 10100 0) (reference 10000 0) (Err r) → ⊥
  pub reading : (r : Refused) → FrameReading one_frame one_bench one_tag (Err r) → ⊥
  pub measuring : (r : Refused) → RunMeasuring two_peaks silence silence 15 60 (Err r) → ⊥
  pub heading : (r : Refused) → Heading (take 11 file) (Err r) → ⊥

pub record UselessModels : Type 0 where
  pub refuses_everything : RefusesEverything
  -- "one with a fixed report": whatever it is, one of these two pushes does not admit it, the wave's or the silence's
  pub fixed_report : (r : Report) (after after' : List ℕ) → Pushing (held_bank 0 (samples_from 0 30)) 0 (wave 30) (Ok (Some r)) after
      → Pushing (held_bank 0 (zeros 180)) 0 no_sample (Ok (Some r)) after' → ⊥
  -- "one whose push stores nothing": the bank stays as it is ..
  pub stores_nothing : (r : Result (Option Report) Refused) → Pushing (open_bank 0) 0 one_two_three r (open_bank 0) → ⊥
  -- .. or the numbers of the slot move on, and the six bytes of the place stay zero
  pub place_stays : (r : Result (Option Report) Refused) (after : List ℕ) → Pushing (open_bank 0) 0 one_two_three r after
      → take 6 (drop 11 after) ≡ zeros 6 → ⊥
  -- "one that serves slot 0 truly and only pretends for the other fifteen": an opening is done, a sample is taken, and the slot's bytes stay ..
  pub opening_pretended : (after : List ℕ) → Opening blank_bank 15 60 60 1000 (Ok tt) after → slot_at after 15 ≡ slot_at blank_bank 15 → ⊥
  pub push_pretended : (r : Result (Option Report) Refused) (after : List ℕ) → Pushing (open_bank 15) 15 one_two_three r after
      → slot_at after 15 ≡ slot_at (open_bank 15) 15 → ⊥
  -- .. or the sample is stored, and the report that is due is not given ..
  pub report_withheld : (after : List ℕ) → Pushing (held_bank 15 (samples_from 0 30)) 15 (wave 30) (Ok None) after → ⊥
  -- .. or slot 0's report, which is due there, is given to slot 15, which has taken no sample
  pub report_of_slot_0 : (r : Report) (after : List ℕ)
      → Pushing (with_slot (held_bank 0 (samples_from 0 30)) 15 (slot_of (opened 60 60 1000))) 15 (wave 30) (Ok (Some r)) after → ⊥

-- ---- the five slips

-- its samples
abbrev pub peaked : ℕ → Sample
peaked = sample_at two_peaks silence silence

-- z / m towards zero
abbrev pub truncated : ℤ → ℕ → ℤ
truncated (pos n) m = pos (n / m)
truncated (negsuc a) m = neg_ℤ (pos (suc a / m))

-- what a step leaves: the two parts, and the angle so far
pub record Turned : Type 0 where
  pub re : ℤ
  pub im : ℤ
  pub angle : Angle

-- document 01's step i, and the steps that are left of 24, by any quotient; `floored` says that by the floor they give this run's d1
abbrev pub step_by : (ℤ → ℕ → ℤ) → ℕ → Turned → Turned
step_by over i v =
    cond (lt_z (pos 0) v.im)
    (record { re = v.re +ℤ over v.im (2 ^ i); im = v.im -ℤ over v.re (2 ^ i); angle = gains v.angle (arctan i) })
    (cond (lt_z v.im (pos 0))
    (record { re = v.re -ℤ over v.im (2 ^ i); im = v.im +ℤ over v.re (2 ^ i); angle = loses v.angle (arctan i) })
    v)

abbrev pub steps_by : (ℤ → ℕ → ℤ) → ℕ → Turned → Turned
steps_by over zero v = v
steps_by over (suc left) v = steps_by over left (step_by over (23 - left) v)

-- the angle at centre i of the run, by such steps
abbrev pub angle_by : (ℤ → ℕ → ℤ) → ℕ → Angle
angle_by over i =
    let v = turned (scaled (positive peaked i)) in
    (steps_by over 24 (record { re = v.re; im = v.im; angle = v.angle })).angle

pub record Slips : Type 0 where
  -- "The three phases' angle steps summed with b and c exchanged": of a, b, c it answers what the rule answers of a, c, b
  pub negative_sequence : (r : Result Figures Refused)
      → RunMeasuring (wave_run (λ s. s.a) 0 31) (wave_run (λ s. s.b) 0 31) (wave_run (λ s. s.c) 0 31) 15 60 r
      → RunMeasuring (wave_run (λ s. s.a) 0 31) (wave_run (λ s. s.c) 0 31) (wave_run (λ s. s.b) 0 31) 15 60 r → ⊥
  -- "The angle difference not wrapped: it jumps by .. 450 Hz": the deviation is that of r - p as it stands
  pub not_wrapped : (f : Figures) → RunMeasuring two_peaks silence silence 15 60 (Ok f)
      → f.deviation ≡ deviation_of Sixty (pos (angle_by floor_div 16).parts -ℤ pos (angle_by floor_div 14).parts) → ⊥
  -- "Tagging a report with the newest sample's time": the newest sample is index 30 of SOC 1000, which is frame 2
  pub newest_time : (r : Report) (after : List ℕ) → Pushing (held_bank 0 (samples_from 0 30)) 0 (wave 30) (Ok (Some r)) after
      → r.soc ≡ 1000 → r.frame ≡ 2 → ⊥
  -- "Truncating instead of floor in the angle steps": by the floor d1 is the rule's, and by truncation it is not
  pub floored : (f : Figures) → RunMeasuring two_peaks silence silence 15 60 (Ok f)
      → f.d1 ≡ signed32 (difference (angle_by floor_div 14) (angle_by floor_div 16))
  pub truncating : (f : Figures) → RunMeasuring two_peaks silence silence 15 60 (Ok f)
      → f.d1 ≡ signed32 (difference (angle_by truncated 14) (angle_by truncated 16)) → ⊥
  -- "A damage test that scans the whole bank": slot 1 is damaged, its state being 2, and slot 0 is opened, pushed to and closed none the less
  pub fault_elsewhere_opening : (after : List ℕ) → Opening (set blank_bank 256 2) 0 60 60 1000 (Err Damaged) after → ⊥
  pub fault_elsewhere_pushing : (after : List ℕ) → Pushing (set (open_bank 0) 256 2) 0 one_two_three (Err Damaged) after → ⊥
  pub fault_elsewhere_closing : (after : List ℕ) → Closing (set (open_bank 0) 256 2) 0 (Err Damaged) after → ⊥
