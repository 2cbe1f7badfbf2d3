-- Every public function of every library, by its own contract: it asks nothing, it says the relation that the conditions and the promises
-- speak of, and it admits one outcome. The exceptions are `lister::list` and the printing of a refusal and of what becomes of a slot, whose readers
-- and writers are of any type: what they say stands in lister's proofs/Says and in proofs/Printing.
-- `Pre κs a` is what the function's `requires` asks of the arguments a; `Post κs a r s` is what its `ensures` says of them, of the answer r
-- and of the arguments when it ends, s. κs are the lifetimes; a.0, a.1.0, a.1.1.0 are the arguments in their order; `a.0.now` are
-- lent bytes or numbers before the call, `s.0.now` when it ends.
use Rattle.std.specs.Prelude.{◌≡◌, List, ℕ, ◌*◌, length}
use Rattle.refusals.specs.Refusals.{number_of}
use Rattle.bits.specs.Bits.{be16, be32, signed16, signed32}
use Rattle.sampling.specs.Sampling.{sampling}
use Rattle.sampling.specs.Tags.{served_nominal, served_rate, kept_rate, nominal_of, Naming}
use Rattle.header.specs.Header.{Heading}
use Rattle.text.specs.Text.{hex_bytes}
use Rattle.text.specs.Put.{Put, filled, room_for}
use Rattle.model.specs.Filter.{lent_samples}
use Rattle.model.specs.Report.{Measuring, NewestPhase, ThreePhases, MeasuringKept}
use Rattle.feed.specs.Places.{sample_of, place_of}
use Rattle.feed.specs.Ring.{faulty, opened, worked_out, Pushing as FeedPushing}
use Rattle.bank.specs.Slot.{worked_out_in}
use Rattle.bank.specs.Damage.{damage_of}
use Rattle.bank.specs.Calls.{Clearing, Opening, Pushing, Closing}
use Rattle.salvage.specs.Image.{Mending}
use Rattle.runs.specs.Runs.{RunMeasuring}
use Rattle.verdict.specs.Judging.{Judging}
use Rattle.frames.specs.Reading.{Reading as FrameReading}
use Rattle.phs.specs.Stream.{started, Reading, Finishing}
use Rattle.reads.specs.Counts.{meaning}
use Rattle.refusals.proofs.Refused.number.Reads as numberReads
use Rattle.bits.proofs.be16.Reads as be16Reads
use Rattle.bits.proofs.be32.Reads as be32Reads
use Rattle.bits.proofs.signed16.Reads as signed16Reads
use Rattle.bits.proofs.signed32.Reads as signed32Reads
use Rattle.sampling.proofs.Nominal.sampling.Reads as samplingReads
use Rattle.sampling.proofs.NominalTryFromU8.try_from.Reads as tryFromReads
use Rattle.sampling.proofs.served_nominal.Reads as servedNominalReads
use Rattle.sampling.proofs.served_rate.Reads as servedRateReads
use Rattle.sampling.proofs.kept_rate.Reads as keptRateReads
use Rattle.sampling.proofs.nominal_of.Reads as nominalOfReads
use Rattle.header.proofs.read_header.Reads as headerReads
use Rattle.text.proofs.put.Reads as putReads
use Rattle.text.proofs.put_hex.Reads as putHexReads
use Rattle.model.proofs.measure.Reads as measureReads
use Rattle.model.proofs.measure_kept.Reads as measureKeptReads
use Rattle.model.proofs.newest_phase.Reads as newestReads
use Rattle.model.proofs.phases_of.Reads as phasesReads
use Rattle.feed.proofs.Head.is_faulty.Reads as faultyReads
use Rattle.feed.proofs.Feed.open.Reads as feedOpenReads
use Rattle.feed.proofs.Feed.push.Reads as feedPushReads
use Rattle.feed.proofs.Feed.worked_out.Reads as feedWorkedReads
use Rattle.feed.proofs.sample_of.Reads as sampleOfReads
use Rattle.feed.proofs.place_of.Reads as placeOfReads
use Rattle.bank.proofs.clear.Reads as clearReads
use Rattle.bank.proofs.open.Reads as openReads
use Rattle.bank.proofs.push.Reads as pushReads
use Rattle.bank.proofs.close.Reads as closeReads
use Rattle.bank.proofs.damage_of.Reads as damageReads
use Rattle.bank.proofs.worked_out.Reads as workedReads
use Rattle.salvage.proofs.mend.Reads as mendReads
use Rattle.runs.proofs.measure.Reads as runReads
use Rattle.verdict.proofs.judge.Reads as judgeReads
use Rattle.frames.proofs.read_frame.Reads as readFrameReads
use Rattle.phs.proofs.start.Reads as startReads
use Rattle.phs.proofs.read_part.Reads as readPartReads
use Rattle.phs.proofs.finish.Reads as finishReads
use Rattle.reads.proofs.meaning.Reads as meaningReads

-- a contract that asks nothing
abbrev pub AsksNothing : {A : Type 0} → (A → Type 0) → Type 0
AsksNothing pre = (a : _) → pre a

-- any two answers that a contract admits coincide
abbrev pub OneAnswer : {A R S : Type 0} → (A → R → S → Type 0) → Type 0
OneAnswer post = (a : _) (r q : _) (s t : _) → post a r s → post a q t → r ≡ q

-- the same of the answer and the lent bytes when the call ends
abbrev pub OneOutcome : {A R S B : Type 0} → (A → R → S → Type 0) → (S → B) → Type 0
OneOutcome post lent = (a : _) (r q : _) (s t : _) → post a r s → post a q t → (r ≡ q) × (lent s ≡ lent t)

pub record Tied : Type 0 where
  -- ---- refusals
  -- `Refused::number`
  pub refusals_refused_number_asks_nothing : (κs : _) → AsksNothing (numberReads.Pre κs)
  pub refusals_refused_number_says : (κs : _) (a : _) (r : _) (s : _) → numberReads.Post κs a r s → r ≡ number_of a.0
  pub refusals_refused_number_unique : (κs : _) → OneAnswer (numberReads.Post κs)
  -- ---- bits
  -- `be16`
  pub bits_be16_asks_nothing : (κs : _) → AsksNothing (be16Reads.Pre κs)
  pub bits_be16_says : (κs : _) (a : _) (r : _) (s : _) → be16Reads.Post κs a r s → r ≡ be16 a.0 a.1.0
  pub bits_be16_unique : (κs : _) → OneAnswer (be16Reads.Post κs)
  -- `be32`
  pub bits_be32_asks_nothing : (κs : _) → AsksNothing (be32Reads.Pre κs)
  pub bits_be32_says : (κs : _) (a : _) (r : _) (s : _) → be32Reads.Post κs a r s → r ≡ be32 a.0 a.1.0 a.1.1.0 a.1.1.1.0
  pub bits_be32_unique : (κs : _) → OneAnswer (be32Reads.Post κs)
  -- `signed16`
  pub bits_signed16_asks_nothing : (κs : _) → AsksNothing (signed16Reads.Pre κs)
  pub bits_signed16_says : (κs : _) (a : _) (r : _) (s : _) → signed16Reads.Post κs a r s → r ≡ signed16 a.0
  pub bits_signed16_unique : (κs : _) → OneAnswer (signed16Reads.Post κs)
  -- `signed32`
  pub bits_signed32_asks_nothing : (κs : _) → AsksNothing (signed32Reads.Pre κs)
  pub bits_signed32_says : (κs : _) (a : _) (r : _) (s : _) → signed32Reads.Post κs a r s → r ≡ signed32 a.0
  pub bits_signed32_unique : (κs : _) → OneAnswer (signed32Reads.Post κs)
  -- ---- sampling
  -- `Nominal::sampling`
  pub sampling_nominal_sampling_asks_nothing : (κs : _) → AsksNothing (samplingReads.Pre κs)
  pub sampling_nominal_sampling_says : (κs : _) (a : _) (r : _) (s : _) → samplingReads.Post κs a r s → r ≡ sampling a.0
  pub sampling_nominal_sampling_unique : (κs : _) → OneAnswer (samplingReads.Post κs)
  -- `Nominal::try_from`
  pub sampling_nominal_try_from_asks_nothing : (κs : _) → AsksNothing (tryFromReads.Pre κs)
  pub sampling_nominal_try_from_says : (κs : _) (a : _) (r : _) (s : _) → tryFromReads.Post κs a r s → Naming a.0 r
  pub sampling_nominal_try_from_unique : (κs : _) → OneAnswer (tryFromReads.Post κs)
  -- `served_nominal`
  pub sampling_served_nominal_asks_nothing : (κs : _) → AsksNothing (servedNominalReads.Pre κs)
  pub sampling_served_nominal_says : (κs : _) (a : _) (r : _) (s : _) → servedNominalReads.Post κs a r s → r ≡ served_nominal a.0
  pub sampling_served_nominal_unique : (κs : _) → OneAnswer (servedNominalReads.Post κs)
  -- `served_rate`
  pub sampling_served_rate_asks_nothing : (κs : _) → AsksNothing (servedRateReads.Pre κs)
  pub sampling_served_rate_says : (κs : _) (a : _) (r : _) (s : _) → servedRateReads.Post κs a r s → r ≡ served_rate a.0 a.1.0
  pub sampling_served_rate_unique : (κs : _) → OneAnswer (servedRateReads.Post κs)
  -- `kept_rate`
  pub sampling_kept_rate_asks_nothing : (κs : _) → AsksNothing (keptRateReads.Pre κs)
  pub sampling_kept_rate_says : (κs : _) (a : _) (r : _) (s : _) → keptRateReads.Post κs a r s → r ≡ kept_rate a.0 a.1.0
  pub sampling_kept_rate_unique : (κs : _) → OneAnswer (keptRateReads.Post κs)
  -- `nominal_of`
  pub sampling_nominal_of_asks_nothing : (κs : _) → AsksNothing (nominalOfReads.Pre κs)
  pub sampling_nominal_of_says : (κs : _) (a : _) (r : _) (s : _) → nominalOfReads.Post κs a r s → r ≡ nominal_of a.0
  pub sampling_nominal_of_unique : (κs : _) → OneAnswer (nominalOfReads.Post κs)
  -- ---- header
  -- `read_header`
  pub header_read_header_asks_nothing : (κs : _) → AsksNothing (headerReads.Pre κs)
  pub header_read_header_says : (κs : _) (a : _) (r : _) (s : _) → headerReads.Post κs a r s → Heading a.0.now r
  pub header_read_header_unique : (κs : _) → OneAnswer (headerReads.Post κs)
  -- ---- text
  -- `put`
  pub text_put_asks_nothing : (κs : _) → AsksNothing (putReads.Pre κs)
  pub text_put_says : (κs : _) (a : _) (r : _) (s : _) → putReads.Post κs a r s
      → Put (room_for a.0.now) (filled a.0.now a.1.0) a.1.1.0.now a.1.1.1.0 r s.1.1.0.now
  pub text_put_unique : (κs : _) → OneOutcome (putReads.Post κs) (λ s. s.1.1.0.now)
  -- `put_hex`
  pub text_put_hex_asks_nothing : (κs : _) → AsksNothing (putHexReads.Pre κs)
  pub text_put_hex_says : (κs : _) (a : _) (r : _) (s : _) → putHexReads.Post κs a r s
      → Put (2 * length a.0.now) (hex_bytes a.0.now) a.1.0.now a.1.1.0 r s.1.0.now
  pub text_put_hex_unique : (κs : _) → OneOutcome (putHexReads.Post κs) (λ s. s.1.0.now)
  -- ---- model
  -- `measure`
  pub model_measure_asks_nothing : (κs : _) → AsksNothing (measureReads.Pre κs)
  pub model_measure_says : (κs : _) (a : _) (r : _) (s : _) → measureReads.Post κs a r s → Measuring (lent_samples 31 a.0.now) a.1.0 a.1.1.0 r
  pub model_measure_unique : (κs : _) → OneAnswer (measureReads.Post κs)
  -- `measure_kept`
  pub model_measure_kept_asks_nothing : (κs : _) → AsksNothing (measureKeptReads.Pre κs)
  pub model_measure_kept_says : (κs : _) (a : _) (r : _) (s : _) → measureKeptReads.Post κs a r s
      → MeasuringKept (lent_samples 31 a.0.now) a.1.0 a.1.1.0 a.1.1.1.0 r
  pub model_measure_kept_unique : (κs : _) → OneAnswer (measureKeptReads.Post κs)
  -- `newest_phase`
  pub model_newest_phase_asks_nothing : (κs : _) → AsksNothing (newestReads.Pre κs)
  pub model_newest_phase_says : (κs : _) (a : _) (r : _) (s : _) → newestReads.Post κs a r s → NewestPhase (lent_samples 31 a.0.now) a.1.0 r
  pub model_newest_phase_unique : (κs : _) → OneAnswer (newestReads.Post κs)
  -- `phases_of`
  pub model_phases_of_asks_nothing : (κs : _) → AsksNothing (phasesReads.Pre κs)
  pub model_phases_of_says : (κs : _) (a : _) (r : _) (s : _) → phasesReads.Post κs a r s → ThreePhases (lent_samples 31 a.0.now) a.1.0 r
  pub model_phases_of_unique : (κs : _) → OneAnswer (phasesReads.Post κs)
  -- ---- feed
  -- `Head::is_faulty`
  pub feed_head_is_faulty_asks_nothing : (κs : _) → AsksNothing (faultyReads.Pre κs)
  pub feed_head_is_faulty_says : (κs : _) (a : _) (r : _) (s : _) → faultyReads.Post κs a r s → r ≡ faulty a.0
  pub feed_head_is_faulty_unique : (κs : _) → OneAnswer (faultyReads.Post κs)
  -- `Feed::open`
  pub feed_feed_open_asks_nothing : (κs : _) → AsksNothing (feedOpenReads.Pre κs)
  pub feed_feed_open_says : (κs : _) (a : _) (r : _) (s : _) → feedOpenReads.Post κs a r s → r ≡ opened a.0 a.1.0 a.1.1.0
  pub feed_feed_open_unique : (κs : _) → OneAnswer (feedOpenReads.Post κs)
  -- `Feed::push`
  pub feed_feed_push_asks_nothing : (κs : _) → AsksNothing (feedPushReads.Pre κs)
  pub feed_feed_push_says : (κs : _) (a : _) (r : _) (s : _) → feedPushReads.Post κs a r s → FeedPushing a.0 a.1.0 r
  pub feed_feed_push_unique : (κs : _) → OneAnswer (feedPushReads.Post κs)
  -- `Feed::worked_out`
  pub feed_feed_worked_out_asks_nothing : (κs : _) → AsksNothing (feedWorkedReads.Pre κs)
  pub feed_feed_worked_out_says : (κs : _) (a : _) (r : _) (s : _) → feedWorkedReads.Post κs a r s → r ≡ worked_out a.0
  pub feed_feed_worked_out_unique : (κs : _) → OneAnswer (feedWorkedReads.Post κs)
  -- `sample_of`
  pub feed_sample_of_asks_nothing : (κs : _) → AsksNothing (sampleOfReads.Pre κs)
  pub feed_sample_of_says : (κs : _) (a : _) (r : _) (s : _) → sampleOfReads.Post κs a r s → r ≡ sample_of a.0
  pub feed_sample_of_unique : (κs : _) → OneAnswer (sampleOfReads.Post κs)
  -- `place_of`
  pub feed_place_of_asks_nothing : (κs : _) → AsksNothing (placeOfReads.Pre κs)
  pub feed_place_of_says : (κs : _) (a : _) (r : _) (s : _) → placeOfReads.Post κs a r s → r ≡ place_of a.0
  pub feed_place_of_unique : (κs : _) → OneAnswer (placeOfReads.Post κs)
  -- ---- bank
  -- `clear`
  pub bank_clear_asks_nothing : (κs : _) → AsksNothing (clearReads.Pre κs)
  pub bank_clear_says : (κs : _) (a : _) (r : _) (s : _) → clearReads.Post κs a r s → Clearing a.0.now r s.0.now
  pub bank_clear_unique : (κs : _) → OneOutcome (clearReads.Post κs) (λ s. s.0.now)
  -- `open`
  pub bank_open_asks_nothing : (κs : _) → AsksNothing (openReads.Pre κs)
  pub bank_open_says : (κs : _) (a : _) (r : _) (s : _) → openReads.Post κs a r s
      → Opening a.0.now a.1.0 a.1.1.0 a.1.1.1.0 a.1.1.1.1.0 r s.0.now
  pub bank_open_unique : (κs : _) → OneOutcome (openReads.Post κs) (λ s. s.0.now)
  -- `push`
  pub bank_push_asks_nothing : (κs : _) → AsksNothing (pushReads.Pre κs)
  pub bank_push_says : (κs : _) (a : _) (r : _) (s : _) → pushReads.Post κs a r s → Pushing a.0.now a.1.0 a.1.1.0 r s.0.now
  pub bank_push_unique : (κs : _) → OneOutcome (pushReads.Post κs) (λ s. s.0.now)
  -- `close`
  pub bank_close_asks_nothing : (κs : _) → AsksNothing (closeReads.Pre κs)
  pub bank_close_says : (κs : _) (a : _) (r : _) (s : _) → closeReads.Post κs a r s → Closing a.0.now a.1.0 r s.0.now
  pub bank_close_unique : (κs : _) → OneOutcome (closeReads.Post κs) (λ s. s.0.now)
  -- `damage_of`
  pub bank_damage_of_asks_nothing : (κs : _) → AsksNothing (damageReads.Pre κs)
  pub bank_damage_of_says : (κs : _) (a : _) (r : _) (s : _) → damageReads.Post κs a r s → r ≡ damage_of a.0
  pub bank_damage_of_unique : (κs : _) → OneAnswer (damageReads.Post κs)
  -- `worked_out`
  pub bank_worked_out_asks_nothing : (κs : _) → AsksNothing (workedReads.Pre κs)
  pub bank_worked_out_says : (κs : _) (a : _) (r : _) (s : _) → workedReads.Post κs a r s → r ≡ worked_out_in a.0
  pub bank_worked_out_unique : (κs : _) → OneAnswer (workedReads.Post κs)
  -- ---- salvage
  -- `mend`
  pub salvage_mend_asks_nothing : (κs : _) → AsksNothing (mendReads.Pre κs)
  pub salvage_mend_says : (κs : _) (a : _) (r : _) (s : _) → mendReads.Post κs a r s → Mending a.0.now r s.0.now
  pub salvage_mend_unique : (κs : _) → OneOutcome (mendReads.Post κs) (λ s. s.0.now)
  -- ---- runs
  -- `measure`
  pub runs_measure_asks_nothing : (κs : _) → AsksNothing (runReads.Pre κs)
  pub runs_measure_says : (κs : _) (a : _) (r : _) (s : _) → runReads.Post κs a r s
      → RunMeasuring a.0.now a.1.0.now a.1.1.0.now a.1.1.1.0 a.1.1.1.1.0 r
  pub runs_measure_unique : (κs : _) → OneAnswer (runReads.Post κs)
  -- ---- verdict
  -- `judge`
  pub verdict_judge_asks_nothing : (κs : _) → AsksNothing (judgeReads.Pre κs)
  pub verdict_judge_says : (κs : _) (a : _) (r : _) (s : _) → judgeReads.Post κs a r s
      → Judging a.0 a.1.0 a.1.1.0 a.1.1.1.0 a.1.1.1.1.0 r
  pub verdict_judge_unique : (κs : _) → OneAnswer (judgeReads.Post κs)
  -- ---- frames
  -- `read_frame`
  pub frames_read_frame_asks_nothing : (κs : _) → AsksNothing (readFrameReads.Pre κs)
  pub frames_read_frame_says : (κs : _) (a : _) (r : _) (s : _) → readFrameReads.Post κs a r s → FrameReading a.0.now a.1.0 a.1.1.0 r
  pub frames_read_frame_unique : (κs : _) → OneAnswer (readFrameReads.Post κs)
  -- ---- phs
  -- `start`
  pub phs_start_asks_nothing : (κs : _) → AsksNothing (startReads.Pre κs)
  pub phs_start_says : (κs : _) (a : _) (r : _) (s : _) → startReads.Post κs a r s → r ≡ started
  pub phs_start_unique : (κs : _) → OneAnswer (startReads.Post κs)
  -- `read_part`
  pub phs_read_part_asks_nothing : (κs : _) → AsksNothing (readPartReads.Pre κs)
  pub phs_read_part_says : (κs : _) (a : _) (r : _) (s : _) → readPartReads.Post κs a r s
      → Reading a.0 a.1.0.now a.1.1.0.now a.1.1.1.0.now r s.1.0.now s.1.1.1.0.now
  pub phs_read_part_unique : (κs : _) → OneOutcome {B = List ℕ × List ℕ} (readPartReads.Post κs) (λ s. (s.1.0.now, s.1.1.1.0.now))
  -- `finish`
  pub phs_finish_asks_nothing : (κs : _) → AsksNothing (finishReads.Pre κs)
  pub phs_finish_says : (κs : _) (a : _) (r : _) (s : _) → finishReads.Post κs a r s → Finishing a.0 a.1.0.now r s.1.0.now
  pub phs_finish_unique : (κs : _) → OneOutcome (finishReads.Post κs) (λ s. s.1.0.now)
  -- ---- reads
  -- `meaning`
  pub reads_meaning_asks_nothing : (κs : _) → AsksNothing (meaningReads.Pre κs)
  pub reads_meaning_says : (κs : _) (a : _) (r : _) (s : _) → meaningReads.Post κs a r s → r ≡ meaning a.0
  pub reads_meaning_unique : (κs : _) → OneAnswer (meaningReads.Post κs)
