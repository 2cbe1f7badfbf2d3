-- Every public function's contract is the relation itself, and the relation admits one outcome. Assumes nothing.
use mathlib.Core.Path.{◌≡◌, sym, ap, ◌∙◌}
use Rattle.bits.proofs.Unique.{be16_unique, be32_unique, signed16_unique, signed32_unique}
use Rattle.sampling.proofs.Unique.{nominal_sampling_unique, try_from_unique, served_nominal_unique, served_rate_unique, kept_rate_unique, nominal_of_unique}
use Rattle.header.proofs.Unique.{read_header_unique}
use Rattle.text.proofs.Unique.{put_unique, put_hex_unique}
use Rattle.model.specs.Filter.{lent_samples}
use Rattle.model.proofs.Unique.{measure_unique, newest_phase_unique, phases_of_unique, measure_kept_unique}
use Rattle.feed.proofs.Unique.{head_is_faulty_unique, feed_open_unique, feed_push_unique, feed_worked_out_unique, sample_of_unique, place_of_unique}
use Rattle.bank.proofs.Unique.{clear_unique, open_unique, push_unique, close_unique, damage_of_unique, worked_out_unique}
use Rattle.salvage.proofs.Unique.{mend_unique}
use Rattle.runs.proofs.Unique.{measure_unique as run_unique}
use Rattle.verdict.proofs.Unique.{judge_unique}
use Rattle.frames.proofs.Unique.{read_frame_unique}
use Rattle.phs.specs.Stream.{Read}
use Rattle.phs.proofs.Unique.{start_unique, read_part_unique, finish_unique}
use Rattle.reads.proofs.Unique.{meaning_unique}
use Rattle.acceptance.specs.Tied.{Tied}

-- two pairs that are one have one first part and one second part
both : {A B : Type 0} {x y : A × B} → x ≡ y → (x.0 ≡ y.0) × (x.1 ≡ y.1)
both e = (ap (λ p. p.0) e, ap (λ p. p.1) e)

pub tied : Tied
tied = record {
  refusals_refused_number_asks_nothing = λ κs a. tt;
  refusals_refused_number_says = λ κs a r s p. p;
  refusals_refused_number_unique = λ κs a r q s t p o. p ∙ sym o;
  bits_be16_asks_nothing = λ κs a. tt;
  bits_be16_says = λ κs a r s p. p;
  bits_be16_unique = λ κs a r q s t. be16_unique a.0 a.1.0 r q;
  bits_be32_asks_nothing = λ κs a. tt;
  bits_be32_says = λ κs a r s p. p;
  bits_be32_unique = λ κs a r q s t. be32_unique a.0 a.1.0 a.1.1.0 a.1.1.1.0 r q;
  bits_signed16_asks_nothing = λ κs a. tt;
  bits_signed16_says = λ κs a r s p. p;
  bits_signed16_unique = λ κs a r q s t. signed16_unique a.0 r q;
  bits_signed32_asks_nothing = λ κs a. tt;
  bits_signed32_says = λ κs a r s p. p;
  bits_signed32_unique = λ κs a r q s t. signed32_unique a.0 r q;
  sampling_nominal_sampling_asks_nothing = λ κs a. tt;
  sampling_nominal_sampling_says = λ κs a r s p. p;
  sampling_nominal_sampling_unique = λ κs a r q s t. nominal_sampling_unique a.0 r q;
  sampling_nominal_try_from_asks_nothing = λ κs a. tt;
  sampling_nominal_try_from_says = λ κs a r s p. p;
  sampling_nominal_try_from_unique = λ κs a r q s t. try_from_unique a.0 r q;
  sampling_served_nominal_asks_nothing = λ κs a. tt;
  sampling_served_nominal_says = λ κs a r s p. p;
  sampling_served_nominal_unique = λ κs a r q s t. served_nominal_unique a.0 r q;
  sampling_served_rate_asks_nothing = λ κs a. tt;
  sampling_served_rate_says = λ κs a r s p. p;
  sampling_served_rate_unique = λ κs a r q s t. served_rate_unique a.0 a.1.0 r q;
  sampling_kept_rate_asks_nothing = λ κs a. tt;
  sampling_kept_rate_says = λ κs a r s p. p;
  sampling_kept_rate_unique = λ κs a r q s t. kept_rate_unique a.0 a.1.0 r q;
  sampling_nominal_of_asks_nothing = λ κs a. tt;
  sampling_nominal_of_says = λ κs a r s p. p;
  sampling_nominal_of_unique = λ κs a r q s t. nominal_of_unique a.0 r q;
  header_read_header_asks_nothing = λ κs a. tt;
  header_read_header_says = λ κs a r s p. p;
  header_read_header_unique = λ κs a r q s t. read_header_unique a.0.now r q;
  text_put_asks_nothing = λ κs a. tt;
  text_put_says = λ κs a r s p. p;
  text_put_unique = λ κs a r q s t x y. both (put_unique a.0.now a.1.0 a.1.1.0.now a.1.1.1.0 r q s.1.1.0.now t.1.1.0.now x y);
  text_put_hex_asks_nothing = λ κs a. tt;
  text_put_hex_says = λ κs a r s p. p;
  text_put_hex_unique = λ κs a r q s t x y. both (put_hex_unique a.0.now a.1.0.now a.1.1.0 r q s.1.0.now t.1.0.now x y);
  model_measure_asks_nothing = λ κs a. tt;
  model_measure_says = λ κs a r s p. p;
  model_measure_unique = λ κs a r q s t. measure_unique (lent_samples 31 a.0.now) a.1.0 a.1.1.0 r q;
  model_measure_kept_asks_nothing = λ κs a. tt;
  model_measure_kept_says = λ κs a r s p. p;
  model_measure_kept_unique = λ κs a r q s t. measure_kept_unique (lent_samples 31 a.0.now) a.1.0 a.1.1.0 a.1.1.1.0 r q;
  model_newest_phase_asks_nothing = λ κs a. tt;
  model_newest_phase_says = λ κs a r s p. p;
  model_newest_phase_unique = λ κs a r q s t. newest_phase_unique (lent_samples 31 a.0.now) a.1.0 r q;
  model_phases_of_asks_nothing = λ κs a. tt;
  model_phases_of_says = λ κs a r s p. p;
  model_phases_of_unique = λ κs a r q s t. phases_of_unique (lent_samples 31 a.0.now) a.1.0 r q;
  feed_head_is_faulty_asks_nothing = λ κs a. tt;
  feed_head_is_faulty_says = λ κs a r s p. p;
  feed_head_is_faulty_unique = λ κs a r q s t. head_is_faulty_unique a.0 r q;
  feed_feed_open_asks_nothing = λ κs a. tt;
  feed_feed_open_says = λ κs a r s p. p;
  feed_feed_open_unique = λ κs a r q s t. feed_open_unique a.0 a.1.0 a.1.1.0 r q;
  feed_feed_push_asks_nothing = λ κs a. tt;
  feed_feed_push_says = λ κs a r s p. p;
  feed_feed_push_unique = λ κs a r q s t. feed_push_unique a.0 a.1.0 r q;
  feed_feed_worked_out_asks_nothing = λ κs a. tt;
  feed_feed_worked_out_says = λ κs a r s p. p;
  feed_feed_worked_out_unique = λ κs a r q s t. feed_worked_out_unique a.0 r q;
  feed_sample_of_asks_nothing = λ κs a. tt;
  feed_sample_of_says = λ κs a r s p. p;
  feed_sample_of_unique = λ κs a r q s t. sample_of_unique a.0 r q;
  feed_place_of_asks_nothing = λ κs a. tt;
  feed_place_of_says = λ κs a r s p. p;
  feed_place_of_unique = λ κs a r q s t. place_of_unique a.0 r q;
  bank_clear_asks_nothing = λ κs a. tt;
  bank_clear_says = λ κs a r s p. p;
  bank_clear_unique = λ κs a r q s t. clear_unique a.0.now r q s.0.now t.0.now;
  bank_open_asks_nothing = λ κs a. tt;
  bank_open_says = λ κs a r s p. p;
  bank_open_unique = λ κs a r q s t. open_unique a.0.now a.1.0 a.1.1.0 a.1.1.1.0 a.1.1.1.1.0 r q s.0.now t.0.now;
  bank_push_asks_nothing = λ κs a. tt;
  bank_push_says = λ κs a r s p. p;
  bank_push_unique = λ κs a r q s t. push_unique a.0.now a.1.0 a.1.1.0 r q s.0.now t.0.now;
  bank_close_asks_nothing = λ κs a. tt;
  bank_close_says = λ κs a r s p. p;
  bank_close_unique = λ κs a r q s t. close_unique a.0.now a.1.0 r q s.0.now t.0.now;
  bank_damage_of_asks_nothing = λ κs a. tt;
  bank_damage_of_says = λ κs a r s p. p;
  bank_damage_of_unique = λ κs a r q s t. damage_of_unique a.0 r q;
  bank_worked_out_asks_nothing = λ κs a. tt;
  bank_worked_out_says = λ κs a r s p. p;
  bank_worked_out_unique = λ κs a r q s t. worked_out_unique a.0 r q;
  salvage_mend_asks_nothing = λ κs a. tt;
  salvage_mend_says = λ κs a r s p. p;
  salvage_mend_unique = λ κs a r q s t. mend_unique a.0.now r q s.0.now t.0.now;
  runs_measure_asks_nothing = λ κs a. tt;
  runs_measure_says = λ κs a r s p. p;
  runs_measure_unique = λ κs a r q s t. run_unique a.0.now a.1.0.now a.1.1.0.now a.1.1.1.0 a.1.1.1.1.0 r q;
  verdict_judge_asks_nothing = λ κs a. tt;
  verdict_judge_says = λ κs a r s p. p;
  verdict_judge_unique = λ κs a r q s t. judge_unique a.0 a.1.0 a.1.1.0 a.1.1.1.0 a.1.1.1.1.0 r q;
  frames_read_frame_asks_nothing = λ κs a. tt;
  frames_read_frame_says = λ κs a r s p. p;
  frames_read_frame_unique = λ κs a r q s t. read_frame_unique a.0.now a.1.0 a.1.1.0 r q;
  phs_start_asks_nothing = λ κs a. tt;
  phs_start_says = λ κs a r s p. p;
  phs_start_unique = λ κs a r q s t. start_unique r q;
  phs_read_part_asks_nothing = λ κs a. tt;
  phs_read_part_says = λ κs a r s p. p;
  phs_read_part_unique = λ κs a r q s t x y.
      let e = read_part_unique a.0 a.1.0.now a.1.1.0.now a.1.1.1.0.now r q s.1.0.now t.1.0.now s.1.1.1.0.now t.1.1.1.0.now x y in
      (ap (λ (o : Read). o.moved) e, ap (λ (o : Read). (o.bank, o.out)) e);
  phs_finish_asks_nothing = λ κs a. tt;
  phs_finish_says = λ κs a r s p. p;
  phs_finish_unique = λ κs a r q s t x y. both (finish_unique a.0 a.1.0.now r q s.1.0.now t.1.0.now x y);
  reads_meaning_asks_nothing = λ κs a. tt;
  reads_meaning_says = λ κs a r s p. p;
  reads_meaning_unique = λ κs a r q s t. meaning_unique a.0 r q;
}
