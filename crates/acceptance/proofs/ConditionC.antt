-- Condition C holds: each slot goes as it would go alone, and alone it goes by condition B's rule.
use mathlib.Core.Path.{sym, ap, ◌∙◌}
use Rattle.bank.specs.Slot.{slot_at}
use Rattle.bank.specs.Calls.{Outcome}
use Rattle.bank.proofs.Slots.{slot_length}
use Rattle.bank.proofs.Sixteen.{banks_equal}
use Rattle.acceptance.specs.Alone.{start_of}
use Rattle.acceptance.specs.ConditionC.{ConditionC}
use Rattle.acceptance.proofs.Numbered.{same_samples}
use Rattle.acceptance.proofs.OnSlot.{unnamed}
use Rattle.acceptance.proofs.Reached.{kept_true}
use Rattle.acceptance.proofs.Shows.{start_shown}
use Rattle.acceptance.proofs.Order.{said_alone, slot_alone, length_after, slot_goes_alone, answers_go_alone, alone_as_told}

pub condition_c : ConditionC
condition_c = record {
  same_call = same_samples;
  whoever_comes_first = λ bank end_one end_two one two t k h.
      answers_go_alone k h t.first_ran t.proper_length
      ∙ ap (said_alone (slot_at bank k)) (t.same_within k h)
      ∙ sym (answers_go_alone k h t.second_ran t.proper_length);
  equal_banks = λ bank end_one end_two one two t.
      banks_equal end_one end_two (length_after t.first_ran t.proper_length) (length_after t.second_ran t.proper_length)
      (λ k h.
      slot_goes_alone k h t.first_ran t.proper_length
      ∙ ap (slot_alone (slot_at bank k)) (t.same_within k h)
      ∙ sym (slot_goes_alone k h t.second_ran t.proper_length));
  no_feed = λ bank now next calls slot ask answer size ran h p.
      let o = unnamed slot ask now next answer (length_after ran size) p h in
      (ap (λ (x : Outcome). x.answer) o, ap (λ (x : Outcome). x.bank) o);
  as_the_rule_gives = λ bank end calls r size ran k h.
      let w = slot_length bank k size h in
      answers_go_alone k h ran size
      ∙ alone_as_told _ (slot_at bank k) (start_of (slot_at bank k)) w (start_shown (slot_at bank k) w (kept_true.reached bank r k h));
}
