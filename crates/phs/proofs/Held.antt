-- The bank that is lent keeps the file's history in slot 0: an opening in the cleared bank starts it, and each push answers as the history rule tells.
use Rattle.std.proofs.Common.{◌≡◌, ℕ, Bool, true, false, eqb, List, length, refl, ap, ◌∙◌, arith, eq-eqb}
use Rattle.model.specs.declared.filter.Sample.{Sample}
use Rattle.feed.specs.declared.Feed.{Feed}
use Rattle.sampling.specs.Tags.{served_nominal, served_rate, kept_rate}
use Rattle.sampling.proofs.Rates.{kept_again}
use Rattle.feed.specs.Answers.{refused, done}
use Rattle.feed.specs.History.{History, opening, Told, told}
use Rattle.feed.specs.Kept.{answered_from}
use Rattle.feed.specs.Places.{zeros}
use Rattle.feed.specs.Ring.{opened, stored, history_of, end_of_time_of}
use Rattle.feed.proofs.Stored.{Fits16}
use Rattle.feed.proofs.Alike.{told_last, told_on}
use Rattle.feed.proofs.Meeting.{Keeps, opening_kept, last_same, answer_kept, stored_kept as still_keeps}
use Rattle.bank.specs.Slot.{slot_at, with_slot, head_in, feed_in, slot_of}
use Rattle.bank.specs.Damage.{is_free, is_damaged}
use Rattle.bank.specs.Calls.{Outcome, cleared, opened_at, pushed_at}
use Rattle.bank.proofs.Slots.{same_slot, length_kept}
use Rattle.bank.proofs.Keeping.{Kept, feed_back, slot_whole, slot_open, kept_undamaged, free_undamaged, free_not_open}
use Rattle.bank.proofs.Blank.{zeros_length}
use Rattle.bank.proofs.Free.{zeros_slot}
use Rattle.bank.proofs.KeptOn.{opened_kept, stored_kept}
use Rattle.phs.specs.Stream.{opened_in}

-- slot 0 of this bank keeps this history
pub record Holds (bank : List ℕ) (h : History) : Type 0 where
  pub feed : Feed
  pub whole : length bank ≡ 4096
  pub there : slot_at bank 0 ≡ slot_of feed
  pub kept : Kept feed
  pub keeps : Keeps feed h

-- ---- opening

module _ (bank : List ℕ) (whole : length bank ≡ 4096) (nominal rate soc : ℕ) (served : served_nominal nominal ≡ true) (kept : served_rate nominal rate ≡ true) where
  abbrev fresh : Feed
  fresh = opened nominal rate soc

  cleared_is : (cleared bank).bank ≡ zeros 4096
  unfolding cleared
  cleared_is = rw (eq-eqb (length bank) 4096 whole)

  pub opening_is : opened_in bank nominal rate soc ≡ record { answer = done; bank = with_slot (zeros 4096) 0 (slot_of fresh) }
  unfolding opened_at
  opening_is = rw (cleared_is, zeros_length 4096, zeros_slot 0 (omega arith), free_undamaged, free_not_open, served, kept)

  rate_is : kept_rate nominal rate ≡ rate
  rate_is = kept_again nominal rate served kept

  fresh_kept : Kept fresh
  fresh_kept = opened_kept nominal rate soc served (ap (served_rate nominal) rate_is ∙ kept)

  fresh_slot : length (slot_of fresh) ≡ 256
  fresh_slot = slot_whole fresh fresh_kept.whole

  pub opening_holds : Holds (with_slot (zeros 4096) 0 (slot_of fresh)) (opening nominal rate soc)
  opening_holds = record {
    feed = fresh;
    whole = length_kept (zeros 4096) 0 (zeros_length 4096) (omega arith) (slot_of fresh) fresh_slot;
    there = same_slot (zeros 4096) 0 (zeros_length 4096) (omega arith) (slot_of fresh) fresh_slot;
    kept = fresh_kept;
    keeps = opening_kept nominal rate soc served (ap (served_rate nominal) rate_is ∙ kept);
  }

-- ---- pushing

-- a push answers as the history rule tells, and the bank keeps the history after it
pub record Answers (o : Outcome) (t : Told) : Type 0 where
  pub answer_is : o.answer ≡ t.answer
  pub holds : Holds o.bank t.history

module _ (bank : List ℕ) (s : Sample) (f : Feed) (whole : length bank ≡ 4096) (there : slot_at bank 0 ≡ slot_of f) (kept : Kept f) where
  feed_is : feed_in (slot_at bank 0) ≡ f
  feed_is = ap feed_in there ∙ feed_back f kept.whole

  head_is : head_in (slot_at bank 0) ≡ f.head
  unfolding feed_in
  head_is = ap (λ (x : Feed). x.head) feed_is

  undamaged : is_damaged (slot_at bank 0) ≡ false
  undamaged = ap is_damaged there ∙ kept_undamaged f kept

  not_free : is_free (slot_at bank 0) ≡ false
  not_free = ap (λ (x : List ℕ). is_free x) there ∙ ap (λ (n : ℕ). eqb n 0) (slot_open f)

  at_last : (end_of_time_of f.head).due ≡ true → pushed_at bank 0 s ≡ record { answer = refused 8; bank = bank }
  unfolding pushed_at
  at_last e = rw (eq-eqb (length bank) 4096 whole, undamaged, not_free, head_is, e)

  at_next : (end_of_time_of f.head).due ≡ false → pushed_at bank 0 s ≡ record { answer = answered_from (history_of (stored f s)) (stored f s).kept; bank = with_slot bank 0 (slot_of (stored f s)) }
  unfolding pushed_at
  at_next e = rw (eq-eqb (length bank) 4096 whole, undamaged, not_free, head_is, e, feed_is)

pub push_holds : (bank : List ℕ) (h : History) (s : Sample) → Holds bank h → Fits16 s → Answers (pushed_at bank 0 s) (told h s)
push_holds bank h s k fits = go (end_of_time_of k.feed.head).due refl
  where
    next_slot : length (slot_of (stored k.feed s)) ≡ 256
    next_slot = slot_whole (stored k.feed s) (stored_kept k.feed s k.kept).whole

    go : (b : Bool) → (end_of_time_of k.feed.head).due ≡ b → Answers (pushed_at bank 0 s) (told h s)
    go true e =
        rw (at_last bank s k.feed k.whole k.there k.kept e, told_last h s (last_same k.feed h k.keeps ∙ e))
        (record { answer_is = refl; holds = k })
    go false e =
        rw (at_next bank s k.feed k.whole k.there k.kept e, told_on h s (last_same k.feed h k.keeps ∙ e))
        (record {
          answer_is = answer_kept k.feed h k.keeps s fits;
          holds = record {
            feed = stored k.feed s;
            whole = length_kept bank 0 k.whole (omega arith) (slot_of (stored k.feed s)) next_slot;
            there = same_slot bank 0 k.whole (omega arith) (slot_of (stored k.feed s)) next_slot;
            kept = stored_kept k.feed s k.kept;
            keeps = still_keeps k.feed h k.keeps s fits;
          };
        })
