-- An open slot's feed, passed through a push, gives the outcome of the bank's push: what the feed refuses with 3 is the slot's damage, a refused
-- push leaves the slot as it was, and a taken one the slot of the stored feed. Assumes nothing.
use mathlib.Core.Path.{◌≡◌, refl, sym, ◌∙◌, ap}
use mathlib.Core.Bool.{Bool, true, false, cond, ◌||◌}
use mathlib.Core.List.{List}
use Prim.Native.Nat.{ℕ, ◌≤◌}
use lib.Dec.{eqb, ltb}
use lib.ListN.{length}
use Rattle.model.specs.declared.filter.Sample.{Sample}
use Rattle.model.specs.declared.report.Phases.{Phases}
use Rattle.feed.specs.declared.Feed.{Feed}
use Rattle.std.specs.Prelude.{Ok, Option, Some, None}
use Rattle.feed.specs.declared.Report.{Report}
use Rattle.feed.specs.declared.Pushed.{Pushed}
use Rattle.feed.specs.Answers.{Said, refused, done, taken, taken_with, said, tagged}
use Rattle.feed.specs.History.{History, centre_of, is_due}
use Rattle.feed.specs.Kept.{report_from, answered_from}
use Rattle.feed.specs.Ring.{faulty, end_of_time_of, stored, history_of, Next, pushed, Pushing as FeedPushing}
use Rattle.bank.specs.Slot.{state_in, head_in, feed_in, slot_of, with_slot}
use Rattle.bank.specs.Damage.{is_free, stray, is_damaged}
use Rattle.bank.specs.Calls.{Outcome, pushed_at}
use Rattle.bank.specs.Inside.{StandsIn, written}
use Rattle.bank.proofs.Lent.{pass, stop, inside, seen, size, unaltered}
use Rattle.bank.proofs.States.{or_so, or_not, open_damaged, stray_or_over}
use Rattle.bank.proofs.Outcomes.{push_damaged}
use Rattle.feed.proofs.Sound.{neither}
use borrow.Author.Tests.{le-ltb, ltb-false}
use Rattle.bank.proofs.Stray.{clean_tail}
use Rattle.bank.proofs.Written.{stored_slot}

-- the bytes that a push leaves: those before it where it is refused, and else what it writes
abbrev pub left : Said → (before written : List ℕ) → List ℕ
left (refused number) before written = before
left done before written = written
left taken before written = written
left (taken_with soc frame re im d1 d2 mark re_peak im_peak deviation rocof) before written = written

-- an answer that takes the sample is no refusal
left_answered : (h : History) (k : Phases) (before written : List ℕ) → left (answered_from h k) before written ≡ written
unfolding answered_from report_from tagged
left_answered h k before written = go (is_due h)
  where
    go : (t : Bool) → left (cond t (report_from h (centre_of h) k) taken) before written ≡ written
    go true = refl
    go false = refl

-- nor is one that the code takes for none
pub left_taken : (a : Option Report) (before written : List ℕ) → left (said (Ok a)) before written ≡ written
left_taken None before written = refl
left_taken (Some r) before written = refl

-- how the bank's push ends where the feed's gives this
abbrev pub ended : List ℕ → ℕ → List ℕ → Sample → Next → Outcome
ended bank slot s v n = record { answer = n.answer; bank = with_slot bank slot (left n.answer s (written s v n.feed)) }

module _ {bank : List ℕ} {slot : ℕ} {s : List ℕ} (l : StandsIn bank slot s) (v : Sample) (one : state_in s ≡ 1) where
  -- stray bytes, a flag over 1 or a place over 30: an open slot is then damaged
  pub push_stray : (stray s || ltb 30 (head_in s).place) ≡ true → pushed_at bank slot v ≡ record { answer = refused 3; bank = with_slot bank slot s }
  push_stray e = push_damaged l v (stray_or_over s one e)

  module _ (clear : (stray s || ltb 30 (head_in s).place) ≡ false) where
    clean : stray s ≡ false
    clean = (neither _ _ clear).0

    within : (head_in s).place ≤ 30
    within = ltb-false 30 (head_in s).place (neither _ _ clear).1

    not_free : is_free s ≡ false
    not_free = ap (λ (n : ℕ). eqb n 0) one

    same : ended bank slot s v (pushed (feed_in s) v) ≡ pushed_at bank slot v
    unfolding feed_in pushed pushed_at
    same = go (faulty (head_in s)) (end_of_time_of (head_in s)).due refl refl
      where
        go : (t u : Bool) → faulty (head_in s) ≡ t → (end_of_time_of (head_in s)).due ≡ u → ended bank slot s v (pushed (feed_in s) v) ≡ pushed_at bank slot v
        go true u p q =
            ap (ended bank slot s v) (stop _ _ p)
            ∙ unaltered l (refused 3)
            ∙ sym (inside l _ _ _ ∙ stop _ _ (seen l is_damaged (open_damaged s one ∙ or_so _ p)))
        go false true p q =
            ap (ended bank slot s v) (pass _ _ p ∙ stop _ _ q)
            ∙ unaltered l (refused 8)
            ∙ sym (
            inside l _ _ _
            ∙ pass _ _ (seen l is_damaged (open_damaged s one ∙ or_not _ p ∙ clean))
            ∙ pass _ _ (seen l is_free not_free)
            ∙ stop _ _ (seen l (λ (r : List ℕ). (end_of_time_of (head_in r)).due) q)
            )
        go false false p q =
            let next : Feed = stored (feed_in s) v in
            let kept = left_answered (history_of next) next.kept s _ ∙ stored_slot s (size l) v within (clean_tail s (size l) clean) in
            ap (ended bank slot s v) (pass _ _ p ∙ pass _ _ q)
            ∙ (λ i. record { answer = answered_from (history_of next) next.kept; bank = with_slot bank slot (kept i) })
            ∙ sym (
            inside l _ _ _
            ∙ pass _ _ (seen l is_damaged (open_damaged s one ∙ or_not _ p ∙ clean))
            ∙ pass _ _ (seen l is_free not_free)
            ∙ pass _ _ (seen l (λ (r : List ℕ). (end_of_time_of (head_in r)).due) q)
            ∙ ap (λ (r : List ℕ). record { answer = answered_from (history_of (stored (feed_in r) v)) (stored (feed_in r) v).kept; bank = with_slot bank slot (slot_of (stored (feed_in r) v)) }) l.there
            )

    -- the feed passes through a push as one value, and what it changes goes back: that is the bank's push
    pub push_through : pushed_at bank slot v ≡ ended bank slot s v (pushed (feed_in s) v)
    push_through = sym same

  pub ruleset open_pushes = (push_stray, push_through)

module _ {bank : List ℕ} {slot : ℕ} {s : List ℕ} (l : StandsIn bank slot s) (size : length s ≡ 256) (one : state_in s ≡ 1) (clean : stray s ≡ false) (within : (head_in s).place ≤ 30) (v : Sample) where
  -- the feed passes through a push as one value, and what it changes goes back: that is the bank's push
  pub through : {f : Feed} (r : Pushed) → f ≡ feed_in s → FeedPushing f v r → ended bank slot s v (record { answer = said r.answer; feed = r.feed }) ≡ pushed_at bank slot v
  through r e p =
      ap (ended bank slot s v) (p ∙ ap (λ (f : Feed). pushed f v) e)
      ∙ sym (push_through l v one (or_not _ clean ∙ le-ltb 30 (head_in s).place within))
