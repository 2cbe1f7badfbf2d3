-- What a slot's bytes show of its feed, told by condition B's rule: a call is answered the same of both, and leaves the one showing the other.
use mathlib.Core.Path.{◌≡◌, refl, sym, ap, ◌∙◌, subst}
use mathlib.Core.Bool.{Bool, true, false, cond, not, ◌||◌}
use mathlib.Core.List.{List}
use Prim.Native.Nat.{ℕ}
use lib.Dec.{eqb}
use lib.ListN.{length}
use borrow.Author.Tests.{eqb-true}
use Rattle.model.specs.declared.filter.Sample.{Sample}
use Rattle.feed.specs.declared.Feed.{Feed}
use Rattle.sampling.specs.Tags.{served_nominal, served_rate}
use Rattle.feed.specs.Answers.{done}
use Rattle.feed.specs.History.{History, opening, grown, told}
use Rattle.feed.specs.Kept.{answered_from}
use Rattle.feed.specs.Ring.{opened, stored, history_of, end_of_time_of}
use Rattle.sampling.proofs.Rates.{kept_served}
use Rattle.feed.proofs.Stored.{Fits16}
use Rattle.feed.proofs.Alike.{told_last, told_on}
use Rattle.feed.proofs.Meeting.{Keeps, held_kept, opening_kept, last_same, answer_kept, stored_kept}
use Rattle.bank.specs.Slot.{state_in, head_in, feed_in, slot_of, TrueIn}
use Rattle.bank.specs.Damage.{is_free, is_open, is_damaged}
use Rattle.bank.proofs.Keeping.{Kept, feed_back, slot_whole, slot_open, kept_undamaged, free_undamaged, free_is_free, free_whole, is_open_lem, open_kept}
use Rattle.bank.proofs.KeptOn.{opened_kept, stored_kept as kept_on}
use Rattle.bank.proofs.Angles.{true_feed}
use Rattle.acceptance.specs.Runs.{Ask, opens, samples, closes, sample_by}
use Rattle.acceptance.specs.Alone.{State, damaged, free, open_with, Step, refusing, stepped, start_of}
use Rattle.acceptance.proofs.OnSlot.{Left, leaving, on_slot}

pub data Shows : List ℕ → State → Type 0 where
  spoilt : {s : List ℕ} → is_damaged s ≡ true → Shows s damaged
  empty : {s : List ℕ} → is_damaged s ≡ false → is_free s ≡ true → Shows s free
  keeping : {s : List ℕ} {h : History} → is_damaged s ≡ false → is_free s ≡ false → Keeps (feed_in s) h → Shows s (open_with h)

-- the same answer, and a whole slot that shows the feed after it
pub record Goes (l : Left) (t : Step) : Type 0 where
  pub answer_same : l.answer ≡ t.answer
  pub whole : length l.slot ≡ 256
  pub shows : Shows l.slot t.next

-- ---- the start

pub start_shown : (s : List ℕ) → length s ≡ 256 → TrueIn s → Shows s (start_of s)
unfolding start_of
start_shown s w t = go (is_damaged s) refl (is_free s) refl
  where
    go : (d : Bool) → is_damaged s ≡ d → (f : Bool) → is_free s ≡ f → Shows s (cond d damaged (cond f free (open_with (history_of (feed_in s)))))
    go true d f e = spoilt d
    go false d true e = empty d e
    go false d false e =
        let k = open_kept s w d e in
        keeping d e (held_kept (feed_in s) k.faultless k.whole (true_feed s (eqb-true (state_in s) 1 (is_open_lem s w d e)) t))

-- ---- what a call leaves

-- a refused call
stays : (s : List ℕ) (st : State) → length s ≡ 256 → Shows s st → (n : ℕ) → Goes (leaving s n) (refusing st n)
stays s st w h n = record { answer_same = refl; whole = w; shows = h }

-- a slot that a feed is put into
put_shown : (f : Feed) (h : History) → Kept f → Keeps f h → Shows (slot_of f) (open_with h)
put_shown f h k m =
    keeping (kept_undamaged f k) (ap (λ (n : ℕ). eqb n 0) (slot_open f)) (subst (λ (g : Feed). Keeps g h) (sym (feed_back f k.whole)) m)

module _ (s : List ℕ) (w : length s ≡ 256) where
  damaged_goes : (ask : Ask) → is_damaged s ≡ true → Goes (on_slot ask s) (stepped ask damaged)
  unfolding on_slot stepped
  damaged_goes (opens nominal rate soc) d = rw d (stays s damaged w (spoilt d) 3)
  damaged_goes (samples a b c) d = rw d (stays s damaged w (spoilt d) 3)
  damaged_goes closes d = rw d (stays s damaged w (spoilt d) 3)

  module _ (d : is_damaged s ≡ false) (e : is_free s ≡ true) where
    not_open : is_open s ≡ false
    not_open = let z : state_in s ≡ 0 = eqb-true (state_in s) 0 e in rw z

    open_goes : (nominal rate soc : ℕ) (m : Bool) → served_nominal nominal ≡ m → (q : Bool) → (served_rate nominal rate || eqb rate 0) ≡ q
        → Goes
        (cond (not m) (leaving s 6) (cond (not q) (leaving s 7) (record { answer = done; slot = slot_of (opened nominal rate soc) })))
        (cond (not m) (refusing free 6) (cond (not q) (refusing free 7) (record { answer = done; next = open_with (opening nominal rate soc) })))
    open_goes nominal rate soc true a true b =
        let r = kept_served nominal rate a b in
        let k = opened_kept nominal rate soc a r in
        record {
          answer_same = refl;
          whole = slot_whole (opened nominal rate soc) k.whole;
          shows = put_shown (opened nominal rate soc) (opening nominal rate soc) k (opening_kept nominal rate soc a r);
        }
    open_goes nominal rate soc true a false b = stays s free w (empty d e) 7
    open_goes nominal rate soc false a q b = stays s free w (empty d e) 6

    free_goes : (ask : Ask) → Goes (on_slot ask s) (stepped ask free)
    unfolding on_slot stepped
    free_goes (opens nominal rate soc) = rw (d, not_open) (open_goes nominal rate soc (served_nominal nominal) refl (served_rate nominal rate || eqb rate 0) refl)
    free_goes (samples a b c) = rw (d, e) (stays s free w (empty d e) 5)
    free_goes closes = rw (d, e) (stays s free w (empty d e) 5)

  module _ (d : is_damaged s ≡ false) (e : is_free s ≡ false) (h : History) (k : Keeps (feed_in s) h) where
    pushed_goes : (x : Sample) → Fits16 x → (b : Bool) → (end_of_time_of (head_in s)).due ≡ b
        → Goes
        (cond b (leaving s 8) (record { answer = answered_from (history_of (stored (feed_in s) x)) (stored (feed_in s) x).kept; slot = slot_of (stored (feed_in s) x) }))
        (record { answer = (told h x).answer; next = open_with (told h x).history })
    unfolding feed_in
    pushed_goes x fits true t = rw (told_last h x (last_same (feed_in s) h k ∙ t)) (stays s (open_with h) w (keeping d e k) 8)
    pushed_goes x fits false t =
        let m = kept_on (feed_in s) x (open_kept s w d e) in
        rw (told_on h x (last_same (feed_in s) h k ∙ t))
        (record {
          answer_same = answer_kept (feed_in s) h k x fits;
          whole = slot_whole (stored (feed_in s) x) m.whole;
          shows = put_shown (stored (feed_in s) x) (grown h x) m (stored_kept (feed_in s) h k x fits);
        })

    kept_goes : (ask : Ask) → Goes (on_slot ask s) (stepped ask (open_with h))
    unfolding on_slot stepped
    kept_goes (opens nominal rate soc) = rw (d, is_open_lem s w d e) (stays s (open_with h) w (keeping d e k) 4)
    kept_goes (samples a b c) =
        rw (d, e)
        (pushed_goes (sample_by a b c) (record { a_fits = a.range; b_fits = b.range; c_fits = c.range }) (end_of_time_of (head_in s)).due refl)
    kept_goes closes = rw (d, e) (record { answer_same = refl; whole = free_whole; shows = empty free_undamaged free_is_free })

pub step_goes : (ask : Ask) (s : List ℕ) (st : State) → length s ≡ 256 → Shows s st → Goes (on_slot ask s) (stepped ask st)
step_goes ask s st w (spoilt d) = damaged_goes s w ask d
step_goes ask s st w (empty d e) = free_goes s w d e ask
step_goes ask s st w (keeping {h = h} d e k) = kept_goes s w d e h k ask
