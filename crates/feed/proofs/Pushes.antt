-- What a push answers: refused 3, refused 8, or taken, with the report if one is due. Assumes nothing.
use mathlib.Core.Path.{◌≡◌, sym, ap, ◌∙◌}
use mathlib.Core.Bool.{true, false, cond}
use mathlib.Core.List.{List}
use Prim.Native.Nat.{ℕ, ◌+◌}
use lib.Dec.{eqb}
use Rattle.model.specs.declared.report.Phases.{Phases}
use Rattle.model.specs.declared.filter.Sample.{Sample}
use Rattle.feed.specs.declared.Head.{Head}
use Rattle.feed.specs.declared.Feed.{Feed}
use Rattle.feed.specs.Answers.{Said, refused, taken}
use Rattle.feed.specs.Kept.{moved_on, answered_from}
use Rattle.feed.specs.Places.{samples_of, with_place}
use Rattle.feed.specs.Ring.{Next, faulty, end_of_time_of, next_head, oldest_first, placed, stored, history_of, pushed}
use Rattle.feed.specs.Inside.{due_with, report_with, newest_with}
use Rattle.feed.proofs.Sound.{sound}
use Rattle.feed.proofs.Due.{answer_is}
use Rattle.feed.proofs.Faultless.{push_sound}
use Rattle.feed.proofs.Meeting.{ring_of, pushed_last, pushed_on}
use Rattle.feed.proofs.Centres.{newest_over}

module _ (f : Feed) (s : Sample) where
  pub refused_3 : faulty f.head ≡ true → ◌≡◌ {A = Next} (record { answer = refused 3; feed = f }) (pushed f s)
  unfolding pushed
  refused_3 e = rw e

  pub refused_8 : faulty f.head ≡ false → (end_of_time_of f.head).due ≡ true → ◌≡◌ {A = Next} (record { answer = refused 8; feed = f }) (pushed f s)
  refused_8 e d = sym (pushed_last f s e d)

  module _ (e : faulty f.head ≡ false) (d : (end_of_time_of f.head).due ≡ false) where
    -- the report of the samples and the phases that are held then
    abbrev pub report_then : Said
    report_then = report_with f.head (ring_of (placed f s)) (stored f s).kept

    stored_answer : answered_from (history_of (stored f s)) (stored f s).kept ≡ cond (due_with f.head) report_then taken
    unfolding stored
    stored_answer = answer_is f.head (sound f.head e) (with_place f.places f.head.place s) (stored f s).kept

    taken_so : ◌≡◌ {A = Next} (record { answer = cond (due_with f.head) report_then taken; feed = stored f s }) (pushed f s)
    taken_so = ap (λ (x : Said). record { answer = x; feed = stored f s }) (sym stored_answer) ∙ sym (pushed_on f s e d)

    -- the phases that are kept then: those before it moved on, and the newest of the samples then held
    pub kept_then : (window : List Sample) → window ≡ ring_of (placed f s) → moved_on f.kept (newest_with f.head window) ≡ (stored f s).kept
    unfolding stored
    kept_then window w =
        ap (moved_on f.kept) (ap (newest_with f.head) w ∙ sym (newest_over f s (sound f.head e) (sound (next_head f.head) (push_sound f.head e))))

    stored_is : (next : Head) → next ≡ next_head f.head → (window : List Sample) → window ≡ ring_of (placed f s) → (kept : Phases) → kept ≡ moved_on f.kept (newest_with f.head window)
        → (places : List ℕ) → places ≡ with_place f.places f.head.place s → ◌≡◌ {A = Feed} (record { head = next; places = places; kept = kept }) (stored f s)
    unfolding stored
    stored_is next n window w kept k places p = λ i. record { head = n i; places = p i; kept = (k ∙ kept_then window w) i }

  -- a head that is the feed's, and what is found by it
  module _ (h : Head) (is : h ≡ f.head) (e : faulty h ≡ false) (next : Head) (n : ((end_of_time_of h).due ≡ false) × (next ≡ next_head h)) (place : ℕ) (at : place ≡ h.place)
      (window : List Sample) (w : window ≡ oldest_first (cond (eqb place 30) 0 (place + 1)) (samples_of 31 (with_place f.places place s)))
      (kept : Phases) (k : kept ≡ moved_on f.kept (newest_with h window)) (places : List ℕ) (p : places ≡ with_place f.places place s) where
    abbrev g : Feed
    g = record { head = next; places = places; kept = kept }

    in_order : faulty f.head ≡ false
    in_order = rw is at e

    in_time : (end_of_time_of f.head).due ≡ false
    in_time = rw is at n.0

    ring : window ≡ ring_of (placed f s)
    unfolding next_head
    ring = rw (at, is) at w

    g_is : g ≡ stored f s
    g_is = stored_is in_order in_time next (rw is at n.1) window ring kept (rw is at k) places (rw (at, is) at p)

    pub answered : (a : Said) → a ≡ cond (due_with h) (report_with h window kept) taken → ◌≡◌ {A = Next} (record { answer = a; feed = g }) (pushed f s)
    answered a q =
        let r : a ≡ cond (due_with f.head) (report_then in_order in_time) taken = q ∙ λ i. cond (due_with (is i)) (report_with (is i) (ring i) (g_is i).kept) taken in
        (λ i. record { answer = r i; feed = g_is i }) ∙ taken_so in_order in_time
