-- The phases at the three newest centres, told of the thirty-one places read round: where a centre has 29 samples, they stand at its window's end.
-- Assumes nothing.
use mathlib.Core.Path.{◌≡◌, refl, sym, ap, ◌∙◌}
use mathlib.Core.Bool.{Bool, true, false, cond}
use mathlib.Core.List.{List}
use Prim.Native.Nat.{ℕ, ◌+◌, ◌-◌, ◌%◌, ◌≤◌, ◌<◌}
use native.Mathlib.Omega.{arith}
use lib.Dec.{leb}
use lib.ListN.{length, get_or}
use lib.Seq.{get_or-drop}
use borrow.Author.Tests.{leb-true}
use Rattle.model.specs.declared.angle.Phase.{Phase}
use Rattle.model.specs.declared.filter.Sample.{Sample}
use Rattle.model.specs.declared.report.Phases.{Phases}
use Rattle.model.specs.Filter.{windowed, no_sample}
use Rattle.model.specs.Report.{phase_at, three_phase}
use Rattle.model.proofs.Same.{phase_same}
use Rattle.std.proofs.lemmas.Bool.Decides.{nat_tests}
use Rattle.feed.specs.declared.Feed.{Feed}
use Rattle.feed.specs.declared.Head.{Head}
use Rattle.feed.specs.Kept.{zero_phase, newest_centre, phase_back, phases_of}
use Rattle.feed.specs.Ring.{faulty, next_number_of, next_head, placed, history_of, worked_out}
use Rattle.feed.specs.Inside.{phase_over, newest_with, phases_with}
use Rattle.feed.proofs.Sound.{Sound, sound}
use Rattle.feed.proofs.Standing.{started}
use Rattle.feed.proofs.Due.{held_after, clock_after}
use Rattle.feed.proofs.Alike.{centre_back}
use Rattle.feed.proofs.Meeting.{ring_of, ring_length, held_is, next_is}

-- the place among thirty-one of the sample 14 - j before a centre: told of those held, and told of the thirty-one
held_place : (skipped first held c j back : ℕ) → skipped + held ≡ 31 → c + (15 + back) ≡ first + held → 29 + back ≤ held
    → skipped + (c + j - 14 - first) ≡ j + 2 - back
held_place skipped first held c j back whole clock full = omega arith

window_place : (index j back : ℕ) → back ≤ 2 → index + 30 - (14 + back) + j - 14 - index ≡ j + 2 - back
window_place index j back h = omega arith

module _ (f : Feed) (n : Sound f.head) (index : ℕ) (turn : (index + 31) % 15 ≡ next_number_of f.head % 15) where
  module _ (back : ℕ) (h : back ≤ 2) where
    -- a sample held, by its number, is one of the last thirty-one, by its place
    in_ring : (c j : ℕ) → j < 29 → 29 + back ≤ f.head.held → c + (15 + back) ≡ next_number_of f.head
        → windowed (history_of f).samples (history_of f).first (c + j - 14) ≡ windowed (ring_of f) index (index + 30 - (14 + back) + j - 14)
    unfolding history_of
    in_ring c j l full e =
        let skipped : ℕ = length (ring_of f) - f.head.held in
        let first : ℕ = next_number_of f.head - f.head.held in
        let whole : skipped + f.head.held ≡ 31 = omega (arith, ring_length f n, n.held) in
        let clock : c + (15 + back) ≡ first + f.head.held = omega (arith, started f.head n) in
        get_or-drop skipped (ring_of f) (c + j - 14 - first) no_sample
        ∙ ap (λ (i : ℕ). get_or (ring_of f) i no_sample) (held_place skipped first f.head.held c j back whole clock full ∙ sym (window_place index j back h))

    pub back_over : phase_back (history_of f) back ≡ phase_over f.head.held index (ring_of f) back
    unfolding phase_back phase_over
    back_over =
        ap (λ (m : ℕ). cond (leb (29 + back) m) (phase_at three_phase (windowed (history_of f).samples (history_of f).first) (newest_centre (history_of f) - back)) zero_phase) (held_is f n)
        ∙ go (leb (29 + back) f.head.held) refl
      where
        at : (c : ℕ) → 29 + back ≤ f.head.held → c + (15 + back) ≡ next_number_of f.head
            → phase_at three_phase (windowed (history_of f).samples (history_of f).first) c ≡ phase_at three_phase (windowed (ring_of f) index) (index + 30 - (14 + back))
        at c full e =
            phase_same (windowed (history_of f).samples (history_of f).first) (windowed (ring_of f) index) c (index + 30 - (14 + back))
            (omega (arith, started f.head n)) (omega arith) (omega arith) (λ j l. in_ring c j l full e) three_phase

        go : (b : Bool) → leb (29 + back) f.head.held ≡ b
            → cond b (phase_at three_phase (windowed (history_of f).samples (history_of f).first) (newest_centre (history_of f) - back)) zero_phase
            ≡ cond b (phase_at three_phase (windowed (ring_of f) index) (index + 30 - (14 + back))) zero_phase
        go true e =
            let full = leb-true (29 + back) f.head.held e in
            at (newest_centre (history_of f) - back) full (centre_back (history_of f) back (omega (arith, held_is f n)) ∙ next_is f n)
        go false e = refl

-- the newest phase that comes with a sample
pub newest_over : (f : Feed) (s : Sample) → Sound f.head → Sound (next_head f.head)
    → phase_back (history_of (placed f s)) 0 ≡ newest_with f.head (ring_of (placed f s))
newest_over f s n m = back_over (placed f s) m f.head.index (turn_is f.head n) 0 (omega arith)
  where
    turn_is : (h : Head) → Sound h → (h.index + 31) % 15 ≡ next_number_of (next_head h) % 15
    turn_is h n = omega (arith, clock_after h n)

-- the three of the samples held
pub phases_over : (f : Feed) → Sound f.head → phases_of (history_of f) ≡ phases_with f.head (ring_of f)
unfolding phases_of
phases_over f n =
    let at : (back : ℕ) → back ≤ 2 → phase_back (history_of f) back ≡ phase_over f.head.held (f.head.index + 14) (ring_of f) back =
    back_over f n (f.head.index + 14) (omega arith) in
    λ i. record { p = at 2 (omega arith) i; q = at 1 (omega arith) i; r = at 0 (omega arith) i }

-- ---- by the tests of the code

-- 29 are held with the next sample where 28 are before it
pub newest_so : (h : Head) → Sound h → (window : List Sample) (x : Phase) → x ≡ phase_at three_phase (windowed window h.index) (h.index + 30 - 14)
    → cond (leb 28 h.held) x zero_phase ≡ newest_with h window
unfolding phase_over
newest_so h n window x e = rw e (ap (λ (t : Bool). cond t (phase_at three_phase (windowed window h.index) (h.index + 30 - 14)) zero_phase) (go (leb 28 h.held) refl))
  where
    go : (t : Bool) → leb 28 h.held ≡ t → t ≡ leb 29 (next_head h).held
    go t e = let k = held_after h n in grind (arith, nat_tests)

-- a feed with faulty numbers stays, and one without has the phases of what it holds
pub stays_faulty : (f : Feed) → faulty f.head ≡ true → f ≡ worked_out f
unfolding worked_out
stays_faulty f e = rw e

pub works_out : (f : Feed) → faulty f.head ≡ false → (window : List Sample) → window ≡ ring_of f → (k : Phases) → k ≡ phases_with f.head window
    → ◌≡◌ {A = Feed} (record { head = f.head; places = f.places; kept = k }) (worked_out f)
unfolding worked_out
works_out f e window w k q =
    let n = sound f.head e in
    rw e (λ i. record { head = f.head; places = f.places; kept = (q ∙ ap (phases_with f.head) w ∙ sym (phases_over f n)) i })
