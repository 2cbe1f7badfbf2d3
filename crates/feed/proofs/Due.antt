-- The head after a sample; and the report that comes with it, told of the head before it, is the one of the samples and the phases then held: where
-- thirty were held the places read round are the whole history, where fewer were neither gives one. Assumes nothing.
use mathlib.Core.Path.{◌≡◌, refl, ap, ◌∙◌}
use mathlib.Core.Bool.{Bool, true, false, cond, ◌&&◌}
use mathlib.Core.List.{List}
use Prim.Native.Nat.{ℕ, suc, ◌+◌, ◌-◌, ◌*◌, ◌^◌, ◌<◌, ◌≤◌, min}
use native.Mathlib.Omega.{arith}
use lib.Dec.{leb, eqb}
use Rattle.std.proofs.Math.Bool.{and-false}
use lib.ListN.{length, drop, length-drop}
use borrow.Author.Tests.{leb-true, leb-false, le-leb, lt-leb, eqb-true, eq-eqb, ne_eqb}
use Rattle.std.specs.Prelude.{Some, None}
use Rattle.std.specs.Bool.{then_some}
use Rattle.model.specs.declared.filter.Sample.{Sample}
use Rattle.model.specs.declared.report.Phases.{Phases}
use Rattle.std.proofs.lemmas.Bool.Decides.{nat_tests}
use Rattle.feed.specs.declared.Centre.{Centre}
use Rattle.feed.specs.declared.Head.{Head}
use Rattle.feed.specs.declared.Feed.{Feed}
use Rattle.sampling.specs.Sampling.{sampling_of}
use Rattle.feed.specs.Answers.{taken}
use Rattle.feed.specs.History.{History, centre_of, last_index, is_due}
use Rattle.feed.specs.Kept.{report_from, answered_from}
use Rattle.feed.specs.Places.{samples_of}
use Rattle.feed.specs.Ring.{end_of_time_of, next_number_of, next_head, oldest_first, last_of, history_of}
use Rattle.feed.specs.Inside.{centre_number, centre_at, due_with, report_with}
use Rattle.feed.proofs.Sound.{Sound}
use Rattle.feed.proofs.Standing.{started}
use Rattle.feed.proofs.Samples.{samples_length}
use Rattle.feed.proofs.Rounds.{next_within, length_round}

-- ---- the head after one sample more

module _ (h : Head) (s : Sound h) where
  pub held_after : (next_head h).held ≡ suc (min 30 h.held)
  unfolding next_head
  held_after = grind (arith, nat_tests)

  pub place_after : (next_head h).place ≤ 30
  unfolding next_head
  place_after = next_within h.place s.place

  pub clock_after : next_number_of (next_head h) ≡ next_number_of h + 1
  unfolding next_head
  clock_after = go (last_index h.nominal h.index) refl
    where
      go : (b : Bool) → last_index h.nominal h.index ≡ b → cond b (h.soc + 1) h.soc * sampling_of h.nominal + cond b 0 (h.index + 1) ≡ next_number_of h + 1
      go true e = omega (arith, eqb-true (h.index + 1) (sampling_of h.nominal) e)
      go false e = omega arith

  -- the head, by whether the second goes on, ends, or is the last one
  module _ (held place : ℕ) (held_is : held ≡ min (h.held + 1) 31) (place_is : place ≡ cond (eqb h.place 30) 0 (h.place + 1)) where
    same_held : held ≡ (next_head h).held
    same_held = held_is ∙ omega (arith, held_after)

    pub second_goes_on : h.index + 1 < sampling_of h.nominal
        → ((end_of_time_of h).due ≡ false)
        × ◌≡◌ {A = Head} (record { nominal = h.nominal; rate = h.rate; held = held; soc = h.soc; index = h.index + 1; place = place }) (next_head h)
    unfolding next_head
    second_goes_on l =
        let last : last_index h.nominal h.index ≡ false = ne_eqb _ _ (λ e. omega (arith, e)) in
        (ap (λ (b : Bool). eqb h.soc 4294967295 && b) last ∙ and-false (eqb h.soc 4294967295), rw (same_held, place_is, last))

    pub second_ends : sampling_of h.nominal ≤ h.index + 1 → (soc : ℕ) → h.soc + 1 < 2 ^ 32 → soc ≡ h.soc + 1
        → ((end_of_time_of h).due ≡ false)
        × ◌≡◌ {A = Head} (record { nominal = h.nominal; rate = h.rate; held = held; soc = soc; index = 0; place = place }) (next_head h)
    unfolding next_head
    second_ends l soc m e =
        let last : last_index h.nominal h.index ≡ true = eq-eqb _ _ (omega (arith, s.index)) in
        let late : eqb h.soc 4294967295 ≡ false = ne_eqb _ _ (λ e. omega (arith, e)) in
        (ap (λ (b : Bool). b && last_index h.nominal h.index) late, rw (same_held, place_is, last, e))

  pub time_ends : sampling_of h.nominal ≤ h.index + 1 → h.soc < 2 ^ 32 → (h.soc + 1 < 2 ^ 32 → ⊥) → (end_of_time_of h).due ≡ true
  time_ends l m n = rw (eq-eqb h.soc 4294967295 (omega arith), eq-eqb (h.index + 1) (sampling_of h.nominal) (omega (arith, s.index)))

-- ---- whether one is due

-- where a report's centre is given it is due, and where none is given it is not
pub due_there : (h : Head) {centre : Centre} → Some centre ≡ then_some (due_with h) (centre_at h) → (due_with h ≡ true) × (centre ≡ centre_at h)
due_there h {centre} = go (due_with h)
  where
    go : (b : Bool) → Some centre ≡ then_some b (centre_at h) → (b ≡ true) × (centre ≡ centre_at h)
    go true e = (refl, cc)
    go false e = (cc, cc)

pub due_not : (h : Head) → None ≡ then_some (due_with h) (centre_at h) → due_with h ≡ false
due_not h = go (due_with h)
  where
    go : (b : Bool) → None ≡ then_some b (centre_at h) → b ≡ false
    go true e = cc
    go false e = refl

-- thirty are held where a report comes with the next sample
pub due_full : (h : Head) → due_with h ≡ true → 30 ≤ h.held
unfolding due_with
due_full h e = grind (arith, nat_tests)

-- ---- the history of what is then held

module _ (h : Head) (s : Sound h) (p : List ℕ) (k : Phases) where
  -- the feed with one sample more, and the samples in its places, oldest first
  abbrev pub next : Feed
  next = record { head = next_head h; places = p; kept = k }

  abbrev pub window : List Sample
  window = oldest_first (next_head h).place (samples_of 31 p)

  window_length : length window ≡ 31
  window_length =
      let l : length (samples_of 31 p) ≡ 31 = samples_length 31 p in
      length_round (next_head h).place (samples_of 31 p) (omega (arith, place_after h s)) ∙ l

  -- all that is told, where thirty were held
  told : History
  told = record { nominal = h.nominal; rate = h.rate; first = next_number_of h - 30; samples = window }

  first_is : 30 ≤ h.held → next_number_of (next_head h) - (next_head h).held ≡ next_number_of h - 30
  first_is full = omega (arith, held_after h s, clock_after h s, started h s)

  samples_are : 30 ≤ h.held → last_of (next_head h).held window ≡ window
  samples_are full =
      let e : length window - (next_head h).held ≡ 0 = omega (arith, window_length, held_after h s) in
      ap (λ (n : ℕ). drop n window) e

  whole : 30 ≤ h.held → history_of next ≡ told
  unfolding history_of told next_head
  whole full = λ i. record { nominal = h.nominal; rate = h.rate; first = first_is full i; samples = samples_are full i }

  at_centre : 30 ≤ h.held → centre_of told ≡ centre_number h
  unfolding told
  at_centre full = omega (arith, window_length, started h s)

  told_is : 30 ≤ h.held → answered_from told k ≡ cond (due_with h) (report_with h window k) taken
  unfolding told answered_from is_due report_from due_with report_with
  told_is full =
      let t : leb 31 (length window) ≡ true = le-leb 31 (length window) (omega (arith, window_length)) in
      rw (t, at_centre full, le-leb 30 h.held full)

  short : h.held < 30 → answered_from (history_of next) k ≡ cond (due_with h) (report_with h window k) taken
  unfolding history_of answered_from is_due due_with
  short l =
      let n : length (last_of (next_head h).held window) < 31 = simp length-drop (omega (arith, window_length, held_after h s)) in
      rw (lt-leb 31 (length (last_of (next_head h).held window)) n, lt-leb 30 h.held l)

  pub answer_is : answered_from (history_of next) k ≡ cond (due_with h) (report_with h window k) taken
  answer_is = go (leb 30 h.held) refl
    where
      go : (b : Bool) → leb 30 h.held ≡ b → answered_from (history_of next) k ≡ cond (due_with h) (report_with h window k) taken
      go true e = let l = leb-true 30 h.held e in ap (λ (x : History). answered_from x k) (whole l) ∙ told_is l
      go false e = short (leb-false 30 h.held e)
