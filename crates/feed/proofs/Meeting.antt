-- The ring meets the history rule: what a feed holds is the end of the history that it keeps, its kept phases are true, and a push keeps both so.
use mathlib.Core.Path.{◌≡◌, refl, sym, ap, ap₂, ◌∙◌}
use mathlib.Core.Bool.{Bool, true, false}
use mathlib.Core.List.{List, [], ◌∷◌, ◌++◌}
use Prim.Native.Nat.{ℕ, suc, ◌+◌, ◌≤◌, min}
use native.Mathlib.Omega.{arith}
use lib.Arith.{digits_div, digits_mod}
use lib.ListN.{length, drop, length-append, length-replicate}
use Rattle.model.specs.declared.filter.Sample.{Sample}
use Rattle.model.specs.declared.report.Phases.{Phases}
use Rattle.feed.specs.declared.Feed.{Feed}
use Rattle.sampling.specs.Tags.{served_nominal, served_rate, kept_rate}
use Rattle.feed.specs.Answers.{refused}
use Rattle.feed.specs.History.{History, next_number, opening, grown, answered, Told, told}
use Rattle.feed.specs.Places.{zeros, samples_of}
use Rattle.feed.specs.Kept.{phase_back, phases_of, answered_from}
use Rattle.feed.specs.Ring.{faulty, next_number_of, opened, next_head, placed, stored, oldest_first, last_of, history_of, end_of_time_of, Next, pushed, True}
use Rattle.feed.proofs.Sound.{Sound, sound}
use Rattle.feed.proofs.Standing.{started}
use Rattle.feed.proofs.Samples.{samples_length}
use Rattle.feed.proofs.Rounds.{length_round}
use Rattle.feed.proofs.Due.{held_after, clock_after}
use Rattle.feed.proofs.Faultless.{opened_sound, push_sound}
use Rattle.feed.proofs.Latest.{length_last, last_snoc, last_last, last_drop, last_all, last_none, round_store}
use Rattle.feed.proofs.Stored.{Fits16, with_length, samples_set}
use Rattle.feed.proofs.Alike.{Alike, alike_self, alike_on, is_last, told_last, told_on, answered_same, back_same, grown_alike}
use Rattle.feed.proofs.Truth.{back_grows, none_yet, answered_true}

-- a feed keeps a history: its numbers are not faulty, its places are whole, what it holds is that history's end, and its kept phases are true
pub record Keeps (f : Feed) (h : History) : Type 0 where
  pub faultless : faulty f.head ≡ false
  pub whole : length f.places ≡ 186
  pub alike : Alike (history_of f) h
  pub true_kept : True f

-- the thirty-one places, the oldest first
abbrev pub ring_of : Feed → List Sample
ring_of f = oldest_first f.head.place (samples_of 31 f.places)

module _ (f : Feed) (n : Sound f.head) where
  pub ring_length : length (ring_of f) ≡ 31
  ring_length =
      length_round f.head.place (samples_of 31 f.places) (omega (arith, n.place, samples_length 31 f.places))
      ∙ samples_length 31 f.places

  pub held_is : length (history_of f).samples ≡ f.head.held
  unfolding history_of
  held_is = length_last f.head.held (ring_of f) ∙ omega (arith, ring_length, n.held)

  pub next_is : next_number (history_of f) ≡ next_number_of f.head
  unfolding history_of
  next_is = omega (arith, held_is, started f.head n)

pub stored_whole : (f : Feed) (s : Sample) → faulty f.head ≡ false → length f.places ≡ 186 → length (stored f s).places ≡ 186
unfolding stored
stored_whole f s e whole = with_length f.places f.head.place s (omega (arith, (sound f.head e).place)) ∙ whole

pub stored_sound : (f : Feed) (s : Sample) → faulty f.head ≡ false → faulty (stored f s).head ≡ false
unfolding stored
stored_sound f s e = push_sound f.head e

module _ (f : Feed) (s : Sample) (n : Sound f.head) (whole : length f.places ≡ 186) (fits : Fits16 s) where
  ring_next : ring_of (stored f s) ≡ drop 1 (ring_of f) ++ (s ∷ [])
  unfolding stored next_head
  ring_next =
      rw (samples_set 31 f.head.place f.places s (omega (arith, n.place)) (omega arith) fits)
      (round_store f.head.place (samples_of 31 f.places) s n.place (samples_length 31 f.places))

  held_then : (stored f s).head.held ≡ suc (min 30 f.head.held)
  unfolding stored
  held_then = held_after f.head n

  latest_after : last_of 31 (history_of (stored f s)).samples ≡ last_of 31 ((history_of f).samples ++ (s ∷ []))
  unfolding history_of
  latest_after =
      let m : ℕ = min 30 f.head.held in
      let k : min 31 (stored f s).head.held ≡ suc m = omega (arith, held_then) in
      let old : List Sample = last_of f.head.held (ring_of f) in
      last_last 31 (stored f s).head.held (ring_of (stored f s))
      ∙ ap₂ (λ (i : ℕ) (xs : List Sample). last_of i xs) k ring_next
      ∙ last_snoc m (drop 1 (ring_of f)) s
      ∙ ap (λ (xs : List Sample). xs ++ (s ∷ [])) (last_drop m 1 (ring_of f) (omega (arith, ring_length f n)) ∙ sym (last_last 30 f.head.held (ring_of f)))
      ∙ sym (last_snoc 30 old s)

  nominal_after : (history_of (stored f s)).nominal ≡ (history_of f).nominal
  unfolding history_of stored next_head
  nominal_after = refl

  rate_after : (history_of (stored f s)).rate ≡ (history_of f).rate
  unfolding history_of stored next_head
  rate_after = refl

  number_after : next_number_of (stored f s).head ≡ next_number_of f.head + 1
  unfolding stored
  number_after = clock_after f.head n

  pub stored_alike : faulty f.head ≡ false → Alike (history_of (stored f s)) (grown (history_of f) s)
  unfolding grown
  stored_alike e = record {
    nominal_same = nominal_after;
    rate_same = rate_after;
    next_same =
        next_is (stored f s) (sound (stored f s).head (stored_sound f s e)) ∙ number_after
        ∙ omega (arith, next_is f n, length-append (history_of f).samples (s ∷ []));
    latest_same = latest_after;
  }

  -- what the rule gives for a centre, it gives one further back with one sample more
  moved : faulty f.head ≡ false → (back : ℕ) → back ≤ 1 → phase_back (history_of f) back ≡ phase_back (history_of (stored f s)) (suc back)
  moved e back l =
      sym (back_grows (history_of f) s back)
      ∙ sym (back_same (history_of (stored f s)) (grown (history_of f) s) (stored_alike e) (suc back) (omega arith))

  same_history : history_of (placed f s) ≡ history_of (stored f s)
  unfolding history_of stored
  same_history = refl

  -- true phases move on, and the newest is the rule's: so they stay true
  pub stored_true : faulty f.head ≡ false → True f → True (stored f s)
  unfolding stored phases_of
  stored_true e t =
      let p = ap (λ (k : Phases). k.q) t ∙ moved e 1 (omega arith) in
      let q = ap (λ (k : Phases). k.r) t ∙ moved e 0 (omega arith) in
      λ i. record { p = p i; q = q i; r = phase_back (same_history i) 0 }

-- ---- a feed with what it holds, and a fresh opening

pub held_kept : (f : Feed) → faulty f.head ≡ false → length f.places ≡ 186 → True f → Keeps f (history_of f)
held_kept f e l t = record { faultless = e; whole = l; alike = alike_self (history_of f); true_kept = t }

module _ (nominal rate soc : ℕ) where
  pub opened_whole : length (opened nominal rate soc).places ≡ 186
  unfolding opened zeros
  opened_whole = length-replicate {A = ℕ} 186 0

  opened_alike : Sound (opened nominal rate soc).head → Alike (history_of (opened nominal rate soc)) (opening nominal rate soc)
  unfolding history_of opened opening
  opened_alike n = record {
    nominal_same = refl;
    rate_same = refl;
    next_same = next_is (opened nominal rate soc) n;
    latest_same = ap (λ (xs : List Sample). last_of 31 xs) (last_none (ring_of (opened nominal rate soc)));
  }

  pub opened_true : True (opened nominal rate soc)
  unfolding history_of opened
  opened_true = sym (none_yet (history_of (opened nominal rate soc)) (ap length (last_none (ring_of (opened nominal rate soc)))))

  pub opening_kept : served_nominal nominal ≡ true → served_rate nominal (kept_rate nominal rate) ≡ true
      → Keeps (opened nominal rate soc) (opening nominal rate soc)
  opening_kept a b =
      let e = opened_sound nominal rate soc a b in
      record { faultless = e; whole = opened_whole; alike = opened_alike (sound _ e); true_kept = opened_true }

-- ---- a push

module _ (f : Feed) (h : History) (k : Keeps f h) where
  -- what a feed holds are the last thirty-one samples of its history, or all of them where they are fewer
  pub holds_the_last : (history_of f).samples ≡ last_of 31 h.samples
  holds_the_last =
      let n = sound f.head k.faultless in
      sym (last_all 31 (history_of f).samples (omega (arith, held_is f n, n.held))) ∙ k.alike.latest_same

  -- whether the sample is the last that SOC 4294967295 has, told of the feed's numbers and told of the history
  pub last_same : is_last h ≡ (end_of_time_of f.head).due
  unfolding history_of
  last_same =
      let n = sound f.head k.faultless in
      let c : next_number h ≡ next_number_of f.head = sym k.alike.next_same ∙ next_is f n in
      let m : h.nominal ≡ f.head.nominal = sym k.alike.nominal_same in
      rw (m, c, digits_div f.head.soc n.index, digits_mod f.head.soc n.index)

  module _ (s : Sample) (fits : Fits16 s) where
    on : Alike (history_of (stored f s)) (grown h s)
    on =
        alike_on _ (grown (history_of f) s) _
        (stored_alike f s (sound f.head k.faultless) k.whole fits k.faultless)
        (grown_alike (history_of f) h k.alike s)

    still_true : True (stored f s)
    still_true = stored_true f s (sound f.head k.faultless) k.whole fits k.faultless k.true_kept

    pub answer_kept : answered_from (history_of (stored f s)) (stored f s).kept ≡ answered (grown h s)
    answer_kept =
        ap (answered_from (history_of (stored f s))) still_true
        ∙ answered_true (history_of (stored f s))
        ∙ answered_same (history_of (stored f s)) (grown h s) on

    pub stored_kept : Keeps (stored f s) (grown h s)
    stored_kept = record { faultless = stored_sound f s k.faultless; whole = stored_whole f s k.faultless k.whole; alike = on; true_kept = still_true }

pub pushed_last : (f : Feed) (s : Sample) → faulty f.head ≡ false → (end_of_time_of f.head).due ≡ true → pushed f s ≡ record { answer = refused 8; feed = f }
unfolding pushed
pushed_last f s e d = rw (e, d)

pub pushed_on : (f : Feed) (s : Sample) → faulty f.head ≡ false → (end_of_time_of f.head).due ≡ false
    → pushed f s ≡ record { answer = answered_from (history_of (stored f s)) (stored f s).kept; feed = stored f s }
unfolding pushed
pushed_on f s e d = rw (e, d)

-- the same answer, and the feed keeps the history after it
pub record Met (p : Next) (t : Told) : Type 0 where
  pub answer_same : p.answer ≡ t.answer
  pub still_keeps : Keeps p.feed t.history

pub push_meets : (f : Feed) (h : History) → Keeps f h → (s : Sample) → Fits16 s → Met (pushed f s) (told h s)
push_meets f h k s fits = go (end_of_time_of f.head).due refl
  where
    go : (b : Bool) → (end_of_time_of f.head).due ≡ b → Met (pushed f s) (told h s)
    go true e = rw (pushed_last f s k.faultless e, told_last h s (last_same f h k ∙ e)) (record { answer_same = refl; still_keeps = k })
    go false e =
        rw (pushed_on f s k.faultless e, told_on h s (last_same f h k ∙ e))
        (record { answer_same = answer_kept f h k s fits; still_keeps = stored_kept f h k s fits })
