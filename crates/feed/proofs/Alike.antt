-- The history rule looks at no more than a history's numbers and its last thirty-one samples: histories alike in these are answered alike, and stay alike.
use mathlib.Core.Path.{◌≡◌, refl, sym, ap, ◌∙◌}
use mathlib.Core.Bool.{Bool, true, false, cond}
use mathlib.Core.List.{List, [], ◌∷◌, ◌++◌}
use Prim.Native.Nat.{ℕ, ◌+◌, ◌-◌, ◌≤◌, ◌<◌, min}
use native.Mathlib.Omega.{arith}
use lib.Dec.{leb}
use lib.ListN.{length, get_or, length-append}
use lib.Seq.{get_or-drop}
use borrow.Author.Tests.{le-leb, lt-leb, leb-true, leb-false}
use Rattle.model.specs.declared.filter.Sample.{Sample}
use Rattle.model.specs.Filter.{windowed, no_sample}
use Rattle.model.specs.Report.{phase_at, three_phase}
use Rattle.model.proofs.Same.{phase_same, figures_same}
use Rattle.sampling.specs.Tags.{nominal_of, soc_of, index_of}
use Rattle.feed.specs.Answers.{Said, refused, taken, tagged}
use Rattle.feed.specs.History.{History, next_number, centre_of, grown, is_due, report_at, answered, end_of_time, Told, told}
use Rattle.feed.specs.Kept.{zero_phase, newest_centre, phase_back}
use Rattle.feed.specs.Ring.{last_of}
use Rattle.feed.proofs.Latest.{length_last, last_snoc, last_last}

pub record Alike (h k : History) : Type 0 where
  pub nominal_same : h.nominal ≡ k.nominal
  pub rate_same : h.rate ≡ k.rate
  pub next_same : next_number h ≡ next_number k
  pub latest_same : last_of 31 h.samples ≡ last_of 31 k.samples

pub alike_self : (h : History) → Alike h h
alike_self h = record { nominal_same = refl; rate_same = refl; next_same = refl; latest_same = refl }

pub alike_on : (h k l : History) → Alike h k → Alike k l → Alike h l
alike_on h k l a b = record {
  nominal_same = a.nominal_same ∙ b.nominal_same;
  rate_same = a.rate_same ∙ b.rate_same;
  next_same = a.next_same ∙ b.next_same;
  latest_same = a.latest_same ∙ b.latest_same;
}

-- where a centre stands that has 29 samples, and so many after those
pub centre_back : (h : History) (back : ℕ) → 29 + back ≤ length h.samples → newest_centre h - back + (15 + back) ≡ next_number h
centre_back h back l = omega arith

-- a sample among the last thirty-one, under its number
windowed_latest : (xs : List Sample) (first n : ℕ) → first + length xs ≤ n + min 31 (length xs)
    → windowed xs first n ≡ get_or (last_of 31 xs) (n + min 31 (length xs) - (first + length xs)) no_sample
windowed_latest xs first n l =
    let i : ℕ = n + min 31 (length xs) - (first + length xs) in
    let e : length xs - 31 + i ≡ n - first = omega arith in
    ap (λ (k : ℕ). get_or xs k no_sample) (sym e) ∙ sym (get_or-drop (length xs - 31) xs i no_sample)

-- whether the next sample is the last that SOC 4294967295 has
abbrev pub is_last : History → Bool
is_last h = (end_of_time h.nominal (soc_of h.nominal (next_number h)) (index_of h.nominal (next_number h))).due

pub told_last : (h : History) (s : Sample) → is_last h ≡ true → told h s ≡ record { answer = refused 8; history = h }
unfolding told
told_last h s e = rw e

pub told_on : (h : History) (s : Sample) → is_last h ≡ false → told h s ≡ record { answer = answered (grown h s); history = grown h s }
unfolding told
told_on h s e = rw e

-- the same answer, and histories that are alike after it
pub record ToldAlike (t u : Told) : Type 0 where
  pub answer_same : t.answer ≡ u.answer
  pub still_alike : Alike t.history u.history

module _ (h k : History) (a : Alike h k) where
  -- as many are held, as far as thirty-one
  pub held_same : min 31 (length h.samples) ≡ min 31 (length k.samples)
  held_same = sym (length_last 31 h.samples) ∙ ap length a.latest_same ∙ length_last 31 k.samples

  enough_same : (n : ℕ) → n ≤ 31 → leb n (length h.samples) ≡ leb n (length k.samples)
  enough_same n l = go (leb n (length h.samples)) refl
    where
      go : (b : Bool) → leb n (length h.samples) ≡ b → b ≡ leb n (length k.samples)
      go true e = sym (le-leb n (length k.samples) (omega (arith, leb-true n (length h.samples) e, held_same)))
      go false e = sym (lt-leb n (length k.samples) (omega (arith, leb-false n (length h.samples) e, held_same)))

  due_same : is_due h ≡ is_due k
  unfolding is_due
  due_same = rw (enough_same 31 (omega arith), a.nominal_same, a.rate_same, a.next_same)

  sample_same : (n : ℕ) → next_number h ≤ n + min 31 (length h.samples) → windowed h.samples h.first n ≡ windowed k.samples k.first n
  sample_same n p =
      windowed_latest h.samples h.first n p
      ∙ (λ i. get_or (a.latest_same i) (n + held_same i - a.next_same i) no_sample)
      ∙ sym (windowed_latest k.samples k.first n (omega (arith, held_same, a.next_same)))

  report_same : 31 ≤ length h.samples → report_at h (centre_of h) ≡ report_at k (centre_of k)
  unfolding report_at
  report_same l =
      rw (← a.nominal_same, ← a.rate_same, ← a.next_same)
      (ap (tagged _ _)
      (figures_same (windowed h.samples h.first) (windowed k.samples k.first) (centre_of h) (centre_of h)
      (omega arith) (omega arith) refl (λ j p. sample_same (centre_of h + j - 15) (omega arith)) three_phase (nominal_of h.nominal)))

  pub answered_same : answered h ≡ answered k
  unfolding answered is_due
  answered_same = rw (← due_same) (go (leb 31 (length h.samples)) refl)
    where
      go : (b : Bool) → leb 31 (length h.samples) ≡ b → cond (is_due h) (report_at h (centre_of h)) taken ≡ cond (is_due h) (report_at k (centre_of k)) taken
      go true e = ap (λ (r : Said). cond (is_due h) r taken) (report_same (leb-true 31 (length h.samples) e))
      go false e = rw e

  -- the phases at the three newest centres are those of the last thirty-one samples
  pub back_same : (back : ℕ) → back ≤ 2 → phase_back h back ≡ phase_back k back
  unfolding phase_back
  back_same back l = rw (← enough_same (29 + back) (omega arith)) (go (leb (29 + back) (length h.samples)) refl)
    where
      near : (i j : ℕ) → 29 + back ≤ length h.samples → i + (15 + back) ≡ next_number h → j < 29 → next_number h ≤ i + j - 14 + min 31 (length h.samples)
      near i j n c p = omega arith

      at : (i : ℕ) → 29 + back ≤ length h.samples → i + (15 + back) ≡ next_number h
          → phase_at three_phase (windowed h.samples h.first) i ≡ phase_at three_phase (windowed k.samples k.first) i
      at i n c =
          phase_same (windowed h.samples h.first) (windowed k.samples k.first) i i (omega arith) (omega arith) refl
          (λ j p. sample_same (i + j - 14) (near i j n c p)) three_phase

      go : (b : Bool) → leb (29 + back) (length h.samples) ≡ b
          → cond b (phase_at three_phase (windowed h.samples h.first) (newest_centre h - back)) zero_phase
          ≡ cond b (phase_at three_phase (windowed k.samples k.first) (newest_centre k - back)) zero_phase
      go true e =
          let n = leb-true (29 + back) (length h.samples) e in
          let c : newest_centre k - back ≡ newest_centre h - back = omega (arith, a.next_same) in
          rw c (at (newest_centre h - back) n (centre_back h back n))
      go false e = refl

  thirty_same : last_of 30 h.samples ≡ last_of 30 k.samples
  thirty_same =
      sym (last_last 30 31 h.samples) ∙ ap (λ (xs : List Sample). last_of 30 xs) a.latest_same ∙ last_last 30 31 k.samples

  pub grown_alike : (s : Sample) → Alike (grown h s) (grown k s)
  unfolding grown
  grown_alike s = record {
    nominal_same = a.nominal_same;
    rate_same = a.rate_same;
    next_same = omega (arith, a.next_same, length-append h.samples (s ∷ []), length-append k.samples (s ∷ []));
    latest_same = last_snoc 30 h.samples s ∙ ap (λ (xs : List Sample). xs ++ (s ∷ [])) thirty_same ∙ sym (last_snoc 30 k.samples s);
  }

  lasts_same : is_last h ≡ is_last k
  lasts_same = rw (a.nominal_same, a.next_same)

pub told_alike : (h k : History) → Alike h k → (s : Sample) → ToldAlike (told h s) (told k s)
told_alike h k a s = go (is_last h) refl
  where
    on : Alike (grown h s) (grown k s)
    on = grown_alike h k a s

    go : (b : Bool) → is_last h ≡ b → ToldAlike (told h s) (told k s)
    go true e = rw (told_last h s e, told_last k s (sym (lasts_same h k a) ∙ e)) (record { answer_same = refl; still_alike = a })
    go false e =
        rw (told_on h s e, told_on k s (sym (lasts_same h k a) ∙ e))
        (record { answer_same = answered_same (grown h s) (grown k s) on; still_alike = on })
