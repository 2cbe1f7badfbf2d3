-- The counts of a listing never wrap: refusal 8 ends a history before sample number 2^32 × sampling, and no more samples are counted than are numbered. Assumes nothing.
use Rattle.std.proofs.Common.{◌≡◌, ℕ, ◌+◌, ◌*◌, ◌/◌, ◌%◌, ◌^◌, ◌<◌, ◌≤◌, Bool, true, false, cond, ◌&&◌, eqb, [], ◌∷◌, sym, refl, ap, ◌∙◌, subst, arith, length-append, eq-eqb, eqb-true}
use borrow.Author.Tests.{eqb-false}
use Rattle.model.specs.declared.filter.Sample.{Sample}
use Rattle.sampling.specs.Tags.{served_nominal, soc_of, index_of}
use Rattle.sampling.specs.Sampling.{sampling_of}
use Rattle.sampling.proofs.Samplings.{served_cases}
use Rattle.feed.specs.Answers.{Said, refused, done, taken, taken_with}
use Rattle.feed.specs.History.{History, next_number, opening, grown, answered, Told, told}
use Rattle.feed.proofs.Alike.{is_last, told_last, told_on}
use Rattle.phs.specs.Listing.{is_refusal, sample_in, report_in}

-- the numbers that samples have
abbrev below : ℕ → ℕ → Type 0
below nominal n = n < 2 ^ 32 * sampling_of nominal

-- R reports and S samples of this history
pub record Within (h : History) (reports samples : ℕ) : Type 0 where
  pub served : served_nominal h.nominal ≡ true
  pub numbered : below h.nominal (next_number h)
  pub counted : samples ≤ next_number h
  pub fewer : reports ≤ samples

pub from_opening : (nominal rate soc : ℕ) → served_nominal nominal ≡ true → soc < 2 ^ 32 → Within (opening nominal rate soc) 0 0
unfolding opening
from_opening nominal rate soc e l =
    record {
      served = e;
      numbered = served_cases (λ n. soc < 2 ^ 32 → below n (soc * sampling_of n + 0)) (λ h. omega arith) (λ h. omega arith) nominal e l;
      counted = omega arith;
      fewer = omega arith;
    }

-- a count within a history is below 2^64
pub unwrapped : (h : History) (reports samples : ℕ) → Within h reports samples → (reports % 2 ^ 64 ≡ reports) × (samples % 2 ^ 64 ≡ samples)
unwrapped h reports samples w =
    let n : next_number h < 2 ^ 64 = served_cases (λ n. below n (next_number h) → next_number h < 2 ^ 64) (λ l. omega arith) (λ l. omega arith) h.nominal w.served w.numbered in
    (omega (arith, w.counted, w.fewer), omega (arith, w.counted))

-- the test of refusal 8, where the number after this one is the first that no sample has
last_due : (n m : ℕ) → served_nominal n ≡ true → m + 1 ≡ 2 ^ 32 * sampling_of n → eqb (soc_of n m) 4294967295 && eqb (index_of n m + 1) (sampling_of n) ≡ true
last_due n m e =
    served_cases (λ n. m + 1 ≡ 2 ^ 32 * sampling_of n → eqb (soc_of n m) 4294967295 && eqb (index_of n m + 1) (sampling_of n) ≡ true)
    (λ l. rw (eq-eqb (m / 750) 4294967295 (omega arith), eq-eqb (m % 750 + 1) 750 (omega arith)))
    (λ l. rw (eq-eqb (m / 900) 4294967295 (omega arith), eq-eqb (m % 900 + 1) 900 (omega arith)))
    n e

pub clash : true ≡ false → ⊥
clash e = let z : ◌≡◌ {A = ℕ} 0 1 = ap (λ (b : Bool). cond b 0 1) e in omega arith

not_last : (h : History) → served_nominal h.nominal ≡ true → below h.nominal (next_number h) → is_last h ≡ false → below h.nominal (next_number h + 1)
not_last h e l t = go (eqb (next_number h + 1) (2 ^ 32 * sampling_of h.nominal)) refl
  where
    go : (b : Bool) → eqb (next_number h + 1) (2 ^ 32 * sampling_of h.nominal) ≡ b → below h.nominal (next_number h + 1)
    go true q = absurd (clash (sym (last_due h.nominal (next_number h) e (eqb-true _ _ q)) ∙ t))
    go false q = let ne = eqb-false (next_number h + 1) (2 ^ 32 * sampling_of h.nominal) q in omega arith

small : (a : Said) → (report_in a ≤ sample_in a) × (sample_in a ≤ 1)
small (refused number) = omega arith
small done = omega arith
small taken = omega arith
small (taken_with soc frame re im d1 d2 mark re_peak im_peak deviation rocof) = omega arith

grown_within : (h : History) (s : Sample) (reports samples : ℕ) (a : Said) → Within h reports samples → is_last h ≡ false
    → Within (grown h s) (reports + report_in a) (samples + sample_in a)
unfolding grown
grown_within h s reports samples a w t =
    let m : next_number (grown h s) ≡ next_number h + 1 = omega (arith, length-append h.samples (s ∷ [])) in
    record {
      served = w.served;
      numbered = subst (below h.nominal) (sym m) (not_last h w.served w.numbered t);
      counted = omega (arith, w.counted, small a);
      fewer = omega (arith, w.fewer, small a);
    }

-- a sample that is taken keeps the counts within
pub still_within : (h : History) (s : Sample) (reports samples : ℕ) → Within h reports samples → is_refusal (told h s).answer ≡ false
    → Within (told h s).history (reports + report_in (told h s).answer) (samples + sample_in (told h s).answer)
still_within h s reports samples w e = go (is_last h) refl
  where
    go : (b : Bool) → is_last h ≡ b → Within (told h s).history (reports + report_in (told h s).answer) (samples + sample_in (told h s).answer)
    go true t = absurd (clash (sym (ap (λ (x : Told). is_refusal x.answer) (told_last h s t)) ∙ e))
    go false t = rw (told_on h s t) (grown_within h s reports samples (answered (grown h s)) w t)
