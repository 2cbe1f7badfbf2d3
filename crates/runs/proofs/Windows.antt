-- A window of a run is the run around its centre: its numbers are those samples in turn, and the figures of 31 samples are those of the whole run
-- there. Assumes nothing.
use mathlib.Core.Path.{◌≡◌, refl, sym, ◌∙◌, ap}
use mathlib.Core.List.{List}
use Prim.Native.Nat.{ℕ, ◌+◌, ◌-◌, ◌*◌, ◌%◌, ◌≤◌, ◌<◌}
use native.Mathlib.Omega.{arith}
use lib.IntN.{ℤ}
use lib.ListN.{length, get_or}
use lib.Seq.{ext_get_or}
use Rattle.model.specs.declared.filter.Sample.{Sample}
use Rattle.sampling.specs.declared.Nominal.{Nominal}
use Rattle.model.specs.Filter.{windowed, no_sample, lent_samples}
use Rattle.model.specs.Report.{figures_at, three_phase}
use Rattle.model.proofs.Same.{figures_same}
use Rattle.model.proofs.Windows.{three_at}
use Rattle.model.proofs.Windows as lent
use Rattle.std.proofs.lemmas.List.FromFn.{length-map-range_with_len, get_or-map-range_with_len}
use Rattle.runs.specs.Inside.{samples_from}

pub samples_length : (x : ℕ → Sample) (first n : ℕ) → length (samples_from x first n) ≡ n
unfolding samples_from
samples_length x first n = length-map-range_with_len x first n

pub sample_in : (x : ℕ → Sample) (first n j : ℕ) → j < n → get_or (samples_from x first n) j no_sample ≡ x (first + j)
unfolding samples_from
sample_in x first n j h = get_or-map-range_with_len x first n j (first + j) no_sample h refl

-- numbers that are, three by three, the samples from an index on
pub window_is : (x : ℕ → Sample) (first : ℕ) (w : List ℤ) → ((k : ℕ) → k < 31 → three_at w (3 * k) ≡ x (first + k)) → lent_samples 31 w ≡ samples_from x first 31
window_is x first w e =
    ext_get_or no_sample (lent_samples 31 w) (samples_from x first 31) (lent.samples_length 31 w ∙ sym (samples_length x first 31))
    (λ k h. grind (arith, lent.samples_length, lent.sample_in, sample_in, e))

-- the figures of the window around a centre
pub window_figures : (nominal : Nominal) (x : ℕ → Sample) (centre : ℕ) → 15 ≤ centre
    → figures_at three_phase nominal (windowed (samples_from x (centre - 15) 31) (centre - 15)) (centre - 15 + 15) ≡ figures_at three_phase nominal x centre
window_figures nominal x centre h =
    let e : centre - 15 + 15 ≡ centre = omega arith in
    figures_same (windowed (samples_from x (centre - 15) 31) (centre - 15)) x (centre - 15 + 15) centre (omega arith) h (ap (λ (n : ℕ). n % 15) e) around three_phase nominal
  where
    around : (j : ℕ) → j < 31 → windowed (samples_from x (centre - 15) 31) (centre - 15) (centre - 15 + 15 + j - 15) ≡ x (centre + j - 15)
    around j l = grind (arith, sample_in)
