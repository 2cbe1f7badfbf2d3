-- A window's numbers as samples, and its samples under their indices: they are those of its places, whatever the index of the first, so that whole
-- turns of the index change nothing. Assumes nothing.
use Rattle.std.proofs.Common.{◌≡◌, ℕ, zero, suc, ◌+◌, ◌-◌, ◌*◌, ◌%◌, ◌<◌, List, length, get_or, drop, ℤ, pos, ◌*ℤ◌, sym, refl, ap, ◌∙◌, arith, get_or-drop}
use Rattle.model.specs.Filter.{weight, offset, phase_sum, term, positive, windowed, no_sample, lent_samples}
use Rattle.model.specs.Report.{joined, differences, figures_with}
use Rattle.model.specs.declared.filter.Phasor.{Phasor}
use Rattle.model.specs.declared.filter.Sample.{Sample}
use Rattle.model.specs.declared.report.Phases.{Phases}
use Rattle.model.specs.declared.report.Scale.{Scale}
use Rattle.sampling.specs.declared.Nominal.{Nominal}
use Rattle.model.proofs.Same.{positive_same}

-- ---- the numbers as samples

-- the sample in three numbers, from number `at` on
abbrev pub three_at : List ℤ → ℕ → Sample
three_at w at = record { a = get_or w at (pos 0); b = get_or w (at + 1) (pos 0); c = get_or w (at + 2) (pos 0) }

-- sample i is the three numbers from number 3i on
pub sample_in : (n : ℕ) (w : List ℤ) (i : ℕ) → i < n → get_or (lent_samples n w) i no_sample ≡ three_at w (3 * i)
unfolding lent_samples
sample_in zero w i h = absurd (omega arith)
sample_in (suc n) w zero h = refl
sample_in (suc n) w (suc i) h =
    sample_in n (drop 3 w) i (omega arith)
    ∙ λ t. record { a = past (3 * i) (3 * suc i) (omega arith) t; b = past (3 * i + 1) (3 * suc i + 1) (omega arith) t; c = past (3 * i + 2) (3 * suc i + 2) (omega arith) t }
  where
    -- a number past the first three
    past : (k m : ℕ) → 3 + k ≡ m → get_or (drop 3 w) k (pos 0) ≡ get_or w m (pos 0)
    past k m e = get_or-drop 3 w k (pos 0) ∙ ap (λ (j : ℕ). get_or w j (pos 0)) e

pub samples_length : (n : ℕ) (w : List ℤ) → length (lent_samples n w) ≡ n
unfolding lent_samples
samples_length zero w = refl
samples_length (suc n) w = ap suc (samples_length n (drop 3 w))

-- ---- the samples under their indices

-- one term of the sum over the 29 samples from a place on, where the window's first has index n
pub term_at : (table : List ℤ) (window : List Sample) (n from j : ℕ)
    → term table (windowed window n) (n + from + 14) j ≡ pos (weight (offset j)) *ℤ phase_sum table (get_or window (from + j) no_sample) (n + from + j)
unfolding term
term_at table window n from j =
    let e : n + from + 14 + j - 14 ≡ n + from + j = omega arith in
    let f : n + from + 14 + j - 14 - n ≡ from + j = omega arith in
    λ t. pos (weight (offset j)) *ℤ phase_sum table (get_or window (f t) no_sample) (e t)

-- the positive sequence of the 29 samples from a place on depends on the first one's index mod 15
pub positive_placed : (window : List Sample) (m n from : ℕ) → m % 15 ≡ n % 15
    → positive (windowed window m) (m + from + 14) ≡ positive (windowed window n) (n + from + 14)
positive_placed window m n from e =
    positive_same (windowed window m) (windowed window n) (m + from + 14) (n + from + 14) (omega arith) (omega arith) (omega arith)
    (λ j h. at m j ∙ sym (at n j))
  where
    at : (k j : ℕ) → windowed window k (k + from + 14 + j - 14) ≡ get_or window (from + j) no_sample
    at k j =
        let d : k + from + 14 + j - 14 - k ≡ from + j = omega arith in
        ap (λ (i : ℕ). get_or window i no_sample) d

-- and so do the figures at the window's centre, where the phases are given
pub figures_placed : (window : List Sample) (m n c : ℕ) → m % 15 ≡ n % 15 → n + 15 ≡ c → (scale : Scale) (nominal : Nominal) (kept : Phases)
    → figures_with scale nominal (windowed window m) (m + 15) kept ≡ figures_with scale nominal (windowed window n) c kept
unfolding figures_with
figures_placed window m n c e f scale nominal kept =
    let p : m + 15 ≡ m + 1 + 14 = omega arith in
    let q : n + 1 + 14 ≡ c = omega arith in
    let centre = ap (positive (windowed window m)) p ∙ positive_placed window m n 1 e ∙ ap (positive (windowed window n)) q in
    ap (λ (x : Phasor). joined scale nominal x (differences kept.p kept.q kept.r)) centre

-- ---- whole turns of the first sample's index
module _ (window : List Sample) (index : ℕ) where
  abbrev rest : ℕ
  rest = index % 15

  -- at the centre of the 29 samples from a place on
  pub positive_turn : (from i : ℕ) → index + from + 14 ≡ i → positive (windowed window rest) (rest + from + 14) ≡ positive (windowed window index) i
  positive_turn from i e = positive_placed window rest index from (omega arith) ∙ ap (positive (windowed window index)) e
