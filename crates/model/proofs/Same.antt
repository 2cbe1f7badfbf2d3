-- What the figures depend on: the samples around the centre, the centre's index mod 15, since one term after the other meets the same entries, and
-- of a table its entries. Assumes nothing.
use Rattle.std.proofs.Common.{◌≡◌, ℕ, ◌+◌, ◌-◌, ◌%◌, ◌<◌, ◌≤◌, List, get_or, ℤ, pos, ◌+ℤ◌, ◌*ℤ◌, neg_ℤ, sym, ap, ◌∙◌, arith}
use Rattle.ints.proofs.Sum.{sum_ext}
use Rattle.model.specs.Filter.{weight, offset, entry_at, phase_sum, term, weighted, positive, cosines, sines}
use Rattle.model.specs.Report.{joined, differences, phase_at, figures_at}
use Rattle.model.specs.Angle.{phase_of}
use Rattle.model.specs.declared.filter.Sample.{Sample}
use Rattle.sampling.specs.declared.Nominal.{Nominal}
use Rattle.model.specs.declared.report.Scale.{Scale}

-- what is the same mod 15 stays so, d later
pub later_same : (m n d : ℕ) → m % 15 ≡ n % 15 → (m + d) % 15 ≡ (n + d) % 15
later_same m n d e = omega arith

-- and so does what comes to it, 15 later
turned_same : (m n i k d : ℕ) → m + 15 ≡ i + d → n + 15 ≡ k + d → i % 15 ≡ k % 15 → m % 15 ≡ n % 15
turned_same m n i k d p q e = omega arith

-- one sample against three entries
pub phase_sum_same : (table : List ℤ) (s : Sample) (m n : ℕ) → m % 15 ≡ n % 15 → phase_sum table s m ≡ phase_sum table s n
unfolding phase_sum
phase_sum_same table s m n e =
    let f = later_same m n 10 e in
    let g = later_same m n 5 e in
    λ t. s.a *ℤ get_or table (e t) (pos 0) +ℤ s.b *ℤ get_or table (f t) (pos 0) +ℤ s.c *ℤ get_or table (g t) (pos 0)

-- tables with the same entries
pub weighted_entries : (t u : List ℤ) → ((n : ℕ) → entry_at t n ≡ entry_at u n) → (x : ℕ → Sample) (i : ℕ) → weighted t x i ≡ weighted u x i
unfolding weighted term phase_sum
weighted_entries t u e x i = sum_ext 29 (term t x i) (term u x i) (λ j h. one (i + j - 14) (pos (weight (offset j))))
  where
    one : (n : ℕ) (g : ℤ) → g *ℤ phase_sum t (x n) n ≡ g *ℤ phase_sum u (x n) n
    one n g = λ k. g *ℤ ((x n).a *ℤ e n k +ℤ (x n).b *ℤ e (n + 10) k +ℤ (x n).c *ℤ e (n + 5) k)

module _ (x y : ℕ → Sample) where
  -- at a centre: 29 samples, 14 on either side
  module _ (i k : ℕ) (hi : 14 ≤ i) (hk : 14 ≤ k) (e : i % 15 ≡ k % 15) (same : (j : ℕ) → j < 29 → x (i + j - 14) ≡ y (k + j - 14)) where
    term_same : (table : List ℤ) (j : ℕ) → j < 29 → term table x i j ≡ term table y k j
    unfolding term
    term_same table j h =
        let m = i + j - 14 in
        let n = k + j - 14 in
        let f : m % 15 ≡ n % 15 = turned_same m n i k (j + 1) (omega arith) (omega arith) e in
        ap (λ (z : ℤ). pos (weight (offset j)) *ℤ z) (ap (λ (s : Sample). phase_sum table s m) (same j h) ∙ phase_sum_same table (y n) m n f)

    weighted_same : (table : List ℤ) → weighted table x i ≡ weighted table y k
    unfolding weighted
    weighted_same table = sum_ext 29 (term table x i) (term table y k) (term_same table)

    pub positive_same : positive x i ≡ positive y k
    unfolding positive
    positive_same = λ t. record { re = weighted_same cosines t; im = neg_ℤ (weighted_same sines t) }

    pub phase_same : (scale : Scale) → phase_at scale x i ≡ phase_at scale y k
    unfolding phase_at
    phase_same scale = ap (phase_of scale.limit) positive_same

  -- at a centre and the two beside it: 31 samples, 15 on either side
  module _ (i k : ℕ) (hi : 15 ≤ i) (hk : 15 ≤ k) (e : i % 15 ≡ k % 15) (same : (j : ℕ) → j < 31 → x (i + j - 15) ≡ y (k + j - 15)) where
    -- the centres m and n are those at i and k, d - 1 later
    beside_same : (d m n : ℕ) → d ≤ 2 → m + 1 ≡ i + d → n + 1 ≡ k + d → positive x m ≡ positive y n
    beside_same d m n h p q =
        positive_same m n (omega arith) (omega arith) (turned_same m n i k (d + 14) (omega arith) (omega arith) e) (λ j l. near (m + j - 14) (n + j - 14) (j + d) (omega arith) (omega arith) (omega arith))
      where
        near : (a b j : ℕ) → j < 31 → a ≡ i + j - 15 → b ≡ k + j - 15 → x a ≡ y b
        near a b j l r s = ap x r ∙ same j l ∙ ap y (sym s)

    pub figures_same : (scale : Scale) (nominal : Nominal) → figures_at scale nominal x i ≡ figures_at scale nominal y k
    unfolding figures_at phase_at
    figures_same scale nominal =
        let before = beside_same 0 (i - 1) (k - 1) (omega arith) (omega arith) (omega arith) in
        let centre = beside_same 1 i k (omega arith) (omega arith) (omega arith) in
        let after = beside_same 2 (i + 1) (k + 1) (omega arith) (omega arith) (omega arith) in
        let phase = phase_of scale.limit in
        λ t. joined scale nominal (centre t) (differences (phase (before t)) (phase (centre t)) (phase (after t)))
