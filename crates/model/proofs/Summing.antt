-- A weighted sum in the making, over any table: one term more of the first j is the first j + 1, and does not overflow, since it is at most
-- 1610612736 for each unit of weight. Assumes nothing.
use Rattle.std.proofs.Common.{◌≡◌, ℕ, ◌+◌, ◌*◌, ◌%◌, ◌<◌, ◌≤◌, List, get_or, ℤ, pos, ◌+ℤ◌, ◌*ℤ◌, nat_abs, sym, refl, ap, ◌∙◌, subst, ap₂, arith, lit≤, w64, SFits, to_z, of_z, to_z-of_z}
use Rattle.ints.specs.Whole.{sum}
use Rattle.ints.proofs.Size.{size_add, size_fits}
use Rattle.model.specs.Bounds.{weights, FirstTerms}
use Rattle.model.specs.Filter.{weight, offset, phase_sum, term, weighted, windowed, no_sample}
use Rattle.model.specs.declared.filter.Sample.{Sample}
use Rattle.model.proofs.Same.{phase_sum_same}
use Rattle.model.proofs.Weights.{weights_all, weights_more, weights_within, sum_more}
use Rattle.model.proofs.Windows.{term_at}

module _ (table : List ℤ) (window : List Sample) (n from : ℕ) where
  abbrev f : ℕ → ℤ
  f = term table (windowed window n) (n + from + 14)

  -- none yet
  pub first_none : FirstTerms table window n from 0 (pos 0)
  unfolding sum weights
  first_none = record { is = refl; small = lit≤ tt }

  -- one term more, x, of the sample at place from + j, which meets entry m
  module _ (j m : ℕ) (z x : ℤ) (t : FirstTerms table window n from j z) (inside : j < 29) (e : m % 15 ≡ (n + from + j) % 15)
      (x_is : x ≡ pos (weight (offset j)) *ℤ phase_sum table (get_or window (from + j) no_sample) m)
      (x_small : nat_abs x ≤ weight (offset j) * 1610612736) where
    term_is : x ≡ f j
    term_is =
        x_is ∙ ap (λ (y : ℤ). pos (weight (offset j)) *ℤ y) (phase_sum_same table (get_or window (from + j) no_sample) m (n + from + j) e) ∙ sym (term_at table window n from j)

    pub one_term_more : FirstTerms table window n from (j + 1) (z +ℤ x)
    one_term_more = record {
      is = ap₂ (λ (a b : ℤ). a +ℤ b) t.is term_is ∙ sym (sum_more f j);
      small = omega (arith, size_add z x, t.small, x_small, weights_more j);
    }

  -- no sum of up to 29 terms overflows
  pub terms_fit : (j : ℕ) (z : ℤ) → j ≤ 29 → FirstTerms table window n from j z → SFits w64 z
  terms_fit j z h t = size_fits z t.small (omega (arith, weights_within j))

  -- one term more, x, as the machine adds it to a local: it does not overflow, and the sum is then one term longer
  pub record More (bits j : ℕ) (x : ℤ) : Type 0 where
    pub fits : SFits w64 (to_z w64 bits +ℤ to_z w64 (of_z w64 x))
    pub longer : FirstTerms table window n from (j + 1) (to_z w64 (of_z w64 (to_z w64 bits +ℤ to_z w64 (of_z w64 x))))

  -- it is where x is the term of the sample at place from + j, which meets entry m
  module _ (bits j m : ℕ) (x : ℤ) (t : FirstTerms table window n from j (to_z w64 bits)) (inside : j < 29)
      (e : m % 15 ≡ (n + from + j) % 15) (x_is : x ≡ pos (weight (offset j)) *ℤ phase_sum table (get_or window (from + j) no_sample) m)
      (x_small : nat_abs x ≤ weight (offset j) * 1610612736) where
    abbrev z : ℤ
    z = to_z w64 bits

    grown : FirstTerms table window n from (j + 1) (z +ℤ x)
    grown = one_term_more j m z x t inside e x_is x_small

    whole : SFits w64 (z +ℤ x)
    whole = terms_fit (j + 1) (z +ℤ x) (omega arith) grown

    added : z +ℤ to_z w64 (of_z w64 x) ≡ z +ℤ x
    added = ap (λ (y : ℤ). z +ℤ y) (to_z-of_z {w = w64} {z = x} (size_fits x x_small (omega (arith, weights_more j, weights_within (j + 1)))))

    pub one_more : More bits j x
    one_more = record {
      fits = subst (SFits w64) (sym added) whole;
      longer = subst (FirstTerms table window n from (j + 1)) (sym (ap (λ (y : ℤ). to_z w64 (of_z w64 y)) added ∙ to_z-of_z {w = w64} {z = z +ℤ x} whole)) grown;
    }

  -- all 29
  module _ (z : ℤ) (t : FirstTerms table window n from 29 z) where
    pub all_is : z ≡ weighted table (windowed window n) (n + from + 14)
    unfolding weighted
    all_is = t.is

    pub all_small : nat_abs z ≤ 362387865600
    all_small = omega (arith, t.small, weights_all)
