-- How large re and im are: three entries five apart are together at most 32768 in size and the weights add to 225, so samples of at most m give parts
-- of at most 225 · 32768 · m. Of 16-bit samples re and im lie within ±362387865600. Assumes nothing.
use Rattle.std.proofs.Common.{ℕ, ◌+◌, ◌-◌, ◌*◌, ◌<◌, ◌≤◌, List, ℤ, pos, ◌+ℤ◌, ◌*ℤ◌, nat_abs, sym, ap, ◌∙◌, subst, le_refl, add-mul, mul-le-mul_left, mul-add, arith, w16, SFits}
use lib.Signed.{nat_abs-le}
use Rattle.ints.proofs.Size.{size_add, size_mul_le, size_neg}
use Rattle.ints.proofs.Sum.{sum_size}
use Rattle.model.specs.Bounds.{weights, Sized, Small}
use Rattle.model.specs.Filter.{weight, offset, phase_sum, term, weighted, positive, cosines, sines, entry_at}
use Rattle.model.specs.declared.filter.Sample.{Sample}
use Rattle.model.proofs.Tables.{Trios, cos_trios, sin_trios}
use Rattle.model.proofs.Weights.{weights_all}

-- none of a sample's three numbers is larger in size than m
pub record Counts (m : ℕ) (s : Sample) : Type 0 where
  pub a_size : nat_abs s.a ≤ m
  pub b_size : nat_abs s.b ≤ m
  pub c_size : nat_abs s.c ≤ m

-- so of the 29 samples at centre i
abbrev pub CountsAt : ℕ → (ℕ → Sample) → ℕ → Type 0
CountsAt m x i = (j : ℕ) → j < 29 → Counts m (x (i + j - 14))

-- samples of at most m against three entries of at most `most` together
module _ (m most : ℕ) (table : List ℤ) (h : Trios most table) where
  pub phase_sum_size : (s : Sample) → Counts m s → (n : ℕ) → nat_abs (phase_sum table s n) ≤ m * most
  unfolding phase_sum
  phase_sum_size s w n =
      let x = entry_at table n in
      let y = entry_at table (n + 10) in
      let z = entry_at table (n + 5) in
      let apart = mul-add m (nat_abs x + nat_abs y) (nat_abs z) ∙ ap (λ (k : ℕ). k + m * nat_abs z) (mul-add m (nat_abs x) (nat_abs y)) in
      let a = size_mul_le s.a x w.a_size (le_refl (nat_abs x)) in
      let b = size_mul_le s.b y w.b_size (le_refl (nat_abs y)) in
      let c = size_mul_le s.c z w.c_size (le_refl (nat_abs z)) in
      omega (arith, size_add (s.a *ℤ x +ℤ s.b *ℤ y) (s.c *ℤ z), size_add (s.a *ℤ x) (s.b *ℤ y), a, b, c, apart, mul-le-mul_left m (h n))

  weighted_size : (x : ℕ → Sample) (i : ℕ) → CountsAt m x i → nat_abs (weighted table x i) ≤ 225 * (m * most)
  unfolding weighted term weights
  weighted_size x i w =
      let total = sum_size 29 (term table x i) (λ (j : ℕ). weights j * (m * most)) (λ j l. grown j (one j l)) in
      subst (λ (n : ℕ). nat_abs (weighted table x i) ≤ n * (m * most)) weights_all total
    where
      one : (j : ℕ) → j < 29 → nat_abs (pos (weight (offset j)) *ℤ phase_sum table (x (i + j - 14)) (i + j - 14)) ≤ weight (offset j) * (m * most)
      one j l = size_mul_le (pos (weight (offset j))) (phase_sum table (x (i + j - 14)) (i + j - 14)) (le_refl (weight (offset j))) (phase_sum_size (x (i + j - 14)) (w j l) (i + j - 14))

      grown : (j : ℕ) {k : ℕ} → k ≤ weight (offset j) * (m * most) → weights j * (m * most) + k ≤ (weights j + weight (offset j)) * (m * most)
      grown j p = omega (arith, add-mul (weights j) (weight (offset j)) (m * most))

pub positive_size : (m : ℕ) (x : ℕ → Sample) (i : ℕ) → CountsAt m x i → Sized (225 * (m * 32768)) (positive x i).re (positive x i).im
unfolding positive
positive_size m x i w =
    record {
      re_size = weighted_size m 32768 cosines cos_trios x i w;
      im_size = subst (λ (n : ℕ). n ≤ 225 * (m * 32768)) (sym (size_neg (weighted sines x i))) (weighted_size m 32768 sines sin_trios x i w);
    }

-- a sample of three signed 16-bit numbers
pub record Words (s : Sample) : Type 0 where
  pub a_fits : SFits w16 s.a
  pub b_fits : SFits w16 s.b
  pub c_fits : SFits w16 s.c

pub word_counts : (s : Sample) → Words s → Counts 32768 s
word_counts s f =
    record { a_size = nat_abs-le s.a f.a_fits.sfits; b_size = nat_abs-le s.b f.b_fits.sfits; c_size = nat_abs-le s.c f.c_fits.sfits }

pub positive_small : (x : ℕ → Sample) (i : ℕ) → ((j : ℕ) → j < 29 → Words (x (i + j - 14))) → Small (positive x i)
positive_small x i w =
    let s = positive_size 32768 x i (λ j l. word_counts (x (i + j - 14)) (w j l)) in
    record { re_size = omega (arith, s.re_size); im_size = omega (arith, s.im_size) }
