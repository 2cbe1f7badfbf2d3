-- Three entries add to 0, so a number that all three phases share counts for nothing: the sum is that of a less c and b less c. Assumes nothing.
use Rattle.std.proofs.Common.{◌≡◌, ℕ, ◌+◌, ◌≤◌, List, ℤ, pos, ◌+ℤ◌, ◌-ℤ◌, ◌*ℤ◌, nat_abs, sym, ap, ◌∙◌, ap₂, arith}
use lib.IntN.{+ℤ_assoc, +ℤ_idr, *ℤ-zero, -ℤ-+ℤ_cancel}
use Rattle.ints.proofs.Ring.{swap_middle, mul_add, add_mul}
use Rattle.model.specs.Bounds.{Tabled}
use Rattle.model.specs.Filter.{entry_at, phase_sum}
use Rattle.model.specs.declared.filter.Sample.{Sample}
use Rattle.model.proofs.Small.{Counts, phase_sum_size}

module _ (a b c p q r : ℤ) (e : p +ℤ q +ℤ r ≡ pos 0) where
  apart : (z k : ℤ) → z *ℤ k ≡ (z -ℤ c) *ℤ k +ℤ c *ℤ k
  apart z k = ap (λ (y : ℤ). y *ℤ k) (sym (-ℤ-+ℤ_cancel z c)) ∙ add_mul (z -ℤ c) c k

  abbrev rest : ℤ
  rest = (a -ℤ c) *ℤ p +ℤ (b -ℤ c) *ℤ q

  common : c *ℤ p +ℤ c *ℤ q +ℤ c *ℤ r ≡ pos 0
  common = sym (mul_add c (p +ℤ q) r ∙ ap (λ (y : ℤ). y +ℤ c *ℤ r) (mul_add c p q)) ∙ ap (λ (y : ℤ). c *ℤ y) e ∙ *ℤ-zero c

  less_common : a *ℤ p +ℤ b *ℤ q +ℤ c *ℤ r ≡ rest
  less_common =
      ap (λ (y : ℤ). y +ℤ c *ℤ r) (ap₂ (λ (y z : ℤ). y +ℤ z) (apart a p) (apart b q) ∙ swap_middle ((a -ℤ c) *ℤ p) (c *ℤ p) ((b -ℤ c) *ℤ q) (c *ℤ q))
      ∙ +ℤ_assoc rest (c *ℤ p +ℤ c *ℤ q) (c *ℤ r)
      ∙ ap (λ (y : ℤ). rest +ℤ y) common
      ∙ +ℤ_idr rest

module _ (table : List ℤ) (tabled : Tabled table) (s : Sample) (n : ℕ) where
  pub level_sum : phase_sum table s n ≡ (s.a -ℤ s.c) *ℤ entry_at table n +ℤ (s.b -ℤ s.c) *ℤ entry_at table (n + 10)
  unfolding phase_sum
  level_sum = less_common s.a s.b s.c (entry_at table n) (entry_at table (n + 10)) (entry_at table (n + 5)) (tabled.level n)

  -- three products, of numbers of 16 bits
  pub three_small : Counts 32768 s → nat_abs (phase_sum table s n) ≤ 1610612736
  three_small k =
      phase_sum_size 32768 49152 table (λ i. omega (arith, tabled.small i, tabled.small (i + 10), tabled.small (i + 5))) s k n
