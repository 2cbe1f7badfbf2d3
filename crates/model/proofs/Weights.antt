-- The weights of the first terms: the 29 weights add to 225, and no more weigh as much. Assumes nothing.
use Rattle.std.proofs.Common.{◌≡◌, ℕ, zero, suc, ◌+◌, ◌*◌, ◌≤◌, ℤ, ◌+ℤ◌, refl, ap, add-one, arith}
use Rattle.ints.specs.Whole.{sum}
use Rattle.model.specs.Bounds.{weights}
use Rattle.model.specs.Filter.{weight, offset}

pub weight_within : (j : ℕ) → weight (offset j) ≤ 15
unfolding weight offset
weight_within j = omega arith

-- the weights add to 225
pub weights_all : weights 29 ≡ 225
unfolding weights weight offset
weights_all = refl

pub weights_more : (j : ℕ) → weights (j + 1) ≡ weights j + weight (offset j)
unfolding weights
weights_more j = ap weights (add-one j)

pub weights_within : (j : ℕ) → weights j ≤ 15 * j
unfolding weights
weights_within zero = omega arith
weights_within (suc j) = omega (arith, weights_within j, weight_within j)

pub sum_more : (f : ℕ → ℤ) (j : ℕ) → sum (j + 1) f ≡ sum j f +ℤ f j
unfolding sum
sum_more f j = ap (λ (k : ℕ). sum k f) (add-one j)
