-- By how much two numbers differ. Assumes nothing.
use Rattle.std.proofs.Common.{◌≡◌, ℕ, ◌+◌, ◌-◌, ◌<◌, arith}
use Rattle.std.proofs.lemmas.Int.{ints}
use Rattle.frames.specs.Tags.{apart}

-- either of the two differences is zero, as differences of numbers are cut off there
pub apart_is : (a b : ℕ) → apart a b ≡ (a - b) + (b - a)
unfolding apart
apart_is a b = omega (arith, ints)

-- two numbers differ by less than n when neither is n more than the other
pub apart_lt : (a b n : ℕ) → a < b + n → b < a + n → apart a b < n
apart_lt a b n p q = omega (arith, apart_is)

pub lt_apart : (a b n : ℕ) → apart a b < n → (a < b + n) × (b < a + n)
lt_apart a b n h = (omega (arith, apart_is), omega (arith, apart_is))
