-- A whole number's text by its sign: `-` and its size, or its size alone. By the number's two cases. Assumes nothing.
use Rattle.std.proofs.Common.{◌≡◌, ◌∷◌, ℤ, pos, negsuc, ◌<ℤ◌, ◌≤ℤ◌, refl, arith}
use Rattle.std.specs.Int.RustNames.{unsigned_abs}
use Rattle.std.proofs.lemmas.Int.{ints}
use Rattle.text.specs.Text.{decimal, signed}

pub signed_below : (z : ℤ) → z <ℤ pos 0 → signed z ≡ 45 ∷ decimal (unsigned_abs z)
unfolding signed
signed_below (pos n) h = absurd (omega (arith, ints))
signed_below (negsuc n) h = refl

pub signed_above : (z : ℤ) → pos 0 ≤ℤ z → signed z ≡ decimal (unsigned_abs z)
unfolding signed
signed_above (pos n) h = refl
signed_above (negsuc n) h = absurd (omega (arith, ints))
