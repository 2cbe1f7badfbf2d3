-- How large sums, differences, products and quotients are: bounds on nat_abs, in ℕ, where omega reads them. Assumes nothing.
use Rattle.std.proofs.Common.{ℕ, suc, ◌+◌, ◌*◌, ◌/◌, ◌^◌, ◌≤◌, ◌<◌, ◌≡◌, arith}
use Rattle.std.proofs.lemmas.Int.{ints, fits_signed_from_abs}
-- |a b| is |a| |b|
pub use Rattle.std.proofs.lemmas.Int.{unsigned_abs-mul as size_mul}
use native.Mathlib.Nat.{le_trans, mul-le-mul, div-le_self, div-mul-le_self, le-div_iff_mul-le}
use lib.Dec.{T, le→leb}
use lib.IntN.{ℤ, pos, negsuc, neg_ℤ, nat_abs, ◌+ℤ◌, ◌-ℤ◌, ◌*ℤ◌}
use lib.Signed.{mag}
use lib.Ieee.{binary64, in_float}
use mir.Syntax.{Width}
use mir.Val.{SFits, hbits}
use Rattle.ints.specs.Whole.{floor_div}

pub size_neg : (a : ℤ) → nat_abs (neg_ℤ a) ≡ nat_abs a
size_neg a = omega (arith, ints)

-- |a + b| ≤ |a| + |b|
pub size_add : (a b : ℤ) → nat_abs (a +ℤ b) ≤ nat_abs a + nat_abs b
size_add a b = omega (arith, ints)

-- |a - b| ≤ |a| + |b|
pub size_minus : (a b : ℤ) → nat_abs (a -ℤ b) ≤ nat_abs a + nat_abs b
size_minus a b = omega (arith, ints)

-- |a b| ≤ m n where |a| ≤ m and |b| ≤ n
pub size_mul_le : (a b : ℤ) {m n : ℕ} → nat_abs a ≤ m → nat_abs b ≤ n → nat_abs (a *ℤ b) ≤ m * n
size_mul_le a b p q = omega (arith, size_mul a b, mul-le-mul p q)

-- |floor(z / m)| ≤ |z| / m + 1
pub size_floor : (z : ℤ) (m : ℕ) → nat_abs (floor_div z m) ≤ mag z / m + 1
size_floor (pos a) m = omega arith
size_floor (negsuc a) m = omega arith

-- it is no larger than z
pub floor_smaller : (z : ℤ) (m : ℕ) → nat_abs (floor_div z m) ≤ nat_abs z
floor_smaller (pos a) m = div-le_self a m
floor_smaller (negsuc a) m = omega (arith, div-le_self a m)

pub mag_le : (z : ℤ) → mag z ≤ nat_abs z
mag_le (pos a) = omega arith
mag_le (negsuc a) = omega arith

-- small enough for the signed width w
pub size_fits : {w : Width} (z : ℤ) {b : ℕ} → nat_abs z ≤ b → b < 2 ^ hbits w → SFits w z
size_fits {w} z p q = fits_signed_from_abs w z (omega arith)

-- small enough for an f64 to hold it exactly
pub size_whole : (z : ℤ) → nat_abs z ≤ 2 ^ 53 → T (in_float binary64 z)
unfolding in_float
size_whole (pos n) h = le→leb n (2 ^ 53) h
size_whole (negsuc n) h = le→leb (suc n) (2 ^ 53) h

pub div_mono : (m : ℕ) {a b : ℕ} → 0 < m → a ≤ b → a / m ≤ b / m
div_mono m {a} {b} h p = (le-div_iff_mul-le h).1 (le_trans (div-mul-le_self a m) p)
