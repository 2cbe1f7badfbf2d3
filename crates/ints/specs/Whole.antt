-- Sums of whole numbers, and the quotient towards minus infinity.
use Rattle.std.specs.Prelude.{ℕ, zero, suc, ◌/◌, ℤ, pos, negsuc, ◌+ℤ◌}

-- floor of z / m, towards minus infinity: of n it is n / m, and of -(a + 1) it is -(a / m + 1)
abbrev pub floor_div : ℤ → ℕ → ℤ
floor_div (pos n) m = pos (n / m)
floor_div (negsuc a) m = negsuc (a / m)

-- f 0 + f 1 + .. + f (n - 1)
unfoldable pub sum : ℕ → (ℕ → ℤ) → ℤ
sum zero f = pos 0
sum (suc n) f = sum n f +ℤ f n
