-- `floor_div z m` is the q with m·q ≤ z < m·(q + 1), and what `>>` gives. Assumes nothing.
use Rattle.std.proofs.Common.{ℕ, suc, ◌-◌, ◌%◌, ◌<◌, ◌≡◌, refl, arith}
use Rattle.std.proofs.lemmas.Int.{ints}
use native.Mathlib.Nat.{div-add-mod', mod-lt}
use lib.IntN.{ℤ, pos, negsuc, ◌+ℤ◌, ◌*ℤ◌}
use lib.Signed.{shr_z}
use Rattle.ints.specs.Whole.{floor_div}

-- z = m q + r with 0 ≤ r < m
pub floor_law : (z : ℤ) (m : ℕ) → 0 < m → (r : ℕ) × (r < m) × (z ≡ pos m *ℤ floor_div z m +ℤ pos r)
floor_law (pos a) m h = (a % m, mod-lt a h, omega (arith, ints, div-add-mod' a m))
floor_law (negsuc a) m h =
    let l : a % m < m = mod-lt a h in
    (m - suc (a % m), omega arith, omega (arith, ints, div-add-mod' a m))

-- the library's shift
pub shift_is_floor : (z : ℤ) (m : ℕ) → shr_z z m ≡ floor_div z m
shift_is_floor (pos a) m = refl
shift_is_floor (negsuc a) m = refl
