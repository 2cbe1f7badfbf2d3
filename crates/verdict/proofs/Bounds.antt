-- How large the errors of a device report can be at the extremes of every type: bounds on squares. Assumes nothing.
use Prim.Native.Nat.{ℕ, ◌+◌, ◌*◌, ◌≤◌}
use native.Mathlib.Nat.{add-le-add, mul-le-mul, le_trans}
use native.Mathlib.Omega.{arith}
use lib.Signed.{nat_abs-le}
use lib.IntN.{ℤ, nat_abs, ◌-ℤ◌}
use mir.Syntax.{w16}
use mir.Val.{SFits}
use Rattle.std.proofs.lemmas.Int.{ints}
use Rattle.verdict.specs.Errors.{squares, errors_of}
use Rattle.verdict.specs.Inside.{Small}
use Rattle.verdict.specs.declared.errors.Device.{Device}
use Rattle.verdict.specs.declared.errors.Reference.{Reference}

squares_within : (m : ℕ) (x y : ℤ) → nat_abs x ≤ m → nat_abs y ≤ m → squares x y ≤ m * m + m * m
squares_within m x y p q = add-le-add (mul-le-mul p p) (mul-le-mul q q)

difference_within : (x y : ℤ) → SFits w16 x → SFits w16 y → nat_abs (x -ℤ y) ≤ 65536
difference_within x y f g = omega (arith, ints, nat_abs-le x f.sfits, nat_abs-le y g.sfits)

-- the errors of 16-bit phasors
pub errors_small : (d : Device) (q : Reference) → SFits w16 d.re → SFits w16 d.im → SFits w16 q.re → SFits w16 q.im → Small (errors_of d q)
unfolding errors_of
errors_small d q dr di qr qi =
    let v : squares (d.re -ℤ q.re) (d.im -ℤ q.im) ≤ 65536 * 65536 + 65536 * 65536 =
    squares_within 65536 (d.re -ℤ q.re) (d.im -ℤ q.im) (difference_within d.re q.re dr qr) (difference_within d.im q.im di qi) in
    let m : squares q.re q.im ≤ 32768 * 32768 + 32768 * 32768 =
    squares_within 32768 q.re q.im (nat_abs-le q.re qr.sfits) (nat_abs-le q.im qi.sfits) in
    record { error_in = le_trans v (omega arith); reference_in = le_trans m (omega arith) }
