-- Document 01, "The angle".
use Rattle.std.specs.Prelude.{ℕ, zero, suc, ◌+◌, ◌-◌, ◌*◌, ◌%◌, ◌^◌, Bool, true, false, cond, ◌&&◌, List, [], ◌∷◌, pos, ◌+ℤ◌, ◌-ℤ◌, ◌*ℤ◌, neg_ℤ, nat_lt, slice_index, unsigned_abs}
use Rattle.std.specs.Int.Signed.{lt_z, le_z}
use Rattle.ints.specs.Whole.{floor_div}
use Rattle.model.specs.declared.angle.Angle.{Angle}
use Rattle.model.specs.declared.angle.Phase.{Phase}
use Rattle.model.specs.declared.angle.Turning.{Turning}
use Rattle.model.specs.declared.filter.Phasor.{Phasor}

-- An angle is a whole number of 2^32nds of a turn
abbrev pub angle_of : ℕ → Angle
angle_of parts = record { parts = parts }

-- zero, the quarter turn and the half turn
abbrev pub zero_turn : Angle
zero_turn = angle_of 0

abbrev pub quarter_turn : Angle
quarter_turn = angle_of (2 ^ 30)

abbrev pub half_turn : Angle
half_turn = angle_of (2 ^ 31)

-- kept modulo 2^32: the angle gains or loses so many parts
abbrev pub gains : Angle → ℕ → Angle
gains angle by = angle_of ((angle.parts + by) % 2 ^ 32)

abbrev pub loses : Angle → ℕ → Angle
loses angle by = angle_of ((angle.parts + (2 ^ 32 - by)) % 2 ^ 32)

-- A(0..23): arctangent of 2^-i, rounded
abbrev pub arctans : List ℕ
arctans =
    536870912 ∷ 316933406 ∷ 167458907 ∷ 85004756 ∷ 42667331 ∷ 21354465 ∷ 10679838 ∷ 5340245 ∷ 2670163 ∷ 1335087 ∷ 667544 ∷ 333772
    ∷ 166886 ∷ 83443 ∷ 41722 ∷ 20861 ∷ 10430 ∷ 5215 ∷ 2608 ∷ 1304 ∷ 652 ∷ 326 ∷ 163 ∷ 81 ∷ []

-- A(i)
unfoldable pub arctan : ℕ → ℕ
arctan i = slice_index arctans i

-- both parts multiplied by 65536
unfoldable pub scaled : Phasor → Phasor
scaled p = record { re = p.re *ℤ pos 65536; im = p.im *ℤ pos 65536 }

-- turned into the first quadrant: re>0, im≥0: as is, base 0; re≤0, im>0: (im, -re), base 2^30; re<0, im≤0: (-re, -im), base 2^31;
-- re≥0, im<0: (-im, re), base 3·2^30; (0, 0) has no phase and is never turned
unfoldable pub turned : Phasor → Turning
turned p =
    cond (lt_z (pos 0) p.re && le_z (pos 0) p.im) (record { re = p.re; im = p.im; angle = zero_turn })
    (cond (le_z p.re (pos 0) && lt_z (pos 0) p.im) (record { re = p.im; im = neg_ℤ p.re; angle = quarter_turn })
    (cond (lt_z p.re (pos 0) && le_z p.im (pos 0)) (record { re = neg_ℤ p.re; im = neg_ℤ p.im; angle = half_turn })
    (record { re = neg_ℤ p.im; im = p.re; angle = angle_of (3 * 2 ^ 30) })))

-- y > 0: re gains floor(y/2^i), im loses floor(re/2^i), the angle gains A(i)
abbrev pub above : ℕ → Turning → Turning
above i v = record { re = v.re +ℤ floor_div v.im (2 ^ i); im = v.im -ℤ floor_div v.re (2 ^ i); angle = gains v.angle (arctan i) }

-- y < 0: re loses floor(y/2^i), im gains floor(re/2^i), the angle loses A(i)
abbrev pub below : ℕ → Turning → Turning
below i v = record { re = v.re -ℤ floor_div v.im (2 ^ i); im = v.im +ℤ floor_div v.re (2 ^ i); angle = loses v.angle (arctan i) }

-- Step i, with y = im; if y = 0, nothing changes
unfoldable pub step : ℕ → Turning → Turning
step i v = cond (lt_z (pos 0) v.im) (above i v) (cond (lt_z v.im (pos 0)) (below i v) v)

-- the steps that are left of 24, each on what the step before it left
unfoldable pub steps : ℕ → Turning → Turning
steps zero v = v
steps (suc left) v = steps left (step (23 - left) v)

-- there is no phase when both |re| and |im| are below the limit (CR 5)
unfoldable pub no_phase : ℕ → Phasor → Bool
no_phase limit p = nat_lt (unsigned_abs p.re) limit && nat_lt (unsigned_abs p.im) limit

-- the angle where there is a phase
unfoldable pub phase_angle : Phasor → Angle
phase_angle p = (steps 24 (turned (scaled p))).angle

-- the phase; where there is none, the angle is then 0 (CR 5)
unfoldable pub phase_of : ℕ → Phasor → Phase
phase_of limit p = cond (no_phase limit p) (record { angle = zero_turn; none = true }) (record { angle = phase_angle p; none = false })
