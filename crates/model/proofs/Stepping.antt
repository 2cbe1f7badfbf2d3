-- One step, by the sign of im; the steps that are left, one fewer; and how large both parts grow: from step to step by a floor at most, so that
-- they stay within 2^60. Assumes nothing.
use Rattle.std.proofs.Common.{◌≡◌, ℕ, zero, suc, ◌+◌, ◌-◌, ◌^◌, ◌<◌, ◌≤◌, Bool, true, false, cond, ℤ, pos, ◌+ℤ◌, ◌-ℤ◌, nat_abs, sym, ap, subst, le_trans, le_refl, not-suc-le-zero, add-zero, add-suc, arith, lit≤, pow_pos}
use lib.Signed.{lt_z}
use Rattle.ints.specs.Whole.{floor_div}
use Rattle.ints.proofs.Size.{size_floor, size_add, size_minus, mag_le, div_mono}
use Rattle.model.specs.Angle.{step, steps, above, below}
use Rattle.model.specs.Bounds.{cap, Sized}
use Rattle.model.proofs.Signed.{signed}
use Rattle.model.specs.declared.angle.Turning.{Turning}

-- ---- the step, by the sign of im

module _ (i : ℕ) (v : Turning) where
  -- each part by a test: the step below 0, or the one above
  abbrev pub chosen : Bool → Turning
  chosen u = record {
    re = cond u (below i v).re (above i v).re;
    im = cond u (below i v).im (above i v).im;
    angle = cond u (below i v).angle (above i v).angle;
  }

  -- elsewhere the sign of im chooses each part
  pub step_chosen : (v.im ≡ pos 0 → ⊥) → chosen (lt_z v.im (pos 0)) ≡ step i v
  unfolding step
  step_chosen h = grind (arith, signed)

-- ---- the steps that are left
pub steps_none : (left : ℕ) (v : Turning) → left ≡ 0 → steps left v ≡ v
unfolding steps
steps_none left v e = ap (λ (k : ℕ). steps k v) e

pub steps_more : (left : ℕ) (v : Turning) → 0 < left → steps left v ≡ steps (left - 1) (step (24 - left) v)
unfolding steps
steps_more zero v h = absurd (not-suc-le-zero h)
steps_more (suc n) v h =
    let e : n ≡ suc n - 1 = omega arith in
    let f : 23 - n ≡ 24 - suc n = omega arith in
    λ i. steps (e i) (step (f i) v)

-- ---- how large

-- before step i neither part is larger than the cap
abbrev pub Within : ℕ → Turning → Type 0
Within i v = Sized (cap i) v.re v.im

-- one part plus or minus the floor of the other
grown : (op : ℤ → ℤ → ℤ) → ((a b : ℤ) → nat_abs (op a b) ≤ nat_abs a + nat_abs b) → (x y : ℤ) (i : ℕ) → nat_abs x ≤ cap i → nat_abs y ≤ cap i
    → nat_abs (op x (floor_div y (2 ^ i))) ≤ cap (suc i)
unfolding cap
grown op size x y i p q =
    omega (arith, size x (floor_div y (2 ^ i)), size_floor y (2 ^ i), div_mono (2 ^ i) (pow_pos i) (le_trans (mag_le y) q))

grows : (i : ℕ) → cap i ≤ cap (suc i)
unfolding cap
grows i = omega arith

within_step : (i : ℕ) (v : Turning) → Within i v → Within (suc i) (step i v)
unfolding step
within_step i v w = pick (lt_z (pos 0) v.im) (lt_z v.im (pos 0))
  where
    more : (x y : ℤ) → nat_abs x ≤ cap i → nat_abs y ≤ cap i → nat_abs (x +ℤ floor_div y (2 ^ i)) ≤ cap (suc i)
    more x y = grown ◌+ℤ◌ size_add x y i

    fewer : (x y : ℤ) → nat_abs x ≤ cap i → nat_abs y ≤ cap i → nat_abs (x -ℤ floor_div y (2 ^ i)) ≤ cap (suc i)
    fewer x y = grown ◌-ℤ◌ size_minus x y i

    pick : (t u : Bool) → Within (suc i) (cond t (above i v) (cond u (below i v) v))
    pick true u = record { re_size = more v.re v.im w.re_size w.im_size; im_size = fewer v.im v.re w.im_size w.re_size }
    pick false true = record { re_size = fewer v.re v.im w.re_size w.im_size; im_size = more v.im v.re w.im_size w.re_size }
    pick false false = record { re_size = le_trans w.re_size (grows i); im_size = le_trans w.im_size (grows i) }

-- what is handed on, with one step fewer left
pub within_next : (left : ℕ) (v : Turning) → 0 < left → left ≤ 24 → Within (24 - left) v → Within (24 - (left - 1)) (step (24 - left) v)
within_next left v h k w = subst (λ (i : ℕ). Within i (step (24 - left) v)) e (within_step (24 - left) v w)
  where
    e : suc (24 - left) ≡ 24 - (left - 1)
    e = omega arith

cap_far : (i d : ℕ) → cap i ≤ cap (i + d)
cap_far i zero = subst (λ (k : ℕ). cap i ≤ cap k) (sym (add-zero i)) (le_refl (cap i))
cap_far i (suc d) = subst (λ (k : ℕ). cap i ≤ cap k) (sym (add-suc i d)) (le_trans (cap_far i d) (grows (i + d)))

last : cap 24 ≤ 2 ^ 60
unfolding cap
last = lit≤ tt

-- before each step both parts are within 2^60
pub within_60 : (i : ℕ) → i ≤ 24 → {re im : ℤ} → Sized (cap i) re im → Sized (2 ^ 60) re im
within_60 i h w = record { re_size = le_trans w.re_size fits; im_size = le_trans w.im_size fits }
  where
    e : i + (24 - i) ≡ 24
    e = omega arith

    fits : cap i ≤ 2 ^ 60
    fits = le_trans (subst (λ (k : ℕ). cap i ≤ cap k) e (cap_far i (24 - i))) last
