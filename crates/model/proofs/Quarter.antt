-- Turning a phasor by a quarter turn adds exactly a quarter turn to its angle, where there is a phase; and there is one before exactly where there
-- is one after. The turn into the first quadrant takes off a quarter more, and each step hands that on. Assumes nothing.
use Rattle.std.proofs.Common.{◌≡◌, ℕ, zero, suc, ◌+◌, ◌-◌, ◌*◌, ◌%◌, ◌^◌, ◌≤◌, true, false, ◌&&◌, T, ltb, ℤ, pos, ◌*ℤ◌, neg_ℤ, nat_abs, sym, refl, ap, ◌∙◌, subst, arith, lt-ltb}
use mathlib.Core.Bool.{and_comm}
use Rattle.ints.proofs.Size.{size_neg, size_mul}
use Rattle.ints.proofs.Ring.{negℤ-*ℤ}
use Rattle.ints.proofs.Cases.{both_true}
use Rattle.model.specs.Angle.{angle_of, quarter_turn, gains, step, steps, turned, scaled, no_phase, phase_angle, phase_of}
use Rattle.model.specs.declared.angle.Angle.{Angle}
use Rattle.model.specs.declared.angle.Phase.{Phase}
use Rattle.model.specs.declared.angle.Turning.{Turning}
use Rattle.model.specs.declared.filter.Phasor.{Phasor}
use Rattle.model.proofs.Signed.{signed}
use Rattle.model.proofs.NoPhase.{phase_some, none_is}

-- (re, im) turned by a quarter turn
abbrev pub quarter_on : Phasor → Phasor
quarter_on p = record { re = neg_ℤ p.im; im = p.re }

-- ---- the steps hand a quarter on

-- the same parts, and an angle that has a quarter more
abbrev later : Turning → Turning
later v = record { re = v.re; im = v.im; angle = gains v.angle (2 ^ 30) }

gains_gains : (a : Angle) (q d : ℕ) → gains (gains a q) d ≡ gains (gains a d) q
gains_gains a q d = ap angle_of (parts a.parts)
  where
    parts : (n : ℕ) → ((n + q) % 2 ^ 32 + d) % 2 ^ 32 ≡ ((n + d) % 2 ^ 32 + q) % 2 ^ 32
    parts n = omega arith

step_later : (i : ℕ) (v : Turning) → step i (later v) ≡ later (step i v)
unfolding step
step_later i v = grind (arith, gains_gains)

steps_later : (n : ℕ) (v : Turning) → steps n (later v) ≡ later (steps n v)
unfolding steps
steps_later zero v = refl
steps_later (suc n) v = ap (steps n) (step_later (23 - n) v) ∙ steps_later n (step (23 - n) v)

-- ---- the turn into the first quadrant takes off a quarter more

turned_quarter : (re im : ℤ) → ((re ≡ pos 0) × (im ≡ pos 0) → ⊥)
    → turned (record { re = neg_ℤ im; im = re }) ≡ later (turned (record { re = re; im = im }))
unfolding turned
turned_quarter re im h = grind (arith, signed)

scaled_quarter : (p : Phasor) → scaled (quarter_on p) ≡ quarter_on (scaled p)
unfolding scaled
scaled_quarter p = λ j. record { re = negℤ-*ℤ p.im (pos 65536) j; im = p.re *ℤ pos 65536 }

-- ---- where there is a phase

-- a part that scales to 0 is below every limit
none_small : (limit : ℕ) → 1 ≤ limit → (z : ℤ) → z *ℤ pos 65536 ≡ pos 0 → ltb (nat_abs z) limit ≡ true
none_small limit l z e =
    let h : nat_abs z * 65536 ≡ 0 = sym (size_mul z (pos 65536)) ∙ ap nat_abs e in
    lt-ltb (nat_abs z) limit (omega arith)

not_both : (limit : ℕ) → 1 ≤ limit → (p : Phasor) → no_phase limit p ≡ false → ((scaled p).re ≡ pos 0) × ((scaled p).im ≡ pos 0) → ⊥
unfolding no_phase scaled
not_both limit l p e z = subst T (sym (both_true _ _ (none_small limit l p.re z.0) (none_small limit l p.im z.1)) ∙ e) tt

angle_quarter : (limit : ℕ) → 1 ≤ limit → (p : Phasor) → no_phase limit p ≡ false → phase_angle (quarter_on p) ≡ gains (phase_angle p) (2 ^ 30)
unfolding phase_angle
angle_quarter limit l p h =
    ap (λ (s : Phasor). (steps 24 (turned s)).angle) (scaled_quarter p)
    ∙ ap (λ (v : Turning). (steps 24 v).angle) (turned_quarter (scaled p).re (scaled p).im (not_both limit l p h))
    ∙ ap (λ (v : Turning). v.angle) (steps_later 24 (turned (scaled p)))

no_phase_quarter : (limit : ℕ) (p : Phasor) → no_phase limit (quarter_on p) ≡ no_phase limit p
unfolding no_phase
no_phase_quarter limit p = ap (λ (n : ℕ). ltb n limit && ltb (nat_abs p.re) limit) (size_neg p.im) ∙ and_comm (ltb (nat_abs p.im) limit) (ltb (nat_abs p.re) limit)

-- ---- the law

-- there is a phase after the turn exactly where there is one before
pub quarter_none : (limit : ℕ) (p : Phasor) → (phase_of limit (quarter_on p)).none ≡ (phase_of limit p).none
quarter_none limit p = none_is limit (quarter_on p) ∙ no_phase_quarter limit p ∙ sym (none_is limit p)

-- and there the angle gains a quarter turn
pub quarter : (limit : ℕ) → 1 ≤ limit → (p : Phasor) → (phase_of limit p).none ≡ false
    → (phase_of limit (quarter_on p)).angle ≡ gains (phase_of limit p).angle quarter_turn.parts
quarter limit l p h =
    let e = sym (none_is limit p) ∙ h in
    ap (λ (f : Phase). f.angle) (phase_some limit (quarter_on p) (no_phase_quarter limit p ∙ e))
    ∙ angle_quarter limit l p e
    ∙ sym (ap (λ (f : Phase). gains f.angle (2 ^ 30)) (phase_some limit p e))
