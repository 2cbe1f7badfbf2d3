-- Two tests, against a limit and its negative, are one of the size; and the phase by whether there is one, which the sizes of both parts decide.
-- Assumes nothing.
use Rattle.std.proofs.Common.{arith, ◌≡◌, ℕ, zero, suc, ◌<◌, Bool, true, false, ◌&&◌, T, ltb, ◌↔◌, ℤ, pos, negsuc, neg_ℤ, nat_abs, sym, refl, ap, ◌∙◌, subst, ltb→lt, lt-ltb}
use mathlib.Core.Bool.{and-true, and-false}
use lib.Dec.{leb-suc-suc, leb-suc-zero}
use mir.Facts.{and_yes}
use lib.Signed.{lt_z}
use Rattle.ints.proofs.Cases.{when_true, when_false, both_true}
use Rattle.model.specs.Angle.{no_phase, phase_angle, phase_of, zero_turn}
use Rattle.model.specs.declared.filter.Phasor.{Phasor}

-- -n < z and z < n
pub between : (n : ℕ) (z : ℤ) → (lt_z (neg_ℤ (pos n)) z && lt_z z (pos n)) ≡ ltb (nat_abs z) n
between zero (pos a) = ap (λ (t : Bool). ltb 0 a && t) (leb-suc-zero a) ∙ and-false (ltb 0 a) ∙ sym (leb-suc-zero a)
between zero (negsuc a) = sym (leb-suc-zero (suc a))
between (suc n) (pos a) = refl
between (suc n) (negsuc a) = and-true (ltb a n) ∙ sym (leb-suc-suc (suc a) n)

module _ (limit : ℕ) (p : Phasor) where
  pub phase_none : no_phase limit p ≡ true → phase_of limit p ≡ record { angle = zero_turn; none = true }
  unfolding phase_of
  phase_none e = when_true (no_phase limit p) _ _ e

  pub phase_some : no_phase limit p ≡ false → phase_of limit p ≡ record { angle = phase_angle p; none = false }
  unfolding phase_of
  phase_some e = when_false (no_phase limit p) _ _ e

  pub none_is : (phase_of limit p).none ≡ no_phase limit p
  unfolding phase_of
  none_is = grind arith

  -- there is none exactly when both sizes are below the limit
  pub none_exactly : ((phase_of limit p).none ≡ true) ↔ ((nat_abs p.re < limit) × (nat_abs p.im < limit))
  unfolding no_phase
  none_exactly = (λ e. below (sym none_is ∙ e), λ h. none_is ∙ both_true _ _ (lt-ltb _ _ h.0) (lt-ltb _ _ h.1))
    where
      below : no_phase limit p ≡ true → (nat_abs p.re < limit) × (nat_abs p.im < limit)
      below e =
          let (a, b) = and_yes (ltb (nat_abs p.re) limit) (ltb (nat_abs p.im) limit) (subst T (sym e) tt) in
          (ltb→lt _ _ a, ltb→lt _ _ b)
