-- Condition B's second sentence: verdicts are told only past every refusal, and each of the three tests decides an order. Assumes nothing.
use mathlib.Core.Path.{◌≡◌, refl, sym, ap, ◌∙◌, subst}
use mathlib.Core.Bool.{Bool, true, false, cond, ◌&&◌}
use mathlib.Core.Logic.{◌↔◌}
use Prim.Native.Nat.{ℕ, zero, suc, ◌+◌, ◌*◌, ◌≤◌, ◌<◌}
use native.Mathlib.Nat.{mul-pos}
use native.Mathlib.Omega.{arith}
use borrow.Author.Tests.{leb-true, le-leb, ltb-false, le-ltb}
use lib.Dec.{T, leb, ltb, eqb}
use lib.IntN.{ℤ, nat_abs}
use Rattle.std.specs.Prelude.{Some, Ok}
use Rattle.ints.proofs.Cases.{when_false}
use Rattle.verdict.specs.Errors.{errors_of}
use Rattle.verdict.specs.Limits.{limits_for}
use Rattle.verdict.specs.Judging.{Said, refused, left_out, verdicts, said_verdict, no_reference, is_left_out, verdict_on, judgement, Judging}
use Rattle.verdict.specs.declared.errors.Device.{Device}
use Rattle.verdict.specs.declared.errors.Reference.{Reference}
use Rattle.verdict.specs.declared.limits.Limits.{Limits}
use Rattle.verdict.specs.declared.judging.Verdict.{Verdict}
use Rattle.verdict.proofs.Unique.{unsaid, unsaid_said}
use Rattle.acceptance.specs.Within.{Within, Due, WithinLimits}

-- ---- re² + im² of the reference is above 0 where refusal 9 is not given

squares_positive : (a b : ℕ) → (eqb a 0 && eqb b 0) ≡ false → 0 < a * a + b * b
squares_positive zero zero e = absurd (subst T e tt)
squares_positive zero (suc b) e = omega (arith, mul-pos {m = suc b} {n = suc b} (omega arith) (omega arith))
squares_positive (suc a) b e = omega (arith, mul-pos {m = suc a} {n = suc a} (omega arith) (omega arith))

-- ---- the tests decide the orders, for any limits

decides : {b : Bool} (x y : ℕ) → b ≡ leb x y → (b ≡ true) ↔ (x ≤ y)
decides x y e = (λ t. leb-true x y (sym e ∙ t), λ h. e ∙ le-leb x y h)

exactly_for : (l : Limits) (d : Device) (q : Reference) (v : Verdict) → (no_reference q).due ≡ false → said_verdict v ≡ said_verdict (verdict_on (errors_of d q) l) → Within l d q v
unfolding verdict_on errors_of
exactly_for l d q v h e =
    record {
      fraction = squares_positive (nat_abs q.re) (nat_abs q.im) h;
      tve = decides _ _ cc;
      fe = decides _ _ cc;
      rfe = decides _ _ cc;
    }

-- ---- verdicts are told past every refusal

past : {t f r : Bool} (given : Bool) (x y : Said) → (verdicts t f r ≡ x → ⊥) → verdicts t f r ≡ cond given x y → (given ≡ false) × (verdicts t f r ≡ y)
past true x y h e = absurd (h e)
past false x y h e = (refl, e)

not_refused : {t f r : Bool} {n : ℕ} → verdicts t f r ≡ refused n → ⊥
not_refused e = cc

not_left_out : {t f r : Bool} → verdicts t f r ≡ left_out → ⊥
not_left_out e = cc

module _ (class test : ℕ) (m : ℤ) (d : Device) (q : Reference) where
  abbrev verdict : Said
  verdict = said_verdict (verdict_on (errors_of d q) (limits_for class test))

  told_when : (v : Verdict) → Judging class test m d q (Ok (Some v)) → Due class test m q × (said_verdict v ≡ verdict)
  unfolding judgement
  told_when v e =
      let after_10 = past (ltb 1 class) _ _ not_refused e in
      let after_11 = past (ltb 1 test) _ _ not_refused after_10.1 in
      let after_9 = past (no_reference q).due _ _ not_refused after_11.1 in
      let after_left_out = past (is_left_out test m) _ _ not_left_out after_9.1 in (
        record {
          class_known = ltb-false 1 class after_10.0;
          test_known = ltb-false 1 test after_11.0;
          reference_given = after_9.0;
          not_left_out = after_left_out.0;
        },
        after_left_out.1,
      )

  due_judged : Due class test m q → judgement class test m d q ≡ verdict
  unfolding judgement
  due_judged u =
      when_false (ltb 1 class) _ _ (le-ltb 1 class u.class_known)
      ∙ when_false (ltb 1 test) _ _ (le-ltb 1 test u.test_known)
      ∙ when_false (no_reference q).due _ _ u.reference_given
      ∙ when_false (is_left_out test m) _ _ u.not_left_out

pub within_exactly_when : WithinLimits
within_exactly_when =
    record {
      due = λ class test m d q r p. (
        λ u. (verdict_on (errors_of d q) (limits_for class test), sym (unsaid_said r) ∙ ap unsaid (p ∙ due_judged class test m d q u)),
        λ o. (told_when class test m d q o.0 (subst (Judging class test m d q) o.1 p)).0,
      );
      exactly = λ class test m d q v p.
          let o = told_when class test m d q v p in
          exactly_for (limits_for class test) d q v o.0.reference_given o.1;
    }
