-- Document 01, "The verdict", with CR 1: each error against its limit, what is left out, and the refusals of judging in their order.
use Rattle.std.specs.Prelude.{◌≡◌, Result, Ok, Err, Option, Some, None, Bool, cond, ◌&&◌, List, [], ◌∷◌, ℕ, ◌*◌, ltb, leb, eqb, ℤ, pos, neg_ℤ, nat_abs}
use Rattle.std.specs.Int.Signed.{le_z}
use Rattle.verdict.specs.Errors.{errors_of}
use Rattle.verdict.specs.Limits.{limits_for}
use Rattle.refusals.specs.declared.Refused.{Refused}
use Rattle.refusals.specs.Refusals.{Refusal, unless_refused, number_of}
use Rattle.verdict.specs.declared.errors.Device.{Device}
use Rattle.verdict.specs.declared.errors.Reference.{Reference}
use Rattle.verdict.specs.declared.errors.Errors.{Errors}
use Rattle.verdict.specs.declared.limits.Limits.{Limits}
use Rattle.verdict.specs.declared.judging.Verdict.{Verdict}

-- with limit p percent, TVE is within exactly when (dr² + di²)·10000 ≤ p²·(re² + im²)
abbrev pub vector_within : ℕ → ℕ → ℕ → Bool
vector_within p error_squared reference_squared = leb (error_squared * 10000) (p * p * reference_squared)

-- meeting the limit is within
unfoldable pub verdict_on : Errors → Limits → Verdict
verdict_on errors limits =
    record {
      tve = vector_within limits.tve errors.error_squared errors.reference_squared;
      fe = leb errors.frequency limits.fe;
      rfe = leb errors.rocof limits.rfe;
    }

-- in ramp tests m from -2 to 2 is left out, and -3 and 3 are judged (CR 1); in steady tests m has no effect
abbrev pub is_left_out : ℕ → ℤ → Bool
is_left_out test m = eqb test 1 && le_z (neg_ℤ (pos 2)) m && le_z m (pos 2)

-- 10: class over 1
abbrev pub no_class : ℕ → Refusal
no_class class = record { number = 10; due = ltb 1 class }

-- 11: test over 1
abbrev pub no_test : ℕ → Refusal
no_test test = record { number = 11; due = ltb 1 test }

-- 9: reference re and im both 0
abbrev pub no_reference : Reference → Refusal
no_reference reference = record { number = 9; due = eqb (nat_abs reference.re) 0 && eqb (nat_abs reference.im) 0 }

-- judging 10, 11, 9
abbrev pub judge_refusals : ℕ → ℕ → Reference → List Refusal
judge_refusals class test reference = no_class class ∷ no_test test ∷ no_reference reference ∷ []

-- what document 01 says of an answer: a refusal's number alone, "left out" with no verdicts, or the verdicts of TVE, FE and RFE
pub data Said : Type 0 where
  refused : (number : ℕ) → Said
  left_out : Said
  verdicts : (tve fe rfe : Bool) → Said

-- the verdicts, each by its name
abbrev pub said_verdict : Verdict → Said
said_verdict v = verdicts v.tve v.fe v.rfe

-- judging 10, 11, 9, then "left out", then the errors against the limits for class and test
unfoldable pub judgement : ℕ → ℕ → ℤ → Device → Reference → Said
judgement class test m device reference =
    unless_refused (judge_refusals class test reference) refused
    (cond (is_left_out test m) left_out
    (said_verdict (verdict_on (errors_of device reference) (limits_for class test))))

-- each case of the answer, by document 01's number and values
abbrev pub said : Result (Option Verdict) Refused → Said
said (Err r) = refused (number_of r)
said (Ok None) = left_out
said (Ok (Some v)) = said_verdict v

-- what `judge` promises of its answer
abbrev pub Judging : ℕ → ℕ → ℤ → Device → Reference → Result (Option Verdict) Refused → Type 0
Judging class test m device reference r = said r ≡ judgement class test m device reference
