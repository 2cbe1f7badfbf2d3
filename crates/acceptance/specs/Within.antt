-- Condition B, second sentence of demand 2, of every answer that the contract of `judge` admits.
use Rattle.std.specs.Prelude.{◌≡◌, true, false, ◌↔◌, Option, Some, Result, Ok, ℕ, ◌*◌, ◌≤◌, ◌<◌, ℤ, pos, nat_abs, ◌-ℤ◌, ◌*ℤ◌}
use Rattle.refusals.specs.declared.Refused.{Refused}
use Rattle.verdict.specs.Errors.{squares}
use Rattle.verdict.specs.Limits.{limits_for}
use Rattle.verdict.specs.Judging.{no_reference, is_left_out, Judging}
use Rattle.verdict.specs.declared.errors.Device.{Device}
use Rattle.verdict.specs.declared.errors.Reference.{Reference}
use Rattle.verdict.specs.declared.limits.Limits.{Limits}
use Rattle.verdict.specs.declared.judging.Verdict.{Verdict}

-- a fraction: top / bottom
pub record Fraction : Type 0 where
  pub top : ℕ
  pub bottom : ℕ

infix 50 ◌≤ᶠ◌
-- a/b ≤ c/d is a·d ≤ c·b
abbrev pub ◌≤ᶠ◌ : Fraction → Fraction → Type 0
x ≤ᶠ y = x.top * y.bottom ≤ y.top * x.bottom

-- TVE squared: (dr² + di²) / (re² + im²) (004: TVE is the root of it)
abbrev pub tve_squared : Device → Reference → Fraction
tve_squared d q = record { top = squares (d.re -ℤ q.re) (d.im -ℤ q.im); bottom = squares q.re q.im }

-- p percent squared: (p / 100)²
abbrev pub percent_squared : ℕ → Fraction
percent_squared p = record { top = p * p; bottom = 100 * 100 }

-- verdicts v on a device d, a reference q and limits l
pub record Within (l : Limits) (d : Device) (q : Reference) (v : Verdict) : Type 0 where
  -- TVE is a fraction: the reference is not zero
  pub fraction : 0 < (tve_squared d q).bottom
  -- TVE ≤ p / 100, both squared
  pub tve : (v.tve ≡ true) ↔ (tve_squared d q ≤ᶠ percent_squared l.tve)
  -- FE in µHz, of a device figure in mHz
  pub fe : (v.fe ≡ true) ↔ (nat_abs (pos 1000 *ℤ d.deviation -ℤ q.deviation) ≤ l.fe)
  -- RFE in µHz/s, of a device figure in hundredths of Hz/s
  pub rfe : (v.rfe ≡ true) ↔ (nat_abs (pos 10000 *ℤ d.rocof -ℤ q.rocof) ≤ l.rfe)

-- a verdict is due: there are limits for class and test, the reference is not zero, and the report is not left out
pub record Due (class test : ℕ) (m : ℤ) (q : Reference) : Type 0 where
  pub class_known : class ≤ 1
  pub test_known : test ≤ 1
  pub reference_given : (no_reference q).due ≡ false
  pub not_left_out : is_left_out test m ≡ false

-- the sentence, in its two parts
pub record WithinLimits : Type 0 where
  -- "Where a verdict is due ..": there the answer is three verdicts, and nowhere else
  pub due : (class test : ℕ) (m : ℤ) (d : Device) (q : Reference) (r : Result (Option Verdict) Refused)
      → Judging class test m d q r
      → Due class test m q ↔ ((v : Verdict) × (r ≡ Ok (Some v)))
  -- ".. a device is within TVE, FE or RFE exactly when its error doesn't exceed the limit for its class and test"
  pub exactly : (class test : ℕ) (m : ℤ) (d : Device) (q : Reference) (v : Verdict)
      → Judging class test m d q (Ok (Some v))
      → Within (limits_for class test) d q v
