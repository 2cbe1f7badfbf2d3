-- Any two answers of `judge` that its contract admits coincide: what an answer says determines it. Assumes nothing.
use mathlib.Core.Path.{◌≡◌, refl, sym, ap, ◌∙◌}
use Prim.Native.Nat.{ℕ}
use Rattle.std.specs.Prelude.{Result, Ok, Err, Option, Some, None}
use lib.IntN.{ℤ}
use Rattle.refusals.specs.declared.Refused.{Refused}
use Rattle.refusals.proofs.Numbers.{refused_of, again}
use Rattle.verdict.specs.Judging.{Said, refused, left_out, verdicts, said, Judging}
use Rattle.verdict.specs.declared.errors.Device.{Device}
use Rattle.verdict.specs.declared.errors.Reference.{Reference}
use Rattle.verdict.specs.declared.judging.Verdict.{Verdict}

-- the case that says it
abbrev pub unsaid : Said → Result (Option Verdict) Refused
unsaid (refused n) = Err (refused_of n)
unsaid left_out = Ok None
unsaid (verdicts t f r) = Ok (Some (record { tve = t; fe = f; rfe = r }))

pub unsaid_said : (r : Result (Option Verdict) Refused) → unsaid (said r) ≡ r
unsaid_said (Err r) = ap Err (again r)
unsaid_said (Ok None) = refl
unsaid_said (Ok (Some v)) = refl

pub judge_unique : (class test : ℕ) (m : ℤ) (d : Device) (q : Reference) (r s : Result (Option Verdict) Refused)
    → Judging class test m d q r → Judging class test m d q s → r ≡ s
judge_unique class test m d q r s p o = sym (unsaid_said r) ∙ ap unsaid (p ∙ sym o) ∙ unsaid_said s
