-- Any two answers that the contract of `measure` admits coincide: what is said of an answer gives it back. Assumes nothing.
use mathlib.Core.Path.{◌≡◌, refl, sym, ◌∙◌, ap}
use mathlib.Core.List.{List}
use Prim.Native.Nat.{ℕ}
use lib.IntN.{ℤ}
use Rattle.std.specs.Prelude.{Result, Ok, Err}
use Rattle.refusals.specs.declared.Refused.{Refused}
use Rattle.refusals.proofs.Numbers.{refused_of, again}
use Rattle.model.specs.declared.report.Figures.{Figures}
use Rattle.runs.specs.Runs.{Said, refused, figures, said, RunMeasuring}

abbrev pub unsaid : Said → Result Figures Refused
unsaid (refused number) = Err (refused_of number)
unsaid (figures re im d1 d2 mark re_peak im_peak deviation rocof) =
    Ok (record { re = re; im = im; d1 = d1; d2 = d2; mark = mark; re_peak = re_peak; im_peak = im_peak; deviation = deviation; rocof = rocof })

unsaid_said : (r : Result Figures Refused) → unsaid (said r) ≡ r
unsaid_said (Err r) = ap Err (again r)
unsaid_said (Ok f) = refl

pub measure_unique : (a b c : List ℤ) (centre nominal : ℕ) (r q : Result Figures Refused)
    → RunMeasuring a b c centre nominal r → RunMeasuring a b c centre nominal q → r ≡ q
measure_unique a b c centre nominal r q x y = sym (unsaid_said r) ∙ ap unsaid (x ∙ sym y) ∙ unsaid_said q
