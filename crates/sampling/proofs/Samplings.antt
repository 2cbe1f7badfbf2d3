-- The two nominal frequencies: what holds at both, each one's sampling, and each served number is the hertz of its own. By cases. Assumes nothing.
use mathlib.Core.Path.{◌≡◌, refl, sym, ap, ◌∙◌, subst}
use mathlib.Core.Bool.{Bool, true, false, ◌||◌}
use Prim.Native.Nat.{ℕ, ◌≤◌}
use lib.Dec.{eqb, lit≤}
use borrow.Author.Tests.{eqb-true}
use Rattle.sampling.specs.Sampling.{hertz, sampling}
use Rattle.sampling.specs.Tags.{served_nominal, nominal_of}
use Rattle.sampling.specs.declared.Nominal.{Nominal}
use Rattle.sampling.specs.declared.Nominal.TheVariants.{Fifty, Sixty}

-- what holds at 50 and at 60 holds of a served nominal
pub served_cases : (P : ℕ → Type 0) → P 50 → P 60 → (n : ℕ) → served_nominal n ≡ true → P n
served_cases P a b n e = go (eqb n 50) refl
  where
    go : (t : Bool) → eqb n 50 ≡ t → P n
    go true t = subst P (sym (eqb-true n 50 t)) a
    go false t = subst P (sym (eqb-true n 60 (sym (ap (λ (x : Bool). x || eqb n 60) t) ∙ e))) b

pub sampling_within : (nominal : Nominal) → sampling nominal ≤ 900
sampling_within Fifty = lit≤ tt
sampling_within Sixty = lit≤ tt

-- a served number stands for the nominal frequency of so many hertz
pub hertz_of : (n : ℕ) → served_nominal n ≡ true → hertz (nominal_of n) ≡ n
hertz_of = served_cases (λ n. hertz (nominal_of n) ≡ n) refl refl
