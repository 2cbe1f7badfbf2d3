-- Any two answers that a public contract admits coincide: each contract says that the answer is one thing. Assumes nothing.
use mathlib.Core.Path.{◌≡◌, sym, ◌∙◌}
use mathlib.Core.Bool.{Bool}
use Prim.Native.Nat.{ℕ}
use Rattle.sampling.specs.Sampling.{sampling}
use Rattle.std.specs.Prelude.{Result}
use Rattle.refusals.specs.declared.Refused.{Refused}
use Rattle.refusals.proofs.Numbers.{by_number_injective}
use Rattle.sampling.specs.Tags.{served_nominal, nominal_of, served_rate, kept_rate, Naming}
use Rattle.sampling.specs.declared.Nominal.{Nominal}

pub nominal_sampling_unique : (nominal : Nominal) (r s : ℕ) → r ≡ sampling nominal → s ≡ sampling nominal → r ≡ s
nominal_sampling_unique nominal r s p q = p ∙ sym q

pub served_nominal_unique : (nominal : ℕ) (r s : Bool) → r ≡ served_nominal nominal → s ≡ served_nominal nominal → r ≡ s
served_nominal_unique nominal r s p q = p ∙ sym q

pub try_from_unique : (nominal : ℕ) (r s : Result Nominal Refused) → Naming nominal r → Naming nominal s → r ≡ s
try_from_unique nominal r s p q = by_number_injective r s (p ∙ sym q)

pub served_rate_unique : (nominal rate : ℕ) (r s : Bool) → r ≡ served_rate nominal rate → s ≡ served_rate nominal rate → r ≡ s
served_rate_unique nominal rate r s p q = p ∙ sym q

pub nominal_of_unique : (nominal : ℕ) (r s : Nominal) → r ≡ nominal_of nominal → s ≡ nominal_of nominal → r ≡ s
nominal_of_unique nominal r s p q = p ∙ sym q

pub kept_rate_unique : (nominal rate r s : ℕ) → r ≡ kept_rate nominal rate → s ≡ kept_rate nominal rate → r ≡ s
kept_rate_unique nominal rate r s p q = p ∙ sym q
