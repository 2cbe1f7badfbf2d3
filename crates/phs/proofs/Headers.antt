-- A header that is not refused has a served nominal, a served rate and a SOC of 32 bits. By the refusals in their order.
use Rattle.std.proofs.Common.{◌≡◌, ℕ, ◌^◌, ◌<◌, Bool, true, false, List, [], ◌∷◌, sym, refl, subst, arith}
use borrow.Author.Tests.{not-false}
use Rattle.refusals.specs.Refusals.{Refusal, unless_refused}
use Rattle.refusals.proofs.Passing.{pass, stop}
use Rattle.sampling.specs.Tags.{served_nominal, served_rate, no_nominal, no_rate}
use Rattle.header.specs.Header.{Said, refused, opens, headed, too_short, no_mark, no_version, nominal_in, rate_in, soc_in, opening_in}
use Rattle.header.proofs.Meant.{meant_served}
use Rattle.phs.specs.Cut.{Bytes}

-- what is known of a header's outcome
pub data Known : Said → Type 0 where
  not_read : (number : ℕ) → Known (refused number)
  is_read : {version nominal rate soc : ℕ} → served_nominal nominal ≡ true → served_rate nominal rate ≡ true → soc < 2 ^ 32 → Known (opens version nominal rate soc)

-- the first refusal that is due, or none
module _ (P : Said → Type 0) (refuse : (n : ℕ) → P (refused n)) (grant : Said) where
  by_refusals : (r : Refusal) (rs : List Refusal) → (r.due ≡ false → P (unless_refused rs refused grant)) → P (unless_refused (r ∷ rs) refused grant)
  by_refusals r rs on = go r.due refl
    where
      go : (t : Bool) → r.due ≡ t → P (unless_refused (r ∷ rs) refused grant)
      go true e = subst P (sym (stop r rs refused grant e)) (refuse r.number)
      go false e = subst P (sym (pass r rs refused grant e)) (on e)

soc_fits : (h : List ℕ) → Bytes h → soc_in h < 2 ^ 32
unfolding soc_in
soc_fits h b = omega (arith, b 7, b 8, b 9, b 10)

pub header_known : (h : List ℕ) → Bytes h → Known (headed h)
unfolding headed
header_known h b =
    let grant = opening_in h in
    let six = no_nominal (nominal_in h) in
    let seven = no_rate (nominal_in h) (rate_in h) in
    by_refusals Known not_read grant (too_short h) (no_mark h ∷ no_version h ∷ six ∷ seven ∷ [])
    (λ e. by_refusals Known not_read grant (no_mark h) (no_version h ∷ six ∷ seven ∷ [])
    (λ e. by_refusals Known not_read grant (no_version h) (six ∷ seven ∷ [])
    (λ e. by_refusals Known not_read grant six (seven ∷ [])
    (λ n. by_refusals Known not_read grant seven []
    (λ r. is_read (not-false _ n) (meant_served _ _ _ (not-false _ n) (not-false _ r)) (soc_fits h b))))))
