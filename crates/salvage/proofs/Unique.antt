-- The contract of `mend` admits one outcome: an answer is found again from what is said of it. Assumes nothing.
use Rattle.std.proofs.Common.{◌≡◌, ℕ, List, Result, Ok, Err, refl, sym, ap, ◌∙◌}
use Rattle.refusals.specs.declared.Refused.{Refused}
use Rattle.refusals.specs.Refusals.{by_number}
use Rattle.refusals.proofs.Numbers.{by_number_injective}
use Rattle.salvage.specs.declared.MendedSlot.{MendedSlot}
use Rattle.salvage.specs.Image.{Said, refused, mended, said, Outcome, Mending}

-- what is said, as an answer by its refusal's number
abbrev numbered : Said → Result (List MendedSlot) ℕ
numbered (refused number) = Err number
numbered (mended slots) = Ok slots

numbered_said : (r : Result (List MendedSlot) Refused) → numbered (said r) ≡ by_number r
numbered_said (Ok slots) = refl
numbered_said (Err r) = refl

pub mend_unique : (image : List ℕ) (r q : Result (List MendedSlot) Refused) (s t : List ℕ) → Mending image r s → Mending image q t → (r ≡ q) × (s ≡ t)
mend_unique image r q s t e d =
    let same : ◌≡◌ {A = Outcome} (record { answer = said r; image = s }) (record { answer = said q; image = t }) = e ∙ sym d in (
      by_number_injective r q (sym (numbered_said r) ∙ ap (λ (o : Outcome). numbered o.answer) same ∙ numbered_said q),
      ap (λ (o : Outcome). o.image) same,
    )
