-- Each contract admits one outcome: two that equal the same are equal, and two answers of which the same is said are one. Assumes nothing.
use mathlib.Core.Path.{◌≡◌, refl, sym, ap, ◌∙◌}
use mathlib.Core.List.{List}
use Prim.Native.Nat.{ℕ}
use Rattle.std.specs.Prelude.{Result, Ok, Err, Option}
use Rattle.model.specs.declared.filter.Sample.{Sample}
use Rattle.refusals.specs.declared.Refused.{Refused}
use Rattle.refusals.proofs.Numbers.{number_of_injective}
use Rattle.feed.specs.declared.Report.{Report}
use Rattle.feed.specs.Answers.{Said, said}
use Rattle.feed.proofs.Unique.{said_injective}
use Rattle.bank.specs.declared.damage.Damage.{Damage}
use Rattle.bank.specs.Slot.{worked_out_in}
use Rattle.bank.specs.Damage.{damage_of}
use Rattle.bank.specs.Calls.{Outcome, settled, cleared, opened_at, pushed_at, closed_at, Clearing, Opening, Pushing, Closing}

-- two answers of which the same is said are one
settled_injective : (a b : Result (Unit {0}) Refused) → settled a ≡ settled b → a ≡ b
settled_injective (Err r) (Err q) e = ap Err (number_of_injective r q cc)
settled_injective (Err r) (Ok u) e = absurd cc
settled_injective (Ok u) (Err q) e = absurd cc
settled_injective (Ok u) (Ok w) e = refl

module _ {A : Type 0} (say : A → Said) (injective : (a b : A) → say a ≡ say b → a ≡ b) where
  one_outcome : (o : Outcome) (r q : A) (s t : List ℕ) → record { answer = say r; bank = s } ≡ o → record { answer = say q; bank = t } ≡ o → (r ≡ q) × (s ≡ t)
  one_outcome o r q s t e d =
      let same : ◌≡◌ {A = Outcome} (record { answer = say r; bank = s }) (record { answer = say q; bank = t }) = e ∙ sym d in
      (injective r q (ap (λ (x : Outcome). x.answer) same), ap (λ (x : Outcome). x.bank) same)

pub clear_unique : (bank : List ℕ) (r q : Result (Unit {0}) Refused) (s t : List ℕ) → Clearing bank r s → Clearing bank q t → (r ≡ q) × (s ≡ t)
clear_unique bank = one_outcome settled settled_injective (cleared bank)

pub open_unique : (bank : List ℕ) (slot nominal rate soc : ℕ) (r q : Result (Unit {0}) Refused) (s t : List ℕ)
    → Opening bank slot nominal rate soc r s → Opening bank slot nominal rate soc q t → (r ≡ q) × (s ≡ t)
open_unique bank slot nominal rate soc = one_outcome settled settled_injective (opened_at bank slot nominal rate soc)

pub push_unique : (bank : List ℕ) (slot : ℕ) (v : Sample) (r q : Result (Option Report) Refused) (s t : List ℕ)
    → Pushing bank slot v r s → Pushing bank slot v q t → (r ≡ q) × (s ≡ t)
push_unique bank slot v = one_outcome said said_injective (pushed_at bank slot v)

pub close_unique : (bank : List ℕ) (slot : ℕ) (r q : Result (Unit {0}) Refused) (s t : List ℕ)
    → Closing bank slot r s → Closing bank slot q t → (r ≡ q) × (s ≡ t)
close_unique bank slot = one_outcome settled settled_injective (closed_at bank slot)

pub damage_of_unique : (s : List ℕ) (r q : Option Damage) → r ≡ damage_of s → q ≡ damage_of s → r ≡ q
damage_of_unique s r q e d = e ∙ sym d

pub worked_out_unique : (s r q : List ℕ) → r ≡ worked_out_in s → q ≡ worked_out_in s → r ≡ q
worked_out_unique s r q e d = e ∙ sym d
