-- Document 02, CR 3: an image of the bank is mended slot by slot.
use Rattle.std.specs.Prelude.{◌≡◌, ℕ, zero, suc, replicate, Result, Ok, Err}
use mathlib.Core.List.{List, [], ◌∷◌, flatten}
use Rattle.refusals.specs.declared.Refused.{Refused}
use Rattle.refusals.specs.Refusals.{Refusal, unless_refused, number_of}
use Rattle.bank.specs.Slot.{slot_at}
use Rattle.bank.specs.Calls.{wrong_length}
use Rattle.salvage.specs.declared.MendedSlot.{MendedSlot}
use Rattle.salvage.specs.Slots.{mended_slot, unaltered, told}

-- ---- slot by slot

-- what a rule gives for n slots, from slot k on, in their order
unfoldable pub each_slot : {A : Type 0} → (List ℕ → A) → List ℕ → ℕ → ℕ → List A
each_slot rule image k zero = []
each_slot rule image k (suc n) = rule (slot_at image k) ∷ each_slot rule image (suc k) n

-- the mended slots, one after another
abbrev pub mended_image : List ℕ → List ℕ
mended_image image = flatten (each_slot mended_slot image 0 16)

-- what is said of the sixteen slots
abbrev pub told_of : List ℕ → List MendedSlot
told_of image = each_slot told image 0 16

-- sixteen times sound, 0
abbrev pub all_sound : List MendedSlot
all_sound = replicate 16 unaltered

-- ---- what is answered

-- a refusal's number, or what is said of each of the sixteen slots
pub data Said : Type 0 where
  refused : ℕ → Said
  mended : List MendedSlot → Said

-- each case of the answer
abbrev pub said : Result (List MendedSlot) Refused → Said
said (Err r) = refused (number_of r)
said (Ok slots) = mended slots

-- ---- the call

-- what is answered, and the bytes of the image when the call ends
pub record Outcome : Type 0 where
  pub answer : Said
  pub image : List ℕ

-- A refusal answers its number alone and alters no lent byte
abbrev pub refusing : List ℕ → ℕ → Outcome
refusing image number = record { answer = refused number; image = image }

-- Refusals: 1 only
abbrev pub mend_refusals : List ℕ → List Refusal
mend_refusals image = wrong_length image ∷ []

-- an image of 4096 bytes is mended slot by slot
abbrev pub granted : List ℕ → Outcome
granted image = record { answer = mended (told_of image); image = mended_image image }

unfoldable pub salvaged : List ℕ → Outcome
salvaged image = unless_refused (mend_refusals image) (refusing image) (granted image)

-- what `mend` promises: the answer, and the bytes of the image when it ends
abbrev pub Mending : List ℕ → Result (List MendedSlot) Refused → List ℕ → Type 0
Mending before r after = record { answer = said r; image = after } ≡ salvaged before
