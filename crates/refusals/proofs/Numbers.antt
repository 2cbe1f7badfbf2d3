-- Each refusal has a number of its own, so an answer is found again from its number. Assumes nothing.
use mathlib.Core.Path.{◌≡◌, refl, sym, ap, ◌∙◌}
use Prim.Native.Nat.{ℕ}
use Rattle.std.specs.Prelude.{Result, Ok, Err, List, [], ◌∷◌, ◌-◌, slice_index_or}
use Rattle.refusals.specs.declared.Refused.{Refused}
use Rattle.refusals.specs.declared.Refused.TheVariants.{BankLength, NoSlot, Damaged, AlreadyOpen, NotOpen, Nominal, Rate, EndOfTime, NoReference, Class, Test, Mark, Version, HeaderCut, SampleCut, RunsDiffer, OffCentre, FrameLength, Sync, SizeField, Checksum, IdCode, Stat, Tag, TimeBase}
use Rattle.refusals.specs.Refusals.{number_of, by_number}

-- the refusals from number 1 to number 24, in turn
abbrev in_turn : List Refused
in_turn =
    BankLength ∷ NoSlot ∷ Damaged ∷ AlreadyOpen ∷ NotOpen ∷ Nominal ∷ Rate ∷ EndOfTime ∷ NoReference ∷ Class ∷ Test ∷ Mark
    ∷ Version ∷ HeaderCut ∷ SampleCut ∷ RunsDiffer ∷ OffCentre ∷ FrameLength ∷ Sync ∷ SizeField ∷ Checksum ∷ IdCode ∷ Stat ∷ Tag ∷ []

-- the refusal of a number; of one that is not in turn, the last
abbrev pub refused_of : ℕ → Refused
refused_of n = slice_index_or in_turn (n - 1) TimeBase

pub again : (r : Refused) → refused_of (number_of r) ≡ r
again BankLength = refl
again NoSlot = refl
again Damaged = refl
again AlreadyOpen = refl
again NotOpen = refl
again Nominal = refl
again Rate = refl
again EndOfTime = refl
again NoReference = refl
again Class = refl
again Test = refl
again Mark = refl
again Version = refl
again HeaderCut = refl
again SampleCut = refl
again RunsDiffer = refl
again OffCentre = refl
again FrameLength = refl
again Sync = refl
again SizeField = refl
again Checksum = refl
again IdCode = refl
again Stat = refl
again Tag = refl
again TimeBase = refl

pub number_of_injective : (r q : Refused) → number_of r ≡ number_of q → r ≡ q
number_of_injective r q e = sym (again r) ∙ ap refused_of e ∙ again q

-- the answer of which this is the one by number
abbrev answer_of : {A : Type 0} → Result A ℕ → Result A Refused
answer_of (Ok a) = Ok a
answer_of (Err n) = Err (refused_of n)

answer_again : {A : Type 0} (r : Result A Refused) → answer_of (by_number r) ≡ r
answer_again (Ok a) = refl
answer_again (Err r) = ap Err (again r)

pub by_number_injective : {A : Type 0} (r q : Result A Refused) → by_number r ≡ by_number q → r ≡ q
by_number_injective r q e = sym (answer_again r) ∙ ap answer_of e ∙ answer_again q
