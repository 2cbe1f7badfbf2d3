-- Document 01, "Refusal numbers", with CR 2 and CR 4: refusals are data, and their order is a list.
use Rattle.std.specs.Prelude.{Bool, cond, List, [], ◌∷◌, ◌++◌, ℕ, codes, Result, Ok, Err}
use Rattle.std.specs.Fmt.{decimal}
use Rattle.refusals.specs.declared.Refused.{Refused}
use Rattle.refusals.specs.declared.Refused.TheVariants.{BankLength, NoSlot, Damaged, AlreadyOpen, NotOpen, Nominal, Rate, EndOfTime, NoReference, Class, Test, Mark, Version, HeaderCut, SampleCut, RunsDiffer, OffCentre, FrameLength, Sync, SizeField, Checksum, IdCode, Stat, Tag, TimeBase}

-- A refusal: its number, and whether it is due
pub record Refusal : Type 0 where
  pub number : ℕ
  pub due : Bool

-- the first refusal of the list that is due is given; where none is, the call is granted
abbrev pub unless_refused : {A : Type 0} → List Refusal → (ℕ → A) → A → A
unless_refused [] refuse grant = grant
unless_refused (r ∷ rs) refuse grant = cond r.due (refuse r.number) (unless_refused rs refuse grant)

-- the number of each refusal that is answered
abbrev pub number_of : Refused → ℕ
number_of BankLength = 1
number_of NoSlot = 2
number_of Damaged = 3
number_of AlreadyOpen = 4
number_of NotOpen = 5
number_of Nominal = 6
number_of Rate = 7
number_of EndOfTime = 8
number_of NoReference = 9
number_of Class = 10
number_of Test = 11
number_of Mark = 12
number_of Version = 13
number_of HeaderCut = 14
number_of SampleCut = 15
number_of RunsDiffer = 16
number_of OffCentre = 17
number_of FrameLength = 18
number_of Sync = 19
number_of SizeField = 20
number_of Checksum = 21
number_of IdCode = 22
number_of Stat = 23
number_of Tag = 24
number_of TimeBase = 36

-- an answer by the number of its refusal
abbrev pub by_number : {A : Type 0} → Result A Refused → Result A ℕ
by_number (Ok a) = Ok a
by_number (Err r) = Err (number_of r)

-- "A refusal prints `refused N`"
abbrev pub refusal_text : Refused → List ℕ
refusal_text r = codes "refused " ++ decimal (number_of r)
