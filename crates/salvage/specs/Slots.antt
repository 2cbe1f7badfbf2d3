-- Document 02, CR 3 with CR 6: what becomes of a slot, and what is said of it.
use Rattle.std.specs.Prelude.{Option, Some, None, Bool, cond, not, List, ◌++◌, ℕ, ◌+◌, ◌-◌, ◌*◌, ◌==◌, eqb, codes, count_by, take}
use Rattle.std.specs.List.{zip}
use Rattle.feed.specs.Places.{zeros}
use Rattle.bank.specs.declared.damage.Damage.{Damage}
use Rattle.bank.specs.declared.damage.Damage.TheVariants.{Stray, Other}
use Rattle.bank.specs.Slot.{head_in, free_slot, worked_out_in}
use Rattle.bank.specs.Damage.{damage_of}
use Rattle.salvage.specs.declared.Fate.{Fate}
use Rattle.salvage.specs.declared.Fate.TheVariants.{Sound, Trimmed, Closed}
use Rattle.salvage.specs.declared.MendedSlot.{MendedSlot}

-- how many bytes stand before the unfilled places of an open slot: its numbers and its filled places
abbrev pub filled_to : List ℕ → ℕ
filled_to s = 11 + 6 * (head_in s).held

-- an open slot with zeros after its filled places: its unfilled places and its bytes after byte 211 are set to zero, and so, until they are worked
-- out, are its angles and flags
unfoldable pub trimmed : List ℕ → List ℕ
trimmed s = take (filled_to s) s ++ zeros (256 - filled_to s)

-- the bytes that a slot so damaged is left with: an open slot that only stray bytes or flags over 1 damage is trimmed, any other damaged slot is
-- closed; and the three angles of every open slot that is not closed are worked out (CR 6)
unfoldable pub left_by : Option Damage → List ℕ → List ℕ
left_by None s = worked_out_in s
left_by (Some Stray) s = worked_out_in (trimmed s)
left_by (Some Other) s = free_slot

-- a slot as salvage leaves it
unfoldable pub mended_slot : List ℕ → List ℕ
mended_slot s = left_by (damage_of s) s

-- how many bytes differ
unfoldable pub differing : List ℕ → List ℕ → ℕ
differing before after = count_by (λ (b, a). not (b == a)) (zip before after)

-- Sound slots stay; one that is not damaged, and that working out its angles alters, is called trimmed (CR 6)
abbrev pub fate_by : Option Damage → (altered : Bool) → Fate
fate_by None altered = cond altered Trimmed Sound
fate_by (Some Stray) altered = Trimmed
fate_by (Some Other) altered = Closed

abbrev pub fate_of : List ℕ → Fate
fate_of s = fate_by (damage_of s) (not (eqb (differing s (mended_slot s)) 0))

-- the word for what becomes of a slot
abbrev pub word_of : Fate → List ℕ
word_of Sound = codes "sound"
word_of Trimmed = codes "trimmed"
word_of Closed = codes "closed"

-- sound, 0
abbrev pub unaltered : MendedSlot
unaltered = record { fate = Sound; differing = 0 }

-- For each slot it says sound, trimmed or closed, and how many of its bytes differ from before
unfoldable pub told : List ℕ → MendedSlot
told s = record { fate = fate_of s; differing = differing s (mended_slot s) }
