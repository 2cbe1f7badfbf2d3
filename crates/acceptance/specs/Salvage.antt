-- Document 02, CR 3 with CR 6, in their words: what is promised of an image that is mended. Of an image that is refused condition A says that it stays.
use Rattle.std.specs.Prelude.{◌≡◌, true, false, Result, Ok, List, ℕ, ◌-◌, ◌*◌, ◌≤◌, length, get_or, take, drop}
use Rattle.refusals.specs.declared.Refused.{Refused}
use Rattle.feed.specs.Places.{zeros}
use Rattle.feed.specs.Kept.{phases_of}
use Rattle.feed.specs.Ring.{history_of}
use Rattle.bank.specs.Slot.{slot_at, head_in, places_in, kept_part, kept_bytes, tail_in, feed_in, free_slot, TrueIn}
use Rattle.bank.specs.Damage.{is_damaged, only_stray}
use Rattle.salvage.specs.declared.Fate.TheVariants.{Sound, Trimmed, Closed}
use Rattle.salvage.specs.declared.MendedSlot.{MendedSlot}
use Rattle.salvage.specs.Slots.{differing, unaltered}
use Rattle.salvage.specs.Image.{mended, said, all_sound, Mending}

-- a call that mends: its contract admits this answer and these bytes, and of its slots it says these
pub record Mends (image : List ℕ) (slots : List MendedSlot) (after : List ℕ) : Type 0 where
  pub answer : Result (List MendedSlot) Refused
  pub promised : Mending image answer after
  pub says : said answer ≡ mended slots

-- what is said of slot k
abbrev pub said_at : List MendedSlot → ℕ → MendedSlot
said_at slots k = get_or slots k unaltered

-- a promise of each slot of an image that is mended: of its bytes before, of what is said of it, and of its bytes after
abbrev pub OfEachSlot : (List ℕ → MendedSlot → List ℕ → Type 0) → Type 0
OfEachSlot promise = (image : List ℕ) (slots : List MendedSlot) (after : List ℕ) → Mends image slots after
    → (k : ℕ) → k ≤ 15 → promise (slot_at image k) (said_at slots k) (slot_at after k)

-- an open slot before, and with its unfilled places and the bytes after byte 211 set to zero and its angles worked out from the samples that it
-- holds; its other bytes stay
pub record SetToZero (before after : List ℕ) : Type 0 where
  pub numbers : take 11 after ≡ take 11 before
  pub filled : take (6 * (head_in before).held) (places_in after) ≡ take (6 * (head_in before).held) (places_in before)
  pub unfilled : drop (6 * (head_in before).held) (places_in after) ≡ zeros (186 - 6 * (head_in before).held)
  pub angles : kept_part after ≡ kept_bytes (phases_of (history_of (feed_in before)))
  pub after_211 : tail_in after ≡ zeros 44

-- an open slot before, and with its angles worked out; its other bytes stay
pub record WorkedOut (before after : List ℕ) : Type 0 where
  pub before_197 : take 197 after ≡ take 197 before
  pub angles_worked_out : kept_part after ≡ kept_bytes (phases_of (history_of (feed_in before)))
  pub rest : tail_in after ≡ tail_in before

pub record Salvage : Type 0 where
  -- "mends a 4096-byte image"
  pub whole_mended : (image : List ℕ) (r : Result (List MendedSlot) Refused) (after : List ℕ) → length image ≡ 4096 → Mending image r after
      → (slots : List MendedSlot) × (r ≡ Ok slots) × Mends image slots after
  -- "An open slot damaged only by nonzero bytes in unfilled places or after byte 211 has these set to zero"; one with a flag over 1 is trimmed too:
  -- the angles and flags are worked out
  pub stray_trimmed : OfEachSlot (λ before told after. only_stray before ≡ true → SetToZero before after × (told.fate ≡ Trimmed))
  -- "Any other damaged slot is closed"
  pub others_closed : OfEachSlot (λ before told after.
      is_damaged before ≡ true → only_stray before ≡ false → (after ≡ free_slot) × (told.fate ≡ Closed))
  -- "Sound slots stay": those that are not damaged and have true angles
  pub sound_stay : OfEachSlot (λ before told after. is_damaged before ≡ false → TrueIn before → (after ≡ before) × (told.fate ≡ Sound))
  -- salvage "recomputes all three and calls a slot that this alters trimmed": one that is not damaged and has angles that are not true
  pub untrue_trimmed : OfEachSlot (λ before told after.
      is_damaged before ≡ false → (TrueIn before → ⊥) → WorkedOut before after × (told.fate ≡ Trimmed))
  -- "how many of its bytes differ from before": 0 to 256
  pub counts : OfEachSlot (λ before told after. (told.differing ≡ differing before after) × (told.differing ≤ 256))
  -- "slot by slot": what becomes of a slot, and what is said of it, depends on that slot's bytes alone, wherever they stand
  pub by_itself : (other : List ℕ) (others : List MendedSlot) (last : List ℕ) → Mends other others last → (j : ℕ) → j ≤ 15
      → OfEachSlot (λ before told after. before ≡ slot_at other j → (after ≡ slot_at last j) × (told ≡ said_at others j))
  -- "A mended image has no damaged slot", and its angles are true
  pub none_damaged : OfEachSlot (λ before told after. is_damaged after ≡ false)
  pub all_true : OfEachSlot (λ before told after. TrueIn after)
  -- "and mending it again changes nothing": and it then says sound, 0, sixteen times
  pub again : (image : List ℕ) (slots : List MendedSlot) (after : List ℕ) → Mends image slots after
      → (r : Result (List MendedSlot) Refused) (last : List ℕ) → Mending after r last → (last ≡ after) × (said r ≡ mended all_sound)
