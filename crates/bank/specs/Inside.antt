-- What the functions inside ask and promise of a slot's 256 bytes. A reader of the calls' promises needs nothing of this.
use Rattle.std.specs.Prelude.{Result, Ok, Err, ◌≡◌, ◌⊎◌, List, [], ◌∷◌, ◌++◌, ℕ, ◌+◌, ◌*◌, ◌≤◌, length, take, drop}
use Rattle.std.specs.Borrow.{MutBor}
use Rattle.std.specs.Fn.{Once, FnOnceReturnsAtMut}
use Rattle.refusals.specs.declared.Refused.{Refused}
use Rattle.refusals.specs.Refusals.{unless_refused, by_number}
use Rattle.model.specs.declared.filter.Sample.{Sample}
use Rattle.feed.specs.declared.Feed.{Feed}
use Rattle.feed.specs.Places.{place_of}
use Rattle.bank.specs.Slot.{slot_at, with_slot, head_in, head_bytes, kept_bytes}
use Rattle.bank.specs.Calls.{wrong_length, no_slot}

-- what `find` promises: the refusal that is due, 1 or 2, or where the slot begins
pub record Finds (bank : List ℕ) (slot : ℕ) (r : Result ℕ Refused) : Type 0 where
  pub is : by_number r ≡ unless_refused (wrong_length bank ∷ no_slot slot ∷ []) Err (Ok (256 * slot))

-- these bytes are a slot of a bank of 4096 bytes
pub record StandsIn (bank : List ℕ) (slot : ℕ) (s : List ℕ) : Type 0 where
  pub whole : length bank ≡ 4096
  pub named : slot ≤ 15
  pub there : slot_at bank slot ≡ s

-- wherever the bytes before stand, the promise holds of the bank with the bytes after in their place
abbrev pub Lent : (List ℕ → ℕ → List ℕ → Type 0) → List ℕ → List ℕ → Type 0
Lent promise before after = (bank : List ℕ) (slot : ℕ) → StandsIn bank slot before → promise bank slot (with_slot bank slot after)

-- the bytes with a part put over k of them, from byte n on
abbrev pub with_part : ℕ → ℕ → List ℕ → List ℕ → List ℕ
with_part n k part s = take n s ++ (part ++ drop k (drop n s))

-- what `at_slot` promises of a step: a slot that is not found is refused, and nothing changes; else the step is run on the slot's bytes, its answer is
-- given, and what it leaves stands in their place
abbrev pub Steps : {F T : Type 0} → Once F (MutBor (List ℕ) × Unit {0}) (Result T Refused × (MutBor (List ℕ) × Unit {0})) → F → List ℕ → ℕ → Result T Refused → List ℕ → Type 0
Steps g step bank slot r after =
    ((refusal : Refused) × Finds bank slot (Err refusal) × (r ≡ Err refusal) × (after ≡ bank))
    ⊎ ((s : List ℕ) × StandsIn bank slot (slot_at bank slot) × FnOnceReturnsAtMut g step (slot_at bank slot) r s × (after ≡ with_slot bank slot s))

-- an open slot with what a push writes of a sample and the next feed: the numbers, the sample in the next place, and the kept phases
abbrev pub written : List ℕ → Sample → Feed → List ℕ
written s v f = with_part 197 15 (kept_bytes f.kept) (with_part (11 + 6 * (head_in s).place) 6 (place_of v) (head_bytes f.head ++ drop 11 s))
