-- Document 02, CR 6: the banks that demand 2 and the last sentence of demand 3 are read for, and why they are: in them every kept angle is true.
use Rattle.std.specs.Prelude.{Result, Ok, List, ℕ, ◌≤◌}
use Rattle.refusals.specs.declared.Refused.{Refused}
use Rattle.feed.specs.Answers.{Said}
use Rattle.bank.specs.Slot.{slot_at, TrueIn}
use Rattle.bank.specs.Calls.{Clearing}
use Rattle.salvage.specs.declared.MendedSlot.{MendedSlot}
use Rattle.acceptance.specs.Runs.{Ask, Call, Promised, Ran}
use Rattle.acceptance.specs.Salvage.{Mends}

-- "banks reached from a cleared one or left by salvage"
pub data Reached : List ℕ → Type 0 where
  -- a cleared bank
  cleared : (bank after : List ℕ) → Clearing bank (Ok tt) after → Reached after
  -- a bank left by salvage
  salvaged : (image after : List ℕ) (slots : List MendedSlot) → Mends image slots after → Reached after
  -- a bank that a run of calls leaves when it starts from a reached one
  run_on : (bank end : List ℕ) (calls : List Call) → Reached bank → Ran bank calls end → Reached end

-- the kept angles of each of the sixteen slots are true
abbrev pub AllTrue : List ℕ → Type 0
AllTrue bank = (k : ℕ) → k ≤ 15 → TrueIn (slot_at bank k)

-- "Opening, pushing and closing keep them true", whatever the bank's length, whatever the answer, and whatever else its bytes are
pub record KeptTrue : Type 0 where
  -- those of a cleared bank are true
  pub cleared_bank : (bank after : List ℕ) → Clearing bank (Ok tt) after → AllTrue after
  -- clearing, opens, pushes and closes keep those of a slot true, whatever the other fifteen keep
  pub clearing : (bank after : List ℕ) (r : Result (Unit {0}) Refused) → Clearing bank r after
      → (k : ℕ) → k ≤ 15 → TrueIn (slot_at bank k) → TrueIn (slot_at after k)
  pub each_call : (bank after : List ℕ) (slot : ℕ) (ask : Ask) (answer : Said) → Promised slot ask bank answer after
      → (k : ℕ) → k ≤ 15 → TrueIn (slot_at bank k) → TrueIn (slot_at after k)
  -- salvage makes them true
  pub salvage : (image after : List ℕ) (slots : List MendedSlot) → Mends image slots after → AllTrue after
  -- so those of every reached bank are
  pub reached : (bank : List ℕ) → Reached bank → AllTrue bank
