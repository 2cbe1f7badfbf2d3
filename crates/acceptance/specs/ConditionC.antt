-- Condition C, the order of work.
use Rattle.std.specs.Prelude.{◌≡◌, List, ℕ, ◌≤◌, ◌<◌, length}
use Rattle.feed.specs.Answers.{Said, refused}
use Rattle.bank.specs.Slot.{slot_at}
use Rattle.acceptance.specs.Runs.{I16, Ask, samples, Call, Promised, Ran, asks_of, answers_of}
use Rattle.acceptance.specs.Reached.{Reached}
use Rattle.acceptance.specs.Alone.{start_of, answers_alone}

-- "Take two runs of opens, samples and closes that start from the same bank bytes, of the proper length, with no clearing among them"
pub record TwoRuns (bank : List ℕ) (one : List Call) (end_one : List ℕ) (two : List Call) (end_two : List ℕ) : Type 0 where
  pub proper_length : length bank ≡ 4096
  pub first_ran : Ran bank one end_one
  pub second_ran : Ran bank two end_two
  -- "each feed gets the same calls in the same order within itself in both"
  pub same_within : (feed : ℕ) → feed ≤ 15 → asks_of feed one ≡ asks_of feed two

-- demand 3
pub record ConditionC : Type 0 where
  -- "the same calls": samples of the same three numbers are the same call
  pub same_call : (a b c a' b' c' : I16) → a.number ≡ a'.number → b.number ≡ b'.number → c.number ≡ c'.number
      → samples a b c ≡ samples a' b' c'
  -- "every call that names a feed answers the same in both"
  pub whoever_comes_first : (bank end_one end_two : List ℕ) (one two : List Call) → TwoRuns bank one end_one two end_two
      → (feed : ℕ) → feed ≤ 15 → answers_of feed one ≡ answers_of feed two
  -- "and the banks end equal byte for byte"
  pub equal_banks : (bank end_one end_two : List ℕ) (one two : List Call) → TwoRuns bank one end_one two end_two → end_one ≡ end_two
  -- "calls naming no feed are refused and change nothing": any call of a run, `calls` being those before it
  pub no_feed : (bank between after : List ℕ) (calls : List Call) (slot : ℕ) (ask : Ask) (answer : Said)
      → length bank ≡ 4096 → Ran bank calls between → 15 < slot → Promised slot ask between answer after → (answer ≡ refused 2) × (after ≡ between)
  -- "In each run a feed's reports are those that condition B's rule gives for the samples it has taken since its latest opening,
  -- those held at the start included until it is closed, as if the other fifteen didn't exist": all that a feed is answered,
  -- its reports among it. It is read for reached banks (CR 6)
  pub as_the_rule_gives : (bank end : List ℕ) (calls : List Call) → Reached bank → length bank ≡ 4096 → Ran bank calls end
      → (feed : ℕ) → feed ≤ 15 → answers_of feed calls ≡ answers_alone (start_of (slot_at bank feed)) (asks_of feed calls)
