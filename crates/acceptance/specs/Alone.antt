-- One feed by condition B's rule, as if the other fifteen didn't exist: its samples are a history, with no ring and no byte but for the start.
use Rattle.std.specs.Prelude.{cond, List, [], ◌∷◌, ℕ}
use Rattle.refusals.specs.Refusals.{unless_refused}
use Rattle.sampling.specs.Tags.{no_nominal, no_rate}
use Rattle.feed.specs.Answers.{Said, refused, done}
use Rattle.feed.specs.History.{History, opening, told}
use Rattle.feed.specs.Ring.{history_of}
use Rattle.bank.specs.Slot.{feed_in}
use Rattle.bank.specs.Damage.{is_free, is_damaged}
use Rattle.acceptance.specs.Runs.{Ask, opens, samples, closes, sample_by}

-- a feed is damaged, free, or open with the samples that it has taken since its latest opening
pub data State : Type 0 where
  damaged : State
  free : State
  open_with : History → State

-- what a call is answered, and the feed after it
pub record Step : Type 0 where
  pub answer : Said
  pub next : State

-- a refused call changes nothing
abbrev pub refusing : State → ℕ → Step
refusing state number = record { answer = refused number; next = state }

-- a damaged feed refuses every call with 3; a free one is opened, with no sample yet; an open one takes samples by condition B's rule until it is
-- closed
unfoldable pub stepped : Ask → State → Step
stepped ask damaged = refusing damaged 3
stepped (opens nominal rate soc) free =
    unless_refused (no_nominal nominal ∷ no_rate nominal rate ∷ []) (refusing free)
    (record { answer = done; next = open_with (opening nominal rate soc) })
stepped (samples a b c) free = refusing free 5
stepped closes free = refusing free 5
stepped (opens nominal rate soc) (open_with h) = refusing (open_with h) 4
stepped (samples a b c) (open_with h) = record { answer = (told h (sample_by a b c)).answer; next = open_with (told h (sample_by a b c)).history }
stepped closes (open_with h) = record { answer = done; next = free }

-- what a feed is answered, call after call
unfoldable pub answers_alone : State → List Ask → List Said
answers_alone state [] = []
answers_alone state (ask ∷ asks) = (stepped ask state).answer ∷ answers_alone (stepped ask state).next asks

-- how the bytes of a slot stand at the start: the samples held there are the feed's
unfoldable pub start_of : List ℕ → State
start_of slot = cond (is_damaged slot) damaged (cond (is_free slot) free (open_with (history_of (feed_in slot))))
