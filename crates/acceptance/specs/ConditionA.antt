-- Condition A, the entry points: each call that may be refused, by the relation that its function's contract cites.
-- A file's refusals, 14, 12, 13, 6, 7 and then 8 or 15, are lines of its listing: condition B says of the listing what it is.
use Rattle.std.specs.Prelude.{◌≡◌, true, false, List, ◌∷◌, ℕ, ℤ}
use Rattle.model.specs.declared.filter.Sample.{Sample}
use Rattle.refusals.specs.Refusals.{Refusal}
use Rattle.feed.specs.declared.Feed.{Feed}
use Rattle.feed.specs.Answers.{refused, said}
use Rattle.feed.specs.Ring.{feed_refusals, Pushing as FeedPushing}
use Rattle.runs.specs.Runs.{run_refusals, RunMeasuring, refused as run_refused, said as run_said}
use Rattle.header.specs.Header.{header_refusals, Heading, refused as header_refused, said as header_said}
use Rattle.verdict.specs.declared.errors.Device.{Device}
use Rattle.verdict.specs.declared.errors.Reference.{Reference}
use Rattle.verdict.specs.Judging.{judge_refusals, Judging, refused as verdict_refused, said as verdict_said}
use Rattle.frames.specs.declared.bench.Configured.{Configured}
use Rattle.frames.specs.declared.bench.Tag.{Tag}
use Rattle.frames.specs.Reading.{read_refusals, Reading, refused as frame_refused, said as frame_said}
use Rattle.salvage.specs.Image.{mend_refusals, Mending, refused as salvage_refused, said as salvage_said}
use Rattle.bank.specs.Calls.{settled, clear_refusals, open_refusals, push_refusals, close_refusals, Clearing, Opening, Pushing, Closing}

-- the number of the first refusal of the list whose test holds
pub data FirstDue : ℕ → List Refusal → Type 0 where
  here : {r : Refusal} {rs : List Refusal} → r.due ≡ true → FirstDue r.number (r ∷ rs)
  later : {n : ℕ} {r : Refusal} {rs : List Refusal} → r.due ≡ false → FirstDue n rs → FirstDue n (r ∷ rs)

-- A call that may be refused: `promised` is what its contract says of how the call ends, `saying` what it then answers in document 01's words
pub record Answers {E S : Type 0} (saying : E → S) (refusing : ℕ → S) (list : List Refusal) (promised : E → Type 0) : Type 0 where
  -- "Every call returns on every input": some end is promised whatever the input; that the function ends is part of every contract
  pub returns : (e : E) × promised e
  -- "Bad input meets the refusal that document 01 names, in 01's order": where one is due, the first one's number is answered, and it only
  pub meets : (e : E) (n : ℕ) → promised e → FirstDue n list → saying e ≡ refusing n
  -- "and that refusal is given in no other case"
  pub no_other : (e : E) (n : ℕ) → promised e → saying e ≡ refusing n → FirstDue n list

-- how a call ends that something is lent to: its answer, and what was lent, as the call leaves it
pub record Ended (A B : Type 0) : Type 0 where
  pub answer : A
  pub after : B

-- A call that may be refused and is lent `before`; `promised` is what its contract says of the answer and of what was lent
pub record Refuses {A B S : Type 0} (saying : A → S) (refusing : ℕ → S) (list : List Refusal) (before : B) (promised : A → B → Type 0) : Type 0 where
  pub answers : Answers {E = Ended A B} (λ e. saying e.answer) refusing list (λ e. promised e.answer e.after)
  -- "A refused call answers its number only and alters no byte lent to it"
  pub alters_nothing : (r : A) (after : B) (n : ℕ) → promised r after → saying r ≡ refusing n → after ≡ before

-- demand 1, of each call: the clause above each is the order of refusals of document 01, or of the request
pub record ConditionA : Type 0 where
  -- clear 1
  pub clearing : (bank : List ℕ) → Refuses settled refused (clear_refusals bank) bank (Clearing bank)
  -- open 1, 2, 3, 4, 6, 7
  pub opening : (bank : List ℕ) (slot nominal rate soc : ℕ)
      → Refuses settled refused (open_refusals bank slot nominal rate) bank (Opening bank slot nominal rate soc)
  -- push 1, 2, 3, 5, 8
  pub pushing : (bank : List ℕ) (slot : ℕ) (s : Sample) → Refuses said refused (push_refusals bank slot) bank (Pushing bank slot s)
  -- close 1, 2, 3, 5
  pub closing : (bank : List ℕ) (slot : ℕ) → Refuses settled refused (close_refusals bank slot) bank (Closing bank slot)
  -- salvage 1
  pub salvaging : (image : List ℕ) → Refuses salvage_said salvage_refused (mend_refusals image) image (Mending image)
  -- a feed by itself, passed through a push as one value: 3, 8; refused, it comes back as it was
  pub feeding : (f : Feed) (s : Sample)
      → Refuses said refused (feed_refusals f.head) f (λ answer next. FeedPushing f s (record { answer = answer; feed = next }))
  -- judging 10, 11, 9
  pub judging : (class test : ℕ) (m : ℤ) (device : Device) (reference : Reference)
      → Answers verdict_said verdict_refused (judge_refusals class test reference) (Judging class test m device reference)
  -- reading 6, 7, 36, 18, 19, 20, 21, 22, 23, 24
  pub reading : (frame : List ℕ) (configured : Configured) (tag : Tag)
      → Answers frame_said frame_refused (read_refusals frame configured tag) (Reading frame configured tag)
  -- whole run 6, 16, 17
  pub measuring : (a b c : List ℤ) (centre nominal : ℕ)
      → Answers run_said run_refused (run_refusals a b c centre nominal) (RunMeasuring a b c centre nominal)
  -- header 14, 12, 13, 6, 7
  pub heading : (header : List ℕ) → Answers header_said header_refused (header_refusals header) (Heading header)
