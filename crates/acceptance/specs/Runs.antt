-- Runs of opens, samples and closes on a bank, each call by the relation that its function's contract cites.
use Rattle.std.specs.Prelude.{◌≡◌, cond, Option, Result, List, [], ◌∷◌, ℕ, eqb, ℤ}
use Rattle.std.specs.Int.{w16}
use Rattle.std.proofs.Common.{SFits}
use Rattle.model.specs.declared.filter.Sample.{Sample}
use Rattle.refusals.specs.declared.Refused.{Refused}
use Rattle.feed.specs.declared.Report.{Report}
use Rattle.feed.specs.Answers.{Said, said}
use Rattle.bank.specs.Calls.{settled, Opening, Pushing, Closing}

-- a signed 16-bit number, from -32768 to 32767
pub record I16 : Type 0 where
  pub number : ℤ
  pub range : SFits w16 number

-- what a call asks of the feed that it names: the nominal, the rate and the SOC are any numbers, a sample is of three signed 16-bit numbers
pub data Ask : Type 0 where
  opens : (nominal rate soc : ℕ) → Ask
  samples : (a b c : I16) → Ask
  closes : Ask

-- a call of a run: the slot that it names, any number, what it asks there, and what it is answered
pub record Call : Type 0 where
  pub slot : ℕ
  pub ask : Ask
  pub answer : Said

-- the sample of three signed 16-bit numbers
abbrev pub sample_by : I16 → I16 → I16 → Sample
sample_by a b c = record { a = a.number; b = b.number; c = c.number }

-- the call's function may answer this of the bank before it, and leave the bank after it
abbrev pub Promised : ℕ → Ask → List ℕ → Said → List ℕ → Type 0
Promised slot (opens nominal rate soc) before answer after =
    (r : Result (Unit {0}) Refused) × Opening before slot nominal rate soc r after × (settled r ≡ answer)
Promised slot (samples a b c) before answer after = (r : Result (Option Report) Refused) × Pushing before slot (sample_by a b c) r after × (said r ≡ answer)
Promised slot closes before answer after = (r : Result (Unit {0}) Refused) × Closing before slot r after × (settled r ≡ answer)

-- a run from one bank to another: its calls in their order, each as its function promises
pub data Ran : List ℕ → List Call → List ℕ → Type 0 where
  ends : {bank : List ℕ} → Ran bank [] bank
  goes_on : {bank next end : List ℕ} {c : Call} {cs : List Call}
      → Promised c.slot c.ask bank c.answer next → Ran next cs end → Ran bank (c ∷ cs) end

-- the calls that a feed gets, in their order within it
unfoldable pub asks_of : ℕ → List Call → List Ask
asks_of feed [] = []
asks_of feed (c ∷ cs) = cond (eqb c.slot feed) (c.ask ∷ asks_of feed cs) (asks_of feed cs)

-- what the calls that name a feed are answered, in their order within it
unfoldable pub answers_of : ℕ → List Call → List Said
answers_of feed [] = []
answers_of feed (c ∷ cs) = cond (eqb c.slot feed) (c.answer ∷ answers_of feed cs) (answers_of feed cs)
