-- What the functions inside the crate promise one another, as they read a part. No part of any promise of the crate.
use Rattle.std.specs.Prelude.{◌≡◌, ℕ, ◌-◌, ◌≤◌, Bool, false, ◌&&◌, List, length, take, drop, ◌==◌, nat_le, Result, Ok, Err}
use Rattle.text.specs.Put.{Leads}
use Rattle.refusals.specs.declared.Refused.{Refused}
use Rattle.refusals.specs.Refusals.{number_of}
use Rattle.phs.specs.declared.Stage.{Stage}
use Rattle.phs.specs.declared.Stage.TheVariants.{InHeader, InSamples, Over}
use Rattle.phs.specs.declared.Reader.{Reader}
use Rattle.phs.specs.declared.feeding.Counts.{Counts}
use Rattle.phs.specs.declared.byte.Step.{Step}
use Rattle.phs.specs.Lines.{refused_line, line_room}
use Rattle.phs.specs.Stream.{Left, reader_at, Fed, onto, fed}

-- a step leaves this: its text is written at the start of the line
pub record Steps (n : Left) (line : List ℕ) (s : Step) (bank' line' : List ℕ) : Type 0 where
  pub reader : s.reader ≡ n.reader
  pub bank : bank' ≡ n.bank
  pub text : Leads line_room n.text line s.written line'

-- the step after a whole header or sample that is not refused, by the counts and the length of its text: the reader keeps no byte
abbrev pub step_of : Counts × ℕ → Step
step_of (c, written) = record { reader = reader_at InSamples c.reports c.samples; written = written }

-- a whole header or sample ends with this, from the counts c: with the next counts and its text, or with a refusal, of which nothing is written yet
abbrev pub Ends : Left → Counts → List ℕ → Result (Counts × ℕ) Refused → List ℕ → List ℕ → Type 0
Ends n c line (Ok next) bank' line' = Steps n line (step_of next) bank' line'
Ends n c line (Err r) bank' line' =
    (n ≡ record { reader = reader_at Over c.reports c.samples; bank = bank'; text = refused_line (number_of r) }) × (line' ≡ line)

-- the line `refused N` is written, and the listing is over
abbrev pub Refuses : Counts → Refused → List ℕ → Step → List ℕ → Type 0
Refuses c r line s line' = (s.reader ≡ reader_at Over c.reports c.samples) × Leads line_room (refused_line (number_of r)) line s.written line'

-- the step after a whole header or sample
abbrev pub Settles : Counts → Result (Counts × ℕ) Refused → List ℕ → Step → List ℕ → Type 0
Settles c (Ok next) line s line' = (s ≡ step_of next) × (line' ≡ line)
Settles c (Err r) line s line' = Refuses c r line s line'

-- whether a sample begins here that is whole in what is left
abbrev pub begins_in : Stage → Reader → ℕ → Bool
begins_in InHeader r left = false
begins_in InSamples r left = r.held == 0 && nat_le 6 left
begins_in Over r left = false

-- where a call on a part stands
pub record Place : Type 0 where
  pub reader : Reader
  pub bank : List ℕ
  pub out : List ℕ
  pub read : ℕ
  pub written : ℕ

-- what the call leaves in all, from where it stands
unfoldable pub whole_from : List ℕ → Place → Fed
whole_from part p = onto p.read (take p.written p.out) (fed (length p.out - p.written) p.reader p.bank (drop p.read part))

-- the call goes on from one place to another
pub record Onward (part : List ℕ) (p q : Place) : Type 0 where
  pub same : whole_from part q ≡ whole_from part p
  pub long : length q.out ≡ length p.out
  pub further : p.read ≤ q.read
  pub within : q.read ≤ length part
  pub grown : p.written ≤ q.written
  pub fits : q.written ≤ length q.out
  pub beyond : drop q.written q.out ≡ drop q.written p.out
