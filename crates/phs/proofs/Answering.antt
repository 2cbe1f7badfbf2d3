-- What a whole sample or a whole header leads to, by the answer of the bank's call. Assumes nothing.
use Rattle.std.proofs.Common.{◌≡◌, ℕ, ◌+◌, ◌%◌, ◌^◌, ◌<◌, Bool, true, false, cond, not, eqb, List, length, Result, Ok, Err, sym, refl, ap, ◌∙◌, subst, arith}
use Rattle.text.specs.Put.{Leads}
use Rattle.phs.proofs.Putting.{nothing}
use Rattle.refusals.specs.declared.Refused.{Refused}
use Rattle.refusals.specs.Refusals.{number_of}
use Rattle.feed.specs.declared.Report.{Report}
use Rattle.feed.specs.Answers.{Said, refused, done, said_report, taken, taken_with}
use Rattle.feed.specs.Places.{zeros}
use Rattle.bank.specs.Calls.{Outcome, Clearing, settled, refusing, cleared, opened_at}
use Rattle.phs.specs.declared.Stage.TheVariants.{InSamples, Over}
use Rattle.phs.specs.declared.feeding.Counts.{Counts}
use Rattle.phs.specs.declared.byte.Step.{Step}
use Rattle.phs.specs.Lines.{head_line, report_line, refused_line, line_room}
use Rattle.phs.specs.Stream.{Left, reader_at, sampled, opened_in, opened_as}
use Rattle.phs.specs.Inside.{step_of, Steps, Ends, Settles}

pub steps_as : {n m : Left} {line bank line' : List ℕ} {s : Step} → m ≡ n → Steps m line s bank line' → Steps n line s bank line'
steps_as {line = line} {bank = bank} {line' = line'} {s = s} e k = subst (λ (x : Left). Steps x line s bank line') e k

-- ---- a sample

-- a count that nothing is added to
uncounted : (n : ℕ) → n < 2 ^ 64 → (n + 0) % 2 ^ 64 ≡ n
uncounted n l = omega arith

module _ (c : Counts) {o : Outcome} {bank : List ℕ} where
  pub sample_refused : (r : Refused) → c.reports < 2 ^ 64 → c.samples < 2 ^ 64 → record { answer = refused (number_of r); bank = bank } ≡ o
      → sampled c.reports c.samples o ≡ record { reader = reader_at Over c.reports c.samples; bank = bank; text = refused_line (number_of r) }
  unfolding sampled
  sample_refused r f g e =
      ap (sampled c.reports c.samples) (sym e)
      ∙ (λ i. record { reader = reader_at Over (uncounted c.reports f i) (uncounted c.samples g i); bank = bank; text = refused_line (number_of r) })

  pub sample_taken : {line : List ℕ} → c.reports < 2 ^ 64 → record { answer = taken; bank = bank } ≡ o
      → Steps (sampled c.reports c.samples o) line (step_of (record { reports = c.reports; samples = (c.samples + 1) % 2 ^ 64 }, 0)) bank line
  unfolding sampled
  sample_taken f e =
      steps_as (ap (sampled c.reports c.samples) e)
      (record { reader = λ i. reader_at InSamples (sym (uncounted c.reports f) i) ((c.samples + 1) % 2 ^ 64); bank = refl; text = nothing })

  pub sample_reported : {r : Report} {line line' : List ℕ} {written : ℕ} → record { answer = said_report r; bank = bank } ≡ o
      → Leads line_room (report_line r.soc r.frame r.re r.im r.d1 r.d2 r.mark) line written line'
      → Steps (sampled c.reports c.samples o) line
      (step_of (record { reports = (c.reports + 1) % 2 ^ 64; samples = (c.samples + 1) % 2 ^ 64 }, written)) bank line'
  unfolding sampled
  sample_reported e w = steps_as (ap (sampled c.reports c.samples) e) (record { reader = refl; bank = refl; text = w })

-- ---- a header

abbrev is_done : Said → ℕ
is_done (refused number) = 0
is_done done = 1
is_done taken = 0
is_done (taken_with soc frame re im d1 d2 mark re_peak im_peak deviation rocof) = 0

-- a bank that can't be cleared can't be opened
pub not_cleared : (bank : List ℕ) (nominal rate soc : ℕ) (r : Refused) {bank' : List ℕ} → Clearing bank (Err r) bank'
    → ◌≡◌ {A = Outcome} (record { answer = refused (number_of r); bank = bank' }) (opened_in bank nominal rate soc)
unfolding cleared opened_at
not_cleared bank nominal rate soc r {bank'} e = go (not (eqb (length bank) 4096)) refl e
  where
    go : (t : Bool) → not (eqb (length bank) 4096) ≡ t
        → record { answer = refused (number_of r); bank = bank' } ≡ cond t (refusing bank 1) (record { answer = done; bank = zeros 4096 })
        → ◌≡◌ {A = Outcome} (record { answer = refused (number_of r); bank = bank' }) (opened_in bank nominal rate soc)
    go true q f = rw (q, q) f
    go false q f = absurd (let z : ◌≡◌ {A = ℕ} 0 1 = ap (λ (o : Outcome). is_done o.answer) f in omega arith)

module _ (version nominal rate : ℕ) {bank : List ℕ} {o : Outcome} where
  pub header_unopened : (r : Refused) → record { answer = refused (number_of r); bank = bank } ≡ o
      → opened_as version nominal rate o ≡ record { reader = reader_at Over 0 0; bank = bank; text = refused_line (number_of r) }
  header_unopened r e = ap (opened_as version nominal rate) (sym e)

  pub header_opened : {line line' : List ℕ} {written : ℕ} → record { answer = settled (Ok tt); bank = bank } ≡ o
      → Leads line_room (head_line version nominal rate) line written line'
      → Steps (opened_as version nominal rate o) line (step_of (record { reports = 0; samples = 0 }, written)) bank line'
  header_opened e w = steps_as (ap (opened_as version nominal rate) e) (record { reader = refl; bank = refl; text = w })

-- ---- the step after either

pub settles : {n : Left} (c : Counts) (ended : Result (Counts × ℕ) Refused) {line : List ℕ} (mid : List ℕ) {line' bank : List ℕ} {s : Step}
    → Ends n c line ended bank mid → Settles c ended mid s line' → Steps n line s bank line'
settles {n} c (Ok next) {line} mid {line'} {bank} {s} l k =
    subst (λ (o : List ℕ). Steps n line s bank o) (sym k.1) (subst (λ (x : Step). Steps n line x bank mid) (sym k.0) l)
settles c (Err r) {line} mid {line'} {bank} {s} l k =
    steps_as (sym l.0) (record {
      reader = k.0;
      bank = refl;
      text = subst (λ (o : List ℕ). Leads line_room (refused_line (number_of r)) o s.written line') l.1 k.1;
    })
