-- What one byte does, by where the reader stands. Assumes nothing.
use Rattle.std.proofs.Common.{◌≡◌, ℕ, ◌<◌, ◌≤◌, Bool, cond, ltb, List, set, sym, refl, ap, subst, le-ltb, lt-ltb}
use Rattle.phs.proofs.Putting.{nothing}
use Rattle.model.specs.declared.filter.Sample.{Sample}
use Rattle.feed.specs.Places.{sample_of}
use Rattle.bank.specs.Calls.{pushed_at}
use Rattle.phs.specs.declared.Stage.{Stage}
use Rattle.phs.specs.declared.Reader.{Reader}
use Rattle.phs.specs.declared.byte.Step.{Step}
use Rattle.header.specs.Header.{headed}
use Rattle.phs.specs.Stream.{Left, keeping, wordless, sampled, begun, header_byte, sample_byte, after_byte_in, after_byte}
use Rattle.phs.specs.Inside.{Steps}
use Rattle.phs.proofs.Answering.{steps_as}

-- the step, said otherwise
step_is : {n : Left} {line bank line' : List ℕ} {s q : Step} → s ≡ q → Steps n line q bank line' → Steps n line s bank line'
step_is {n} {line} {bank} {line'} e k = subst (λ (x : Step). Steps n line x bank line') (sym e) k

module _ (r : Reader) (bank : List ℕ) (b : ℕ) where
  -- by the stage
  pub byte_at : {s : Stage} {q : Step} {line bank' line' : List ℕ} → r.stage ≡ s → Steps (after_byte_in s r bank b) line q bank' line'
      → Steps (after_byte r bank b) line q bank' line'
  unfolding after_byte
  byte_at e k = steps_as (ap (λ (s : Stage). after_byte_in s r bank b) (sym e)) k

  pub over : {line : List ℕ} → Steps (wordless r bank) line (record { reader = r; written = 0 }) bank line
  over = record { reader = refl; bank = refl; text = nothing }

  -- by whether the header or the sample is whole with this byte
  module _ (n : ℕ) (whole : Left) where
    abbrev byte : Left
    byte = cond (ltb r.held n) (wordless (keeping r b) bank) whole

    more : r.held < n → {q : Step} {line : List ℕ} → q ≡ record { reader = keeping r b; written = 0 } → Steps byte line q bank line
    more l k =
        step_is k (steps_as (sym (ap (λ (t : Bool). cond t (wordless (keeping r b) bank) whole) (lt-ltb r.held n l)))
        (record { reader = refl; bank = refl; text = nothing }))

    ends : n ≤ r.held → {q : Step} {line bank' line' : List ℕ} → Steps whole line q bank' line' → Steps byte line q bank' line'
    ends l w = steps_as (sym (ap (λ (t : Bool). cond t (wordless (keeping r b) bank) whole) (le-ltb r.held n l))) w

  abbrev whole_header : Left
  whole_header = begun bank (headed (set r.kept 10 b))

  pub header_more : r.held < 10 → {q : Step} {line : List ℕ} → q ≡ record { reader = keeping r b; written = 0 } → Steps (header_byte r bank b) line q bank line
  unfolding header_byte
  header_more = more 10 whole_header

  pub header_ends : 10 ≤ r.held → {q : Step} {line bank' line' : List ℕ} → Steps whole_header line q bank' line' → Steps (header_byte r bank b) line q bank' line'
  unfolding header_byte
  header_ends = ends 10 whole_header

  abbrev whole_sample : Sample → Left
  whole_sample s = sampled r.reports r.samples (pushed_at bank 0 s)

  pub sample_more : r.held < 5 → {q : Step} {line : List ℕ} → q ≡ record { reader = keeping r b; written = 0 } → Steps (sample_byte r bank b) line q bank line
  unfolding sample_byte
  sample_more = more 5 (whole_sample (sample_of (set r.kept 5 b)))

  pub sample_ends : 5 ≤ r.held → {s : Sample} → s ≡ sample_of (set r.kept 5 b) → {q : Step} {line bank' line' : List ℕ}
      → Steps (whole_sample s) line q bank' line' → Steps (sample_byte r bank b) line q bank' line'
  unfolding sample_byte
  sample_ends l p w = ends 5 (whole_sample (sample_of (set r.kept 5 b))) l (steps_as (ap whole_sample p) w)
