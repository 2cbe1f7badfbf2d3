-- Document 02, CR 4: the reading of a frame, and its refusals in their order.
use Rattle.std.specs.Prelude.{◌≡◌, Result, Ok, Err, not, ◌||◌, List, [], ◌∷◌, ℕ, eqb, ltb, length}
use Rattle.refusals.specs.declared.Refused.{Refused}
use Rattle.refusals.specs.Refusals.{Refusal, unless_refused, number_of}
use Rattle.sampling.specs.Tags.{served_rate, no_nominal}
use Rattle.verdict.specs.declared.errors.Device.{Device}
use Rattle.frames.specs.Checksum.{checksum}
use Rattle.frames.specs.Fields.{sync_in, size_in, id_in, soc_in, quality_in, fracsec_in, stat_in, top_bits_set, device_in, sent_checksum, before_checksum}
use Rattle.frames.specs.Tags.{agrees}
use Rattle.frames.specs.declared.bench.Configured.{Configured}
use Rattle.frames.specs.declared.bench.Tag.{Tag}
use Rattle.frames.specs.declared.Frame.{Frame}

-- ---- the refusals; 6 is `sampling/no_nominal`

-- 7: rate not served, 0 too
abbrev pub no_rate : Configured → Refusal
no_rate configured = record { number = 7; due = not (served_rate configured.nominal configured.rate) }

-- 36: TIME_BASE 0 or over 16777215
abbrev pub no_time_base : ℕ → Refusal
no_time_base time_base = record { number = 36; due = eqb time_base 0 || ltb 16777215 time_base }

-- 18: length not 26
abbrev pub wrong_length : List ℕ → Refusal
wrong_length f = record { number = 18; due = not (eqb (length f) 26) }

-- 19: sync not AA 01
abbrev pub wrong_sync : List ℕ → Refusal
wrong_sync f = record { number = 19; due = not (eqb (sync_in f) 43521) }

-- 20: size field not 26
abbrev pub wrong_size : List ℕ → Refusal
wrong_size f = record { number = 20; due = not (eqb (size_in f) 26) }

-- 21: the checksum that is sent is not that of all before it
abbrev pub wrong_checksum : List ℕ → Refusal
wrong_checksum f = record { number = 21; due = not (eqb (sent_checksum f) (checksum (before_checksum f))) }

-- 22: ID not the one configured
abbrev pub wrong_id : List ℕ → ℕ → Refusal
wrong_id f id = record { number = 22; due = not (eqb (id_in f) id) }

-- 23: STAT's two top bits not both zero
abbrev pub bad_stat : List ℕ → Refusal
bad_stat f = record { number = 23; due = top_bits_set (stat_in f) }

-- 24: the tag doesn't agree
abbrev pub wrong_tag : List ℕ → Configured → Tag → Refusal
wrong_tag f configured tag = record { number = 24; due = not (agrees (soc_in f) (fracsec_in f) configured tag) }

-- reading 6, 7, 36, 18, 19, 20, 21, 22, 23, 24
abbrev pub read_refusals : List ℕ → Configured → Tag → List Refusal
read_refusals f configured tag =
    no_nominal configured.nominal ∷ no_rate configured ∷ no_time_base configured.time_base
    ∷ wrong_length f ∷ wrong_sync f ∷ wrong_size f ∷ wrong_checksum f
    ∷ wrong_id f configured.id ∷ bad_stat f ∷ wrong_tag f configured tag ∷ []

-- ---- what a reading says

-- its refusal's number alone, or the four figures and, aside, the time quality
pub data Said : Type 0 where
  refused : (number : ℕ) → Said
  figures : (device : Device) (quality : ℕ) → Said

-- each case of the answer
abbrev pub said : Result Frame Refused → Said
said (Err r) = refused (number_of r)
said (Ok f) = figures f.device f.quality

-- the frame's four figures as they are, and its time quality
abbrev pub figures_in : List ℕ → Said
figures_in f = figures (device_in f) (quality_in f)

-- a frame that is not refused is read
unfoldable pub reading : List ℕ → Configured → Tag → Said
reading f configured tag = unless_refused (read_refusals f configured tag) refused (figures_in f)

-- what `read_frame` promises
abbrev pub Reading : List ℕ → Configured → Tag → Result Frame Refused → Type 0
Reading f configured tag r = said r ≡ reading f configured tag
