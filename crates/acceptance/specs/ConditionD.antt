-- Condition D: "Devices send their reports as C37.118.2 data frames; the bench is to read those." Document 02, CR 4, in its words.
-- Each statement is over the relation that the contract of `read_frame` cites; its refusals and their order are condition A's.
use Rattle.std.specs.Prelude.{◌≡◌, true, Option, Result, List, [], ◌∷◌, ◌++◌, ℕ, ◌+◌, ◌*◌, ◌^◌, ◌≤◌, ◌<◌, ℤ, pos, neg_ℤ, get_or, set}
use Rattle.refusals.specs.declared.Refused.{Refused}
use Rattle.bits.specs.Bits.{bytes16, bytes32, bits16}
use Rattle.sampling.specs.Tags.{served_nominal, served_rate}
use Rattle.verdict.specs.declared.errors.Device.{Device}
use Rattle.verdict.specs.declared.errors.Reference.{Reference}
use Rattle.verdict.specs.declared.judging.Verdict.{Verdict}
use Rattle.verdict.specs.Judging.{Judging}
use Rattle.frames.specs.declared.bench.Configured.{Configured}
use Rattle.frames.specs.declared.bench.Tag.{Tag}
use Rattle.frames.specs.declared.Frame.{Frame}
use Rattle.frames.specs.Checksum.{checksum}
use Rattle.frames.specs.Fields.{device_in}
use Rattle.frames.specs.Tags.{agrees}
use Rattle.frames.specs.Reading.{refused, figures, said, reading, Reading}
use Rattle.phs.specs.Cut.{Bytes}
use Rattle.acceptance.specs.Runs.{I16}

-- ---- what a device sends

-- the fields of a frame but for sync, size and checksum, each of its own bits; STAT's two top bits are zero
pub record Sent : Type 0 where
  pub id : ℕ
  pub soc : ℕ
  pub quality : ℕ
  pub fracsec : ℕ
  pub stat : ℕ
  pub re : I16
  pub im : I16
  pub freq : I16
  pub dfreq : I16
  pub id_range : id < 2 ^ 16
  pub soc_range : soc < 2 ^ 32
  pub quality_range : quality < 2 ^ 8
  pub fracsec_range : fracsec < 2 ^ 24
  pub stat_range : stat < 2 ^ 14

-- sync AA 01, frame size, ID code, SOC, FRACSEC, STAT, phasor, FREQ, DFREQ, big-endian
abbrev pub bytes_before : Sent → List ℕ
bytes_before s =
    170 ∷ 1 ∷ 0 ∷ 26 ∷ (bytes16 s.id ++ (bytes32 s.soc ++ (bytes32 (s.quality * 2 ^ 24 + s.fracsec) ++ (bytes16 s.stat
    ++ (bytes16 (bits16 s.re.number) ++ (bytes16 (bits16 s.im.number) ++ (bytes16 (bits16 s.freq.number) ++ bytes16 (bits16 s.dfreq.number))))))))

-- and the checksum over all before it
abbrev pub frame_of : Sent → List ℕ
frame_of s = bytes_before s ++ bytes16 (checksum (bytes_before s))

-- its four figures
abbrev pub figures_of : Sent → Device
figures_of s = record { re = s.re.number; im = s.im.number; deviation = s.freq.number; rocof = s.dfreq.number }

-- the bench is configured for the device, and expects its tag: SOC is equal, so s never agrees with s + 1, and FRACSEC × rate differs
-- from frame × TIME_BASE by less than rate, either way
pub record Expected (s : Sent) (configured : Configured) (tag : Tag) : Type 0 where
  pub nominal : served_nominal configured.nominal ≡ true
  pub rate : served_rate configured.nominal configured.rate ≡ true
  pub time_base_from : 1 ≤ configured.time_base
  pub time_base_to : configured.time_base ≤ 16777215
  pub id : s.id ≡ configured.id
  pub soc : s.soc ≡ tag.soc
  pub not_late : s.fracsec * configured.rate < tag.frame * configured.time_base + configured.rate
  pub not_early : tag.frame * configured.time_base < s.fracsec * configured.rate + configured.rate

-- ---- what the bench reads

-- a frame is accepted: the contract admits an answer that says figures and, aside, a time quality
pub record Accepted (frame : List ℕ) (configured : Configured) (tag : Tag) : Type 0 where
  pub answer : Result Frame Refused
  pub promised : Reading frame configured tag answer
  pub device : Device
  pub quality : ℕ
  pub says : said answer ≡ figures device quality

-- it is a frame that a device sends to a bench that expects it, and what is read is what was sent
pub record FromDevice (frame : List ℕ) (configured : Configured) (tag : Tag) (device : Device) (quality : ℕ) : Type 0 where
  pub sent : Sent
  pub bytes : frame ≡ frame_of sent
  pub expected : Expected sent configured tag
  pub same_figures : device ≡ figures_of sent
  pub same_quality : quality ≡ sent.quality

-- ---- figures

-- a frame written out: ID 7, SOC 1000, time quality 15, FRACSEC 16667, STAT 0, phasor (10100, -250), FREQ -3, DFREQ 12
abbrev pub one_frame : List ℕ
one_frame =
    170 ∷ 1 ∷ 0 ∷ 26 ∷ 0 ∷ 7 ∷ 0 ∷ 0 ∷ 3 ∷ 232 ∷ 15 ∷ 0 ∷ 65 ∷ 27 ∷ 0 ∷ 0 ∷ 39 ∷ 116 ∷ 255 ∷ 6 ∷ 255 ∷ 253 ∷ 0 ∷ 12 ∷ 131 ∷ 124 ∷ []

-- a bench that expects it: at 60 reports a second TIME_BASE 1000000 doesn't divide evenly
abbrev pub one_bench : Configured
one_bench = record { nominal = 60; rate = 60; id = 7; time_base = 1000000 }

abbrev pub one_tag : Tag
one_tag = record { soc = 1000; frame = 1 }

-- "CRC-CCITT (polynomial 1021, initial FFFF, no final change)": its check value, of the nine digits "123456789", is hexadecimal 29B1
abbrev pub nine_digits : List ℕ
nine_digits = 49 ∷ 50 ∷ 51 ∷ 52 ∷ 53 ∷ 54 ∷ 55 ∷ 56 ∷ 57 ∷ []

pub record ConditionD : Type 0 where
  pub check_value : checksum nine_digits ≡ 10673
  pub one_frame_read : reading one_frame one_bench one_tag
      ≡ figures (record { re = pos 10100; im = neg_ℤ (pos 250); deviation = neg_ℤ (pos 3); rocof = pos 12 }) 15
  -- "7 (rate 0 too)"
  pub rate_0_too : reading one_frame (record { nominal = 60; rate = 0; id = 7; time_base = 1000000 }) one_tag ≡ refused 7
  -- 21 before 22: the ID that is sent is 8, and the checksum is that of 7
  pub checksum_first : reading (set one_frame 5 8) one_bench one_tag ≡ refused 21
  -- "the bench is to read those": whatever a device sends to a bench that expects it is read, its figures as it sent them ..
  pub sent_read : (s : Sent) (configured : Configured) (tag : Tag) → Expected s configured tag
      → (r : Result Frame Refused) → Reading (frame_of s) configured tag r → said r ≡ figures (figures_of s) s.quality
  -- .. and nothing else is accepted
  pub read_sent : (frame : List ℕ) (configured : Configured) (tag : Tag) → Bytes frame → (read : Accepted frame configured tag)
      → FromDevice frame configured tag read.device read.quality
  -- "the frame's four figures go to the verdict as they are": judged, they meet the verdict of the same numbers typed in by hand
  pub typed_or_read : (frame : List ℕ) (configured : Configured) (tag : Tag) (read : Accepted frame configured tag)
      → (typed : Device) → typed ≡ device_in frame → (class test : ℕ) (m : ℤ) (reference : Reference) (r q : Result (Option Verdict) Refused)
      → Judging class test m read.device reference r → Judging class test m typed reference q → r ≡ q
  -- "TIME_BASE 1000, rate 10, frame 10, FRACSEC 1000, equal SOC: agrees"
  pub whole_second : (soc nominal id : ℕ)
      → agrees soc 1000 (record { nominal = nominal; rate = 10; id = id; time_base = 1000 }) (record { soc = soc; frame = 10 }) ≡ true
  -- "A frame whose bytes differ from an accepted one in one bit before the checksum is not accepted": nor where any bits of one byte
  -- differ, the checksum's own among them, whatever bench reads it
  pub one_byte_off : (frame : List ℕ) (configured : Configured) (tag : Tag) → Bytes frame → Accepted frame configured tag
      → (k b : ℕ) → k ≤ 25 → b < 256 → (b ≡ get_or frame k 0 → ⊥)
      → (configured' : Configured) (tag' : Tag) → Accepted (set frame k b) configured' tag' → ⊥
