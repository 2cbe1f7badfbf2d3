-- Document 02, CR 4: a C37.118.2 data frame with one phasor, rectangular 16-bit, and no analog or digital words: 26 bytes, big-endian.
use Rattle.std.specs.Prelude.{Bool, not, List, ℕ, ◌+◌, ◌/◌, ◌%◌, eqb, ℤ, get_or, take}
use Rattle.bits.specs.Bits.{be16, be32, signed16}
use Rattle.verdict.specs.declared.errors.Device.{Device}

-- the 16 bits at byte k and the next
abbrev pub word_at : List ℕ → ℕ → ℕ
word_at f k = be16 (get_or f k 0) (get_or f (k + 1) 0)

-- the 32 bits at byte k and the next three
abbrev pub long_at : List ℕ → ℕ → ℕ
long_at f k = be32 (get_or f k 0) (get_or f (k + 1) 0) (get_or f (k + 2) 0) (get_or f (k + 3) 0)

-- sync: bytes 0 and 1
abbrev pub sync_in : List ℕ → ℕ
sync_in f = word_at f 0

-- frame size: bytes 2 and 3
abbrev pub size_in : List ℕ → ℕ
size_in f = word_at f 2

-- ID code: bytes 4 and 5
abbrev pub id_in : List ℕ → ℕ
id_in f = word_at f 4

-- SOC: bytes 6 to 9
abbrev pub soc_in : List ℕ → ℕ
soc_in f = long_at f 6

-- FRACSEC, 32 bits: bytes 10 to 13. The high byte is the time quality, kept aside ..
abbrev pub quality_in : List ℕ → ℕ
quality_in f = get_or f 10 0

-- .. and the low 24 bits count TIME_BASE parts of the second
abbrev pub low24 : ℕ → ℕ
low24 n = n % 16777216

abbrev pub fracsec_in : List ℕ → ℕ
fracsec_in f = low24 (long_at f 10)

-- STAT: bytes 14 and 15
abbrev pub stat_in : List ℕ → ℕ
stat_in f = word_at f 14

-- its two top bits are not both zero
abbrev pub top_bits_set : ℕ → Bool
top_bits_set stat = not (eqb (stat / 16384) 0)

-- a figure, signed
unfoldable pub figure_at : List ℕ → ℕ → ℤ
figure_at f k = signed16 (word_at f k)

-- phasor re and im, FREQ and DFREQ: bytes 16 to 23, as they are
unfoldable pub device_in : List ℕ → Device
device_in f = record { re = figure_at f 16; im = figure_at f 18; deviation = figure_at f 20; rocof = figure_at f 22 }

-- the checksum that is sent: bytes 24 and 25
abbrev pub sent_checksum : List ℕ → ℕ
sent_checksum f = word_at f 24

-- all before it
abbrev pub before_checksum : List ℕ → List ℕ
before_checksum f = take 24 f
