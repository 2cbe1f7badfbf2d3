-- Document 01, "PHS files and the listing", with CR 2: the header of a file, and its refusals in their order.
use Rattle.std.specs.Prelude.{Result, Ok, Err, ◌≡◌, Bool, cond, not, ◌&&◌, ◌||◌, List, [], ◌∷◌, ℕ, eqb, ltb, length, get_or}
use Rattle.refusals.specs.Refusals.{Refusal, unless_refused, number_of}
use Rattle.sampling.specs.Tags.{kept_rate, no_nominal, no_rate}
use Rattle.bits.specs.Bits.{be16, be32}
use Rattle.header.specs.declared.Header.{Header}
use Rattle.refusals.specs.declared.Refused.{Refused}

-- ---- Header, 11 bytes: "PHS", version (16 bits, 1 or 2), nominal, rate, SOC (32 bits), big-endian

-- bytes 0 to 2 are "PHS"
unfoldable pub is_mark : List ℕ → Bool
is_mark h = eqb (get_or h 0 0) 80 && eqb (get_or h 1 0) 72 && eqb (get_or h 2 0) 83

-- bytes 3 and 4
unfoldable pub version_in : List ℕ → ℕ
version_in h = be16 (get_or h 3 0) (get_or h 4 0)

-- byte 5
abbrev pub nominal_in : List ℕ → ℕ
nominal_in h = get_or h 5 0

-- byte 6
abbrev pub rate_in : List ℕ → ℕ
rate_in h = get_or h 6 0

-- bytes 7 to 10
unfoldable pub soc_in : List ℕ → ℕ
soc_in h = be32 (get_or h 7 0) (get_or h 8 0) (get_or h 9 0) (get_or h 10 0)

-- ---- the refusals

-- 14: fewer than 11 header bytes
abbrev pub too_short : List ℕ → Refusal
too_short h = record { number = 14; due = ltb (length h) 11 }

-- 12: mark not PHS
abbrev pub no_mark : List ℕ → Refusal
no_mark h = record { number = 12; due = not (is_mark h) }

-- CR 2: versions 1 and 2 are read
abbrev pub served_version : ℕ → Bool
served_version version = eqb version 1 || eqb version 2

-- CR 2: 13 is for versions other than 1 and 2
abbrev pub no_version : List ℕ → Refusal
no_version h = record { number = 13; due = not (served_version (version_in h)) }

-- header 14, 12, 13, 6, 7
abbrev pub header_refusals : List ℕ → List Refusal
header_refusals h = too_short h ∷ no_mark h ∷ no_version h ∷ no_nominal (nominal_in h) ∷ no_rate (nominal_in h) (rate_in h) ∷ []

-- ---- what a header says

-- its refusal, or the version and what it opens a feed with
pub data Said : Type 0 where
  refused : (number : ℕ) → Said
  opens : (version nominal rate soc : ℕ) → Said

-- each case of the answer
abbrev pub said : Result Header Refused → Said
said (Err r) = refused (number_of r)
said (Ok h) = opens h.version h.nominal h.rate h.soc

-- CR 2: version 1 files with rate 0 were recorded under the old meaning, so the file reader passes 10 itself; version 2 files take the new
-- meaning, which is that of an opening
unfoldable pub meant_rate : (version nominal rate : ℕ) → ℕ
meant_rate version nominal rate = cond (eqb version 1 && eqb rate 0) 10 (kept_rate nominal rate)

-- what it opens a feed with; the rate is the one kept
abbrev pub opening_in : List ℕ → Said
opening_in h = opens (version_in h) (nominal_in h) (meant_rate (version_in h) (nominal_in h) (rate_in h)) (soc_in h)

-- a header that is not refused opens a feed
unfoldable pub headed : List ℕ → Said
headed h = unless_refused (header_refusals h) refused (opening_in h)

-- what `read_header` promises
abbrev pub Heading : List ℕ → Result Header Refused → Type 0
Heading h r = said r ≡ headed h
