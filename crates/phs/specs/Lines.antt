-- Document 01, "PHS files and the listing": the lines of a listing, in decimal.
use Rattle.std.specs.Prelude.{ℕ, List, [], ◌∷◌, ℤ}
use Rattle.text.specs.Text.{line, decimal, signed}

-- the words of the lines, in ASCII: `PHS`
abbrev pub phs_word : List ℕ
phs_word = 80 ∷ 72 ∷ 83 ∷ []

-- `reports`
abbrev pub reports_word : List ℕ
reports_word = 114 ∷ 101 ∷ 112 ∷ 111 ∷ 114 ∷ 116 ∷ 115 ∷ []

-- `samples`
abbrev pub samples_word : List ℕ
samples_word = 115 ∷ 97 ∷ 109 ∷ 112 ∷ 108 ∷ 101 ∷ 115 ∷ []

-- `refused`
abbrev pub refused_word : List ℕ
refused_word = 114 ∷ 101 ∷ 102 ∷ 117 ∷ 115 ∷ 101 ∷ 100 ∷ []

-- `PHS version nominal rate`
unfoldable pub head_line : (version nominal rate : ℕ) → List ℕ
head_line version nominal rate = line (phs_word ∷ decimal version ∷ decimal nominal ∷ decimal rate ∷ [])

-- `SOC frame re im d1 d2 mark`
unfoldable pub report_line : (soc frame : ℕ) (re im d1 d2 : ℤ) (mark : ℕ) → List ℕ
report_line soc frame re im d1 d2 mark =
    line (decimal soc ∷ decimal frame ∷ signed re ∷ signed im ∷ signed d1 ∷ signed d2 ∷ decimal mark ∷ [])

-- `reports R samples S`
unfoldable pub last_line : (reports samples : ℕ) → List ℕ
last_line reports samples = line (reports_word ∷ decimal reports ∷ samples_word ∷ decimal samples ∷ [])

-- `refused N`
unfoldable pub refused_line : (number : ℕ) → List ℕ
refused_line number = line (refused_word ∷ decimal number ∷ [])

-- the room that any line has enough of
abbrev pub line_room : ℕ
line_room = 256
