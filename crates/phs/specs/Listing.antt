-- Document 01, "PHS files and the listing": the listing of a whole file, told over the history rule of condition B.
use Rattle.std.specs.Prelude.{ℕ, ◌+◌, Bool, true, false, cond, ◌||◌, List, [], ◌∷◌, ◌++◌, take, drop}
use Rattle.feed.specs.Answers.{Said, refused, done, taken, taken_with}
use Rattle.feed.specs.History.{History, opening, Told, told}
use Rattle.feed.specs.Places.{sample_of}
use Rattle.header.specs.Header.{headed, opens, Said as HeaderSaid, refused as refused_header}
use Rattle.phs.specs.Lines.{head_line, report_line, last_line, refused_line}

-- ---- what one answer comes to

-- whether the answer is a refusal
abbrev pub is_refusal : Said → Bool
is_refusal (refused number) = true
is_refusal done = false
is_refusal taken = false
is_refusal (taken_with soc frame re im d1 d2 mark re_peak im_peak deviation rocof) = false

-- a sample taken counts as one
abbrev pub sample_in : Said → ℕ
sample_in (refused number) = 0
sample_in done = 0
sample_in taken = 1
sample_in (taken_with soc frame re im d1 d2 mark re_peak im_peak deviation rocof) = 1

-- a report line counts as one
abbrev pub report_in : Said → ℕ
report_in (refused number) = 0
report_in done = 0
report_in taken = 0
report_in (taken_with soc frame re im d1 d2 mark re_peak im_peak deviation rocof) = 1

-- per report `SOC frame re im d1 d2 mark`; a refusal prints `refused N`
abbrev pub line_of : Said → List ℕ
line_of (refused number) = refused_line number
line_of done = []
line_of taken = []
line_of (taken_with soc frame re im d1 d2 mark re_peak im_peak deviation rocof) = report_line soc frame re im d1 d2 mark

-- ---- what the samples of a file are answered

-- 6 bytes a sample (a, b, c), big-endian, to the end; 8 or 15 where the file meets it (part of a sample is 15). A refusal is the last answer
unfoldable pub answers : History → List ℕ → List Said
answers h [] = []
answers h (a ∷ []) = refused 15 ∷ []
answers h (a ∷ b ∷ []) = refused 15 ∷ []
answers h (a ∷ b ∷ c ∷ []) = refused 15 ∷ []
answers h (a ∷ b ∷ c ∷ d ∷ []) = refused 15 ∷ []
answers h (a ∷ b ∷ c ∷ d ∷ e ∷ []) = refused 15 ∷ []
answers h (a ∷ b ∷ c ∷ d ∷ e ∷ f ∷ rest) =
    let t : Told = told h (sample_of (a ∷ b ∷ c ∷ d ∷ e ∷ f ∷ [])) in
    t.answer ∷ cond (is_refusal t.answer) [] (answers t.history rest)

-- ---- the text

-- the count of report lines
abbrev pub reports_in : List Said → ℕ
reports_in [] = 0
reports_in (a ∷ rest) = report_in a + reports_in rest

-- the count of samples taken
abbrev pub samples_in : List Said → ℕ
samples_in [] = 0
samples_in (a ∷ rest) = sample_in a + samples_in rest

-- whether one of the answers is a refusal: it is the last
abbrev pub ends_refused : List Said → Bool
ends_refused [] = false
ends_refused (a ∷ rest) = is_refusal a || ends_refused rest

-- the lines of the answers, in their order
abbrev pub lines_of : List Said → List ℕ
lines_of [] = []
lines_of (a ∷ rest) = line_of a ++ lines_of rest

-- last `reports R samples S`; a refusal prints `refused N` in place of the last line
unfoldable pub printed : List Said → List ℕ
printed said = lines_of said ++ cond (ends_refused said) [] (last_line (reports_in said) (samples_in said))

-- a refused header prints only that; else the file is measured as one feed, opened as its header says
abbrev pub listed : HeaderSaid → List ℕ → List ℕ
listed (refused_header number) samples = refused_line number
listed (opens version nominal rate soc) samples = head_line version nominal rate ++ printed (answers (opening nominal rate soc) samples)

-- the listing of a whole file: its header is its first 11 bytes
unfoldable pub listing : List ℕ → List ℕ
listing file = listed (headed (take 11 file)) (drop 11 file)
