-- A listing of a file that comes in parts: what one byte does, what a call on a part does, and what is said at the end.
use Rattle.std.specs.Prelude.{◌≡◌, ℕ, ◌+◌, ◌-◌, ◌%◌, ◌^◌, ◌≤◌, cond, List, [], ◌∷◌, ◌++◌, length, replicate, ◌==◌, nat_lt, slice_set}
use Rattle.std.proofs.lemmas.List.Edits.{sets}
use Rattle.feed.specs.Answers.{Said}
use Rattle.feed.specs.Places.{sample_of}
use Rattle.bank.specs.Calls.{Outcome, cleared, opened_at, pushed_at}
use Rattle.phs.specs.declared.Stage.{Stage}
use Rattle.phs.specs.declared.Stage.TheVariants.{InHeader, InSamples, Over}
use Rattle.phs.specs.declared.Reader.{Reader}
use Rattle.phs.specs.declared.Moved.{Moved}
use Rattle.header.specs.Header.{headed, opens, Said as HeaderSaid, refused as refused_header}
use Rattle.phs.specs.Lines.{head_line, last_line, refused_line, line_room}
use Rattle.phs.specs.Listing.{is_refusal, sample_in, report_in, line_of}

-- ---- one byte

-- what a byte leaves: the reader, the bytes of the bank, and the text that it gives
pub record Left : Type 0 where
  pub reader : Reader
  pub bank : List ℕ
  pub text : List ℕ

-- a reader that keeps no byte
abbrev pub reader_at : Stage → (reports samples : ℕ) → Reader
reader_at stage reports samples = record { stage = stage; held = 0; kept = replicate 11 0; reports = reports; samples = samples }

-- a reader of which no byte is read
abbrev pub started : Reader
started = reader_at InHeader 0 0

-- a byte of an unfinished header or sample is kept
unfoldable pub keeping : Reader → ℕ → Reader
keeping r b = record { stage = r.stage; held = r.held + 1; kept = slice_set r.kept r.held b; reports = r.reports; samples = r.samples }

-- no text, and the bank stays
abbrev pub wordless : Reader → List ℕ → Left
wordless r bank = record { reader = r; bank = bank; text = [] }

-- after a refusal the rest of the file is passed over
abbrev pub stage_after : Said → Stage
stage_after answer = cond (is_refusal answer) Over InSamples

-- after the push of a whole sample: its line, and the counts, 64 bits each (`unwrapped`: those of a file never wrap)
unfoldable pub sampled : (reports samples : ℕ) → Outcome → Left
sampled reports samples o = record {
  reader = reader_at (stage_after o.answer) ((reports + report_in o.answer) % 2 ^ 64) ((samples + sample_in o.answer) % 2 ^ 64);
  bank = o.bank;
  text = line_of o.answer;
}

-- a feed is opened in slot 0 of a cleared bank
abbrev pub opened_in : (bank : List ℕ) (nominal rate soc : ℕ) → Outcome
opened_in bank nominal rate soc = opened_at (cleared bank).bank 0 nominal rate soc

-- after the opening: `PHS version nominal rate`, or its refusal, which is 1 where the bank that is lent is not 4096 bytes
abbrev pub opened_as : (version nominal rate : ℕ) → Outcome → Left
opened_as version nominal rate o = record {
  reader = reader_at (stage_after o.answer) 0 0;
  bank = o.bank;
  text = cond (is_refusal o.answer) (line_of o.answer) (head_line version nominal rate);
}

-- a whole header: refused, or a feed is opened
unfoldable pub begun : List ℕ → HeaderSaid → Left
begun bank (refused_header number) = record { reader = reader_at Over 0 0; bank = bank; text = refused_line number }
begun bank (opens version nominal rate soc) = opened_as version nominal rate (opened_in bank nominal rate soc)

-- a byte of the header: the 11th makes it whole, the others are kept
unfoldable pub header_byte : Reader → List ℕ → ℕ → Left
header_byte r bank b = cond (nat_lt r.held 10) (wordless (keeping r b) bank) (begun bank (headed (slice_set r.kept 10 b)))

-- a byte of a sample: the 6th makes it whole, and it is pushed to slot 0; the others are kept
unfoldable pub sample_byte : Reader → List ℕ → ℕ → Left
sample_byte r bank b =
    cond (nat_lt r.held 5) (wordless (keeping r b) bank) (sampled r.reports r.samples (pushed_at bank 0 (sample_of (slice_set r.kept 5 b))))

-- one byte, by the stage
abbrev pub after_byte_in : Stage → Reader → List ℕ → ℕ → Left
after_byte_in InHeader r bank b = header_byte r bank b
after_byte_in InSamples r bank b = sample_byte r bank b
after_byte_in Over r bank b = wordless r bank

-- one byte, by where the reader stands
unfoldable pub after_byte : Reader → List ℕ → ℕ → Left
after_byte r bank b = after_byte_in r.stage r bank b

-- ---- bytes in a row

-- what some bytes leave, and then those after them
abbrev pub after : Left → Left → Left
after n m = record { reader = m.reader; bank = m.bank; text = n.text ++ m.text }

-- all of the bytes, with all the room there is
unfoldable pub stream : Reader → List ℕ → List ℕ → Left
stream r bank [] = wordless r bank
stream r bank (b ∷ bs) = after (after_byte r bank b) (stream (after_byte r bank b).reader (after_byte r bank b).bank bs)

-- ---- a part

-- what a call leaves: the reader, the bytes of the bank, how many bytes of the part are read, and the text
pub record Fed : Type 0 where
  pub reader : Reader
  pub bank : List ℕ
  pub read : ℕ
  pub text : List ℕ

-- nothing is read
abbrev pub unread : Reader → List ℕ → Fed
unread r bank = record { reader = r; bank = bank; read = 0; text = [] }

-- so many bytes and this text before what a call leaves
abbrev pub onto : ℕ → List ℕ → Fed → Fed
onto read text f = record { reader = f.reader; bank = f.bank; read = read + f.read; text = text ++ f.text }

-- bytes are read for as long as the room that is left holds a line
unfoldable pub fed : (room : ℕ) → Reader → List ℕ → List ℕ → Fed
fed room r bank [] = unread r bank
fed room r bank (b ∷ bs) =
    let n : Left = after_byte r bank b in
    cond (nat_lt room line_room) (unread r bank) (onto 1 n.text (fed (room - length n.text) n.reader n.bank bs))

-- ---- the end of the file

-- fewer than 11 header bytes, a part of a sample, or all that was taken; after a refusal nothing
abbrev pub last_in : Stage → Reader → List ℕ
last_in InHeader r = refused_line 14
last_in InSamples r = cond (r.held == 0) (last_line r.reports r.samples) (refused_line 15)
last_in Over r = []

-- the last line, by where the reader stands
unfoldable pub last : Reader → List ℕ
last r = last_in r.stage r

-- the last line, or nothing where the buffer has less room than a line
unfoldable pub last_with : (room : ℕ) → Reader → List ℕ
last_with room r = cond (nat_lt room line_room) [] (last r)

-- ---- what the functions promise

-- the answer, the bytes of the bank and the bytes of the buffer when the call ends
pub record Read : Type 0 where
  pub moved : Moved
  pub bank : List ℕ
  pub out : List ℕ

-- what a call on this buffer comes to: the text stands at the buffer's start
unfoldable pub outcome : Fed → List ℕ → Read
outcome f out = record {
  moved = record { reader = f.reader; read = f.read; written = length f.text };
  bank = f.bank;
  out = sets out 0 f.text;
}

-- what `read_part` promises; `fits` is for its callers: no line takes more than its room
pub record Reading (r : Reader) (bank part out : List ℕ) (m : Moved) (bank' out' : List ℕ) : Type 0 where
  pub ends : record { moved = m; bank = bank'; out = out' } ≡ outcome (fed (length out) r bank part) out
  pub fits : m.written ≤ length out

-- what `finish` promises: how long the last line is, and the buffer with it at its start; `fits` is for its callers
pub record Finishing (r : Reader) (out : List ℕ) (n : ℕ) (out' : List ℕ) : Type 0 where
  pub ends : ◌≡◌ {A = ℕ × List ℕ} (n, out') (length (last_with (length out) r), sets out 0 (last_with (length out) r))
  pub fits : n ≤ length out
