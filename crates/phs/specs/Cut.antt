-- A file that comes in parts: however it is cut, its listing comes out.
use Rattle.std.specs.Prelude.{◌≡◌, ℕ, ◌<◌, ◌≤◌, List, [], ◌++◌, length, take, slice_index}
use Rattle.phs.specs.declared.Reader.{Reader}
use Rattle.phs.specs.declared.Moved.{Moved}
use Rattle.phs.specs.Lines.{line_room}
use Rattle.phs.specs.Listing.{listing}
use Rattle.phs.specs.Stream.{started, Reading, Finishing}

-- every number is a byte
abbrev pub Bytes : List ℕ → Type 0
Bytes l = (i : ℕ) → slice_index l i < 256

-- `Cut r bank file text q`: calls of `read_part` in a row, each on any bytes for its part and with any buffer, the bank lent
-- from one to the next, that start with the reader r and these bytes of the bank, read `file`, write `text`, and leave the reader q
pub data Cut : Reader → List ℕ → List ℕ → List ℕ → Reader → Type 0 where
  none : {r : Reader} {bank : List ℕ} → Cut r bank [] [] r
  call : {r q : Reader} {bank file text : List ℕ} (part out : List ℕ) (m : Moved) (bank' out' : List ℕ) → Bytes part
      → Reading r bank part out m bank' out' → Cut m.reader bank' file text q
      → Cut r bank (take m.read part ++ file) (take m.written out' ++ text) q

-- however the file is cut, whatever 4096 bytes are lent for a bank:
-- the text that comes out, with the last line of `finish`, is the listing of the file
pub record EveryCut : Type 0 where
  pub whatever_the_cut : {bank file text : List ℕ} {q : Reader} → length bank ≡ 4096 → Cut started bank file text q
      → (out : List ℕ) (n : ℕ) (out' : List ℕ) → line_room ≤ length out → Finishing q out n out'
      → text ++ take n out' ≡ listing file
