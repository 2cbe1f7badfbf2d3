-- What `list` promises: when it says that there is no room, and what it writes where the bytes that its reader has left are known.
use Rattle.std.specs.Prelude.{◌≡◌, Bool, true, false, ◌||◌, List, ℕ, ◌++◌, eqb, ltb, length, Option, Some, Result, Ok, Err}
use Rattle.std.specs.Io.KnownBytes.{Consumes, Appends}
use Rattle.phs.specs.Lines.{line_room}
use Rattle.phs.specs.Listing.{listing}
use Rattle.phs.specs.Stream.{stream, started, last}
use Rattle.phs.specs.Cut.{Bytes}
use Rattle.lister.specs.declared.Unlisted.{Unlisted}
use Rattle.lister.specs.declared.Unlisted.TheVariants.{Unread, Unwritten, NoRoom, Endless}

-- the buffers have no room for a byte of input, or none for a line of text
abbrev pub cramped : (input out : List ℕ) → Bool
cramped input out = eqb (length input) 0 || ltb (length out) line_room

-- whether an answer says so
abbrev pub is_no_room : Result (Unit {0}) Unlisted → Bool
is_no_room (Ok u) = false
is_no_room (Err (Unread e)) = false
is_no_room (Err (Unwritten e)) = false
is_no_room (Err NoRoom) = true
is_no_room (Err Endless) = false

-- whether an answer says that the input breaks off
abbrev pub breaks_off : Result (Unit {0}) Unlisted → Bool
breaks_off (Ok u) = false
breaks_off (Err (Unread e)) = true
breaks_off (Err (Unwritten e)) = false
breaks_off (Err NoRoom) = false
breaks_off (Err Endless) = true

-- `list`, lent this bank and these buffers, this reader and this writer
pub record Lists {R W : Type 0} (bank input out : List ℕ) (from : R) (to : W) (r : Result (Unit {0}) Unlisted) (bank' input' out' : List ℕ) (from' : R) (to' : W) : Type 0 where
  -- it says that there is no room where there is none, and nowhere else
  pub said_so : is_no_room r ≡ cramped input out
  -- and then it alters no lent byte, reads nothing and writes nothing
  pub alters_nothing : cramped input out ≡ true → (bank' ≡ bank) × (input' ≡ input) × (out' ≡ out) × (from' ≡ from) × (to' ≡ to)

-- the text of a whole file, its last line included, whatever bank is lent
abbrev pub told : (bank file : List ℕ) → List ℕ
told bank file = (stream started bank file).text ++ last (stream started bank file).reader

-- `list`, lent this bank, by the bytes that the reader has left and those that the writer holds, before and after
pub record Tells (bank : List ℕ) (left held : Option (List ℕ)) (r : Result (Unit {0}) Unlisted) (bank' : List ℕ) (left' held' : Option (List ℕ)) : Type 0 where
  -- where the file that is left is known, its text is written, and the bank is left as the file leaves it
  pub whole : r ≡ Ok tt → (file : List ℕ) → Bytes file → left ≡ Some file → Appends held held' (told bank file) × (bank' ≡ (stream started bank file).bank)
  -- with a bank of 4096 bytes the text is the listing of the file
  pub listed : r ≡ Ok tt → length bank ≡ 4096 → (file : List ℕ) → Bytes file → left ≡ Some file → Appends held held' (listing file)
  -- where the input breaks off, the text of what came before is written, with no last line
  pub so_far : breaks_off r ≡ true → (file : List ℕ) × Consumes left left' file × Appends held held' (stream started bank file).text
      × (bank' ≡ (stream started bank file).bank)
