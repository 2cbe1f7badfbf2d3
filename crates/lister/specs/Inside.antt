-- What the functions inside promise: all of a part is read, its text is written, and the last line after it.
use Rattle.std.specs.Prelude.{◌≡◌, ◌<◌, ◌≤◌, false, List, [], ℕ, ◌++◌, length, take, Option, None, Some, Result, Ok, Err, IfOk}
use Rattle.std.specs.Io.KnownBytes.{Keeps, Consumes, Appends, IsAtEnd}
use Rattle.phs.specs.declared.Reader.{Reader}
use Rattle.phs.specs.Stream.{stream, started, Finishing}
use Rattle.phs.specs.Cut.{Cut}
use Rattle.lister.specs.declared.Unlisted.{Unlisted}
use Rattle.lister.specs.declared.Unlisted.TheVariants.{Unread, Unwritten, NoRoom, Endless}
use Rattle.lister.specs.Listing.{is_no_room, breaks_off}

-- the bytes so far, from the reader r and this bank, give this text and leave the reader q and this bank: calls in a row read them, and more
-- may follow
pub record Flowed (r : Reader) (bank bytes text : List ℕ) (q : Reader) (bank' : List ℕ) : Type 0 where
  pub reader_is : (stream r bank bytes).reader ≡ q
  pub bank_is : (stream r bank bytes).bank ≡ bank'
  pub text_is : (stream r bank bytes).text ≡ text
  pub cut : {file more : List ℕ} {p : Reader} → Cut q bank' file more p → Cut r bank (bytes ++ file) (text ++ more) p

-- what one read comes to: so many bytes of the buffer, at the end none, or it fails and takes none
abbrev pub Comes : (left left' : Option (List ℕ)) (input : List ℕ) → Result (Option ℕ) Unlisted → Type 0
Comes left left' input (Ok (Some n)) = (n ≤ length input) × Consumes left left' (take n input)
Comes left left' input (Ok None) = Consumes left left' [] × (0 < length input → IsAtEnd left')
Comes left left' input (Err (Unread e)) = Keeps left left'
Comes left left' input (Err (Unwritten e)) = ⊥
Comes left left' input (Err NoRoom) = ⊥
Comes left left' input (Err Endless) = ⊥

-- all of the part is read, and its text is written; or it can't be written
abbrev pub Gives : (r : Reader) (bank part : List ℕ) (held held' : Option (List ℕ)) {E : Type 0} → Result Reader E → List ℕ → Type 0
Gives r bank part held held' given bank' = IfOk given (λ q. (text : List ℕ) × Flowed r bank part text q bank' × Appends held held' text)

-- so far these bytes of the reader are read, and this text is written
pub record SoFar (bank : List ℕ) (left left' held held' : Option (List ℕ)) (q : Reader) (bank' : List ℕ) : Type 0 where
  pub file : List ℕ
  pub text : List ℕ
  pub read : Consumes left left' file
  pub flowed : Flowed started bank file text q bank'
  pub written : Appends held held' text

-- the last line is written, by way of a buffer like this, or it can't be written
pub record Ends (q : Reader) (out : List ℕ) (held held' : Option (List ℕ)) (r : Result (Unit {0}) Unlisted) : Type 0 where
  pub has_room : is_no_room r ≡ false
  pub is_end : breaks_off r ≡ false
  pub written : IfOk r (λ u. (n : ℕ) × (out' : List ℕ) × Finishing q out n out' × Appends held held' (take n out'))
