-- What the contracts of `text` cite: text put into lent bytes.
use Rattle.std.specs.Prelude.{ℕ, ◌+◌, ◌≤◌, ◌≡◌, cond, List, [], ◌∷◌, ◌++◌, eqb, leb, length, drop}
use Rattle.std.proofs.lemmas.List.Edits.{sets}
use Rattle.text.specs.declared.Word.{Word}
use Rattle.text.specs.declared.Word.TheVariants.{Number, Whole, Bits, Blank}
use Rattle.text.specs.Text.{decimal, signed, hex16}

-- what a word of a line says
abbrev pub spelt : Word → List ℕ
spelt (Number n) = decimal n
spelt (Whole z) = signed z
spelt (Bits n) = hex16 n
spelt Blank = []

-- the form's bytes, each `%` giving way to the next word; where there is none left, to nothing
abbrev pub filled : List ℕ → List Word → List ℕ
filled [] words = []
filled (b ∷ form) [] = cond (eqb b 37) (filled form []) (b ∷ filled form [])
filled (b ∷ form) (w ∷ words) = cond (eqb b 37) (spelt w ++ filled form words) (b ∷ filled form (w ∷ words))

-- room enough for any text of this form: there are 11 words, and none takes more than 21 bytes
abbrev pub room_for : List ℕ → ℕ
room_for form = length form + 231

-- the text stands from `at` on, and the answer is its end; where fewer than `room` bytes are left there, nothing changes and the answer is `at`
abbrev pub placed : ℕ → List ℕ → List ℕ → ℕ → ℕ × List ℕ
placed room text before at = cond (leb (at + room) (length before)) (at + length text, sets before at text) (at, before)

-- what `put` and `put_hex` promise of the answer r and of the bytes `after`; `short` is for their callers: the text takes no more than its room
pub record Put (room : ℕ) (text before : List ℕ) (at r : ℕ) (after : List ℕ) : Type 0 where
  pub outcome : ◌≡◌ {A = ℕ × List ℕ} (r, after) (placed room text before at)
  pub short : r ≤ at + room

-- where there is room: the text stands from `at` on, ends at r, and is no longer than `room`
pub record Wrote (room : ℕ) (text before : List ℕ) (at r : ℕ) (after : List ℕ) : Type 0 where
  pub ends : r ≡ at + length text
  pub bytes : after ≡ sets before at text
  pub short : length text ≤ room

-- the text stands at the start, r is its length and no more than `room`, and what follows it stays
pub record Leads (room : ℕ) (text before : List ℕ) (r : ℕ) (after : List ℕ) : Type 0 where
  pub ends : r ≡ length text
  pub bytes : after ≡ text ++ drop r before
  pub short : r ≤ room
