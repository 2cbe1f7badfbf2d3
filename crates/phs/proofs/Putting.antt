-- A line that `text` puts where there is room for it is written. Assumes nothing.
use Rattle.std.proofs.Common.{◌≡◌, ℕ, ◌≤◌, List, [], ◌∷◌, ◌++◌, length, drop, replicate, ℤ, refl, sym, ap, ◌∙◌, subst, arith, to_z-of_z, w32, w64, SFits, to_z, of_z}
use Rattle.text.specs.declared.Word.{Word}
use Rattle.text.specs.declared.Word.TheVariants.{Number, Blank}
use Rattle.text.specs.Put.{Put, Leads, filled, room_for}
use Rattle.phs.specs.Lines.{line_room}
use Rattle.text.proofs.Writing.{put_wrote}
use Rattle.std.proofs.lemmas.List.Edits.{sets-eq}

-- a text that is put where there is room for a line stands at its start
pub line_written : {room r : ℕ} {text line line' : List ℕ} → Put room text line 0 r line' → room ≤ line_room → length line ≡ line_room
    → Leads line_room text line r line'
line_written {room} {r} {text} {line} p short size =
    let w = put_wrote (omega arith) p in
    record {
      ends = omega (arith, w.ends);
      bytes = w.bytes ∙ sets-eq text line 0 (omega (arith, w.short)) ∙ ap (λ (n : ℕ). text ++ drop n line) (sym w.ends);
      short = omega (arith, w.ends, w.short);
    }

-- a text of no bytes
pub nothing : {line : List ℕ} → Leads line_room [] line 0 line
nothing = record { ends = refl; bytes = refl; short = omega arith }

-- the same text, said otherwise
pub written_as : {room r : ℕ} {text text' before after : List ℕ} → text ≡ text' → Leads room text before r after → Leads room text' before r after
written_as {room} {r} {text} {text'} {before} {after} e w = subst (λ (t : List ℕ). Leads room t before r after) e w

-- three counts that are known
pub three_counts : {a b c x y z : ℕ} → a ≡ x → b ≡ y → c ≡ z
    → Number a ∷ Number b ∷ Number c ∷ replicate 8 Blank ≡ Number x ∷ Number y ∷ Number z ∷ replicate 8 Blank
three_counts p q r = λ i. Number (p i) ∷ Number (q i) ∷ Number (r i) ∷ replicate 8 Blank

-- a form with its words, where the words are known
pub words_written : (form : List ℕ) {words words' : List Word} {r : ℕ} {line line' : List ℕ} → words ≡ words'
    → Put (room_for form) (filled form words) line 0 r line' → length form ≤ 25 → length line ≡ line_room → Leads line_room (filled form words') line r line'
words_written form e p short size = written_as (ap (filled form) e) (line_written p (omega arith) size)

-- a signed number that is stored is read again
pub same : {z : ℤ} → SFits w64 z → to_z w64 (of_z w64 z) ≡ z
same {z} f = to_z-of_z {w = w64} {z = z} f

-- a signed 32-bit number, made one of 64 bits that is stored, is read again
pub same_wide : {y z : ℤ} → SFits w64 y → SFits w32 z → y ≡ to_z w32 (of_z w32 z) → to_z w64 (of_z w64 y) ≡ z
same_wide {y} {z} f g e = same f ∙ e ∙ to_z-of_z {w = w32} {z = z} g
