-- The signed number in two bytes, as the library reads and writes it: document 01's. Assumes nothing.
use Rattle.std.proofs.Common.{◌≡◌, ℕ, ◌+◌, ◌<◌, List, [], ◌∷◌, get_or, ℤ, FitsSigned, ap, ◌∙◌}
use Rattle.std.specs.Int.{w16, to_be_bytes, from_be_bytes, cast_signed, cast_unsigned}
use Rattle.std.proofs.lemmas.Int.{to_z-of_z}
use Rattle.std.proofs.Math.Facts.{Fits-of_z}
use Rattle.bits.specs.Bits.{be16, bytes16, signed16, bits16}
use Rattle.bits.proofs.Bytes.{word_lt}
use Rattle.bits.proofs.Reading.{to_be_bytes_16, from_be_bytes_16, cast_unsigned_16, reads_16}

-- the signed number in two bytes
abbrev pub word_at : List ℕ → ℕ → ℤ
word_at l at = signed16 (be16 (get_or l at 0) (get_or l (at + 1) 0))

pub word_read : (l : List ℕ) (at : ℕ) (x : ℤ) → x ≡ cast_signed w16 (from_be_bytes w16 (get_or l at 0 ∷ get_or l (at + 1) 0 ∷ [])) → FitsSigned w16 x
    → ((i : ℕ) → get_or l i 0 < 256) → cast_signed w16 (cast_unsigned w16 x) ≡ word_at l at
word_read l at x e fits byte =
    let pair : List ℕ = get_or l at 0 ∷ get_or l (at + 1) 0 ∷ [] in
    to_z-of_z w16 x fits ∙ e ∙ ap (cast_signed w16) (from_be_bytes_16 pair) ∙ reads_16 _ (word_lt (get_or l at 0) (get_or l (at + 1) 0) (byte at) (byte (at + 1)))

pub word_written : (z : ℤ) → FitsSigned w16 z → (r : List ℕ) → r ≡ to_be_bytes w16 (cast_unsigned w16 (cast_signed w16 (cast_unsigned w16 z))) → r ≡ bytes16 (bits16 z)
word_written z fits r e =
    e
    ∙ ap (λ (x : ℤ). to_be_bytes w16 (cast_unsigned w16 x)) (to_z-of_z w16 z fits)
    ∙ to_be_bytes_16 (cast_unsigned w16 z) (Fits-of_z {w = w16} {z = z} fits).fits
    ∙ ap bytes16 (cast_unsigned_16 z)
