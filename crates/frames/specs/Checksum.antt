-- Document 02, CR 4: the CRC-CCITT, as the remainder of a division by x^16 + x^12 + x^5 + 1, bit by bit.
use Rattle.std.specs.Prelude.{cond, ℕ, ◌*◌, ◌/◌, ◌%◌, eqb}
use mathlib.Core.List.{List, [], ◌∷◌, foldl}
use Rattle.std.specs.Int.Bits.{bit_xor}

-- the polynomial below x^16: hexadecimal 1021
abbrev pub polynomial : ℕ
polynomial = 4129

-- one bit of the division: the remainder, of 16 bits, moves up by one, and where the bit that leaves it differs from the message's the
-- polynomial is taken off, bit by bit and without carry
unfoldable pub divided : (remainder bit : ℕ) → ℕ
divided remainder bit = bit_xor (remainder * 2 % 65536) (cond (eqb (remainder / 32768) bit) 0 polynomial)

-- the eight bits of a byte, the highest first
abbrev pub bits_of : ℕ → List ℕ
bits_of byte =
    byte / 128 % 2 ∷ byte / 64 % 2 ∷ byte / 32 % 2 ∷ byte / 16 % 2 ∷ byte / 8 % 2 ∷ byte / 4 % 2 ∷ byte / 2 % 2 ∷ byte % 2 ∷ []

-- the remainder after one more byte
unfoldable pub after_byte : (remainder byte : ℕ) → ℕ
after_byte remainder byte = foldl divided remainder (bits_of byte)

-- initial FFFF, no final change
unfoldable pub checksum : List ℕ → ℕ
checksum bytes = foldl after_byte 65535 bytes
