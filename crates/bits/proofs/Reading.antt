-- What the library's methods say, in the words of specs/Bits: bytes, and the signed reading. Assumes nothing.
use Rattle.std.proofs.Common.{◌≡◌, ℕ, ◌^◌, ◌<◌, List, ℤ, pos, negsuc, slice_index, refl, arith}
use Rattle.std.specs.Int.{w16, w32, to_be_bytes, from_be_bytes, cast_signed, cast_unsigned}
use Rattle.std.proofs.lemmas.Int.{ints}
use Rattle.bits.specs.Bits.{be16, bytes16, signed_in, signed16, signed32, bits16}

pub to_be_bytes_16 : (n : ℕ) → n < 2 ^ 16 → to_be_bytes w16 n ≡ bytes16 n
to_be_bytes_16 n h = grind arith

pub from_be_bytes_16 : (l : List ℕ) → from_be_bytes w16 l ≡ be16 (slice_index l 0) (slice_index l 1)
from_be_bytes_16 l = omega arith

-- `cast_unsigned`
pub cast_unsigned_16 : (z : ℤ) → cast_unsigned w16 z ≡ bits16 z
unfolding bits16
cast_unsigned_16 (pos n) = refl
cast_unsigned_16 (negsuc n) = refl

-- `cast_signed`
pub reads_16 : (n : ℕ) → n < 2 ^ 16 → cast_signed w16 n ≡ signed16 n
unfolding signed_in
reads_16 n h = grind (arith, ints)

pub reads_32 : (n : ℕ) → n < 2 ^ 32 → cast_signed w32 n ≡ signed32 n
unfolding signed_in
reads_32 n h = grind (arith, ints)
