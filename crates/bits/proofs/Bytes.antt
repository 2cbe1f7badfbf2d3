-- A number in its bytes, and a signed number in its bits: put together again, and taken apart again. Assumes nothing.
use Rattle.std.proofs.Common.{◌≡◌, ℕ, ◌/◌, ◌%◌, ◌^◌, ◌<◌, [], ◌∷◌, ℤ, pos, negsuc, FitsSigned, ap, ◌∙◌, arith}
use Rattle.std.specs.Int.{w16}
use Rattle.std.proofs.lemmas.Int.{ints}
use Rattle.bits.specs.Bits.{be16, be32, bytes16, bytes32, signed_in, signed16, bits16}

-- ---- bytes

pub word_back : (n : ℕ) → be16 (n / 256) (n % 256) ≡ n
word_back n = omega arith

pub long_back : (n : ℕ) → be32 (n / 16777216) (n / 65536 % 256) (n / 256 % 256) (n % 256) ≡ n
long_back n = omega arith

module _ (a b : ℕ) (a_in : a < 256) (b_in : b < 256) where
  pub word_lt : be16 a b < 2 ^ 16
  word_lt = omega arith

  pub bytes_of_word : bytes16 (be16 a b) ≡ a ∷ b ∷ []
  bytes_of_word = grind arith

  module _ (c d : ℕ) (c_in : c < 256) (d_in : d < 256) where
    pub long_lt : be32 a b c d < 2 ^ 32
    long_lt = omega arith

    pub highest : be32 a b c d / 16777216 ≡ a
    highest = omega arith

    pub bytes_of_long : bytes32 (be32 a b c d) ≡ a ∷ b ∷ c ∷ d ∷ []
    bytes_of_long = grind arith

-- ---- sixteen bits

pub bits_back : (n : ℕ) → n < 2 ^ 16 → bits16 (signed16 n) ≡ n
unfolding signed_in bits16
bits_back n h = grind (arith, ints)

pub signed_in_lem : (n : ℕ) → n < 2 ^ 16 → FitsSigned w16 (signed16 n)
unfolding signed_in
signed_in_lem n h = grind (arith, ints)

signed_back : (z : ℤ) → FitsSigned w16 z → signed16 (bits16 z) ≡ z
unfolding signed_in bits16
signed_back (pos n) f = grind (arith, ints)
signed_back (negsuc n) f = grind (arith, ints)

-- through its two bytes
pub number_back : (z : ℤ) → FitsSigned w16 z → signed16 (be16 (bits16 z / 256) (bits16 z % 256)) ≡ z
number_back z f = ap signed16 (word_back (bits16 z)) ∙ signed_back z f
