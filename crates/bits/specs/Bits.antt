-- Numbers of 16 and 32 bits: in bytes, big-endian, and read as signed numbers.
use Rattle.std.specs.Prelude.{cond, List, [], ◌∷◌, ℕ, suc, ◌+◌, ◌-◌, ◌*◌, ◌/◌, ◌%◌, ◌^◌, ltb, ℤ, pos, negsuc, ◌-ℤ◌}

-- the number in two bytes, big-endian
abbrev pub be16 : (high low : ℕ) → ℕ
be16 high low = 256 * high + low

-- the two bytes of a number of 16 bits, big-endian
abbrev pub bytes16 : ℕ → List ℕ
bytes16 n = n / 256 ∷ n % 256 ∷ []

-- the number in four bytes, big-endian
abbrev pub be32 : (a b c d : ℕ) → ℕ
be32 a b c d = 65536 * be16 a b + be16 c d

-- the four bytes of a number of 32 bits, big-endian
abbrev pub bytes32 : ℕ → List ℕ
bytes32 n = n / 16777216 ∷ n / 65536 % 256 ∷ n / 256 % 256 ∷ n % 256 ∷ []

-- n read as a signed number of so many bits
unfoldable pub signed_in : (bits n : ℕ) → ℤ
signed_in bits n = cond (ltb n (2 ^ (bits - 1))) (pos n) (pos n -ℤ pos (2 ^ bits))

-- sixteen bits read as a signed number
abbrev pub signed16 : ℕ → ℤ
signed16 = signed_in 16

-- thirty-two bits read as a signed number
abbrev pub signed32 : ℕ → ℤ
signed32 = signed_in 32

-- a signed number's 16 bits
unfoldable pub bits16 : ℤ → ℕ
bits16 (pos n) = n
bits16 (negsuc n) = 2 ^ 16 - suc n
