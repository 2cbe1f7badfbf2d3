-- Numbers and lines as ASCII text, on lists of bytes.
use Rattle.std.specs.Prelude.{ℕ, zero, suc, ◌+◌, ◌/◌, ◌%◌, cond, List, [], ◌∷◌, ◌++◌, ltb, ℤ, pos, negsuc}

-- a digit: `0` to `9`, then `a` to `f`
abbrev pub glyph : ℕ → ℕ
glyph d = cond (ltb d 10) (48 + d) (87 + d)

-- the last k digits of n in base b, the first of them first
unfoldable pub digits : ℕ → ℕ → ℕ → List ℕ
digits b zero n = []
digits b (suc k) n = digits b k (n / b) ++ (glyph (n % b) ∷ [])

-- the digits of n / 10, unless n is below 10, and then the last digit; `most` is a bound on their number
unfoldable pub decimal_up_to : ℕ → ℕ → List ℕ
decimal_up_to zero n = []
decimal_up_to (suc most) n = cond (ltb n 10) [] (decimal_up_to most (n / 10)) ++ (glyph (n % 10) ∷ [])

-- n in decimal: 0 is `0`, and no other number starts with a zero. n + 1 digits are enough: `decimal_is` says so
unfoldable pub decimal : ℕ → List ℕ
decimal n = decimal_up_to (suc n) n

-- a whole number: `-` before a negative one, and its size in decimal
unfoldable pub signed : ℤ → List ℕ
signed (pos n) = decimal n
signed (negsuc n) = 45 ∷ decimal (suc n)

-- a 64-bit number as 16 hexadecimal digits, in lower case
unfoldable pub hex16 : ℕ → List ℕ
hex16 n = digits 16 16 n

-- bytes as two hexadecimal digits each
unfoldable pub hex_bytes : List ℕ → List ℕ
hex_bytes [] = []
hex_bytes (b ∷ bs) = digits 16 2 b ++ hex_bytes bs

-- words with single spaces between them, and the line's end
abbrev pub line : List (List ℕ) → List ℕ
line [] = 10 ∷ []
line (w ∷ []) = w ++ (10 ∷ [])
line (w ∷ v ∷ ws) = w ++ (32 ∷ line (v ∷ ws))
