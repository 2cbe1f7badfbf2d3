-- The texts of numbers are right: `decimal n` is the one decimal numeral of n, `hex16 n` stands for n, and `signed` tells any two whole numbers apart.
-- By the number's last digit. Assumes nothing.
use Rattle.std.proofs.Common.{ℕ, zero, suc, ◌+◌, ◌*◌, ◌-◌, ◌/◌, ◌%◌, ◌^◌, ◌≤◌, ◌<◌, ◌≡◌, refl, sym, ap, ap₂, ◌∙◌, subst, Bool, true, false, cond, List, [], ◌∷◌, ◌++◌, append_assoc, length, get_or, ltb, ℤ, pos, negsuc, lit<, arith}
use Rattle.std.proofs.lemmas.Bool.Decides.{nat_tests}
use Rattle.std.proofs.lemmas.List.{append-nil, length-append, get_or_append_left}
use native.Mathlib.Nat.{div-lt_iff_lt-mul, div-add-mod', mod-lt, pow-zero, pow-suc, zero-add}
use borrow.Author.Tests.{eqb-true, eqb-false}
use lib.Dec.{eqb}
use Rattle.text.specs.Text.{glyph, digits, decimal, signed, hex16}
use Rattle.text.proofs.Digits.{by_ten, decimal_short, decimal_long}

-- ---- what digits stand for

-- the number that a digit stands for
abbrev pub worth : ℕ → ℕ
worth c = cond (ltb c 58) (c - 48) (c - 87)

-- read from the left, after digits that stand for `high`
abbrev pub value_after : ℕ → ℕ → List ℕ → ℕ
value_after b high [] = high
value_after b high (c ∷ l) = value_after b (high * b + worth c) l

abbrev pub value : ℕ → List ℕ → ℕ
value b l = value_after b 0 l

worth_glyph : (d : ℕ) → d < 16 → worth (glyph d) ≡ d
worth_glyph d h = grind (arith, nat_tests)

value_last : (b high : ℕ) (l : List ℕ) (c : ℕ) → value_after b high (l ++ (c ∷ [])) ≡ value_after b high l * b + worth c
value_last b high [] c = refl
value_last b high (a ∷ l) c = value_last b (high * b + worth a) l c

-- k digits stand for a number that has no more
pub digits_value : (b k n : ℕ) → 0 < b → b ≤ 16 → n < b ^ k → value b (digits b k n) ≡ n
unfolding digits
digits_value b zero n p q h = omega (arith, pow-zero b)
digits_value b (suc k) n p q h =
    let m : n < b ^ k * b = subst (λ (x : ℕ). n < x) (pow-suc b k) h in
    value_last b 0 (digits b k (n / b)) (glyph (n % b))
    ∙ ap₂ (λ (x y : ℕ). x * b + y) (digits_value b k (n / b) p q ((div-lt_iff_lt-mul p).1 m)) (worth_glyph (n % b) (omega (arith, mod-lt n p)))
    ∙ div-add-mod' n b

-- 16 hexadecimal digits stand for any 64-bit number
pub hex16_value : (n : ℕ) → n < 2 ^ 64 → value 16 (hex16 n) ≡ n
unfolding hex16
hex16_value n h = digits_value 16 16 n (lit< tt) (omega arith) h

-- ---- decimal text

-- every byte is a digit from `0` to `9`
abbrev pub AllDigits : List ℕ → Type 0
AllDigits [] = Unit
AllDigits (c ∷ l) = (48 ≤ c) × (c ≤ 57) × AllDigits l

-- l is n in decimal as it is commonly written
pub record Numeral (n : ℕ) (l : List ℕ) : Type 0 where
  -- digits and nothing else
  pub all_digits : AllDigits l
  -- they stand for n
  pub stands_for : value 10 l ≡ n
  -- there is one at least
  pub not_empty : 0 < length l
  -- only `0` starts with a zero
  pub no_zero : get_or l 0 0 ≡ 48 → l ≡ 48 ∷ []

-- a digit by itself, and one after others
digit_glyph : (d : ℕ) → d < 10 → glyph d ≡ 48 + d
digit_glyph d h = grind (arith, nat_tests)

worth_digit : (c : ℕ) → 48 ≤ c → c ≤ 57 → worth c ≡ c - 48
worth_digit c p q = grind (arith, nat_tests)

all_last : (l : List ℕ) (c : ℕ) → AllDigits l → 48 ≤ c → c ≤ 57 → AllDigits (l ++ (c ∷ []))
all_last [] c a p q = (p, q, tt)
all_last (x ∷ l) c a p q = (a.0, a.1, all_last l c a.2 p q)

one_digit : (d : ℕ) → d < 10 → Numeral d (glyph d ∷ [])
one_digit d h =
    let g : glyph d ≡ 48 + d = digit_glyph d h in
    record {
      all_digits = (omega (arith, g), omega (arith, g), tt);
      stands_for = zero-add (worth (glyph d)) ∙ worth_glyph d (omega arith);
      not_empty = omega arith;
      no_zero = λ e. ap (λ (c : ℕ). c ∷ []) e;
    }

one_more : (n : ℕ) (l : List ℕ) → 10 ≤ n → Numeral (n / 10) l → Numeral n (l ++ (glyph (n % 10) ∷ []))
one_more n l h N =
    let g : glyph (n % 10) ≡ 48 + n % 10 = digit_glyph (n % 10) (omega arith) in
    let first : get_or (l ++ (glyph (n % 10) ∷ [])) 0 0 ≡ get_or l 0 0 = get_or_append_left l (glyph (n % 10) ∷ []) 0 0 N.not_empty in
    record {
      all_digits = all_last l (glyph (n % 10)) N.all_digits (omega (arith, g)) (omega (arith, g));
      stands_for = value_last 10 0 l (glyph (n % 10)) ∙ ap₂ (λ (x y : ℕ). x * 10 + y) N.stands_for (worth_glyph (n % 10) (omega arith)) ∙ div-add-mod' n 10;
      not_empty = omega (arith, length-append l (glyph (n % 10) ∷ []));
      no_zero = λ e. let z : n / 10 ≡ 0 = sym N.stands_for ∙ ap (value 10) (N.no_zero (sym first ∙ e)) in absurd (omega arith);
    }

is_below : (most n : ℕ) → n < most → Numeral n (decimal n)
is_below zero n h = absurd (omega arith)
is_below (suc most) n h =
    by_ten n (λ p. let m : n % 10 ≡ n = omega arith in rw (decimal_short n p, m) (one_digit n p))
    (λ p. rw (decimal_long n p) (one_more n (decimal (n / 10)) p (is_below most (n / 10) (omega arith))))

-- `decimal n` is n as it is commonly written
pub decimal_is : (n : ℕ) → Numeral n (decimal n)
decimal_is n = is_below (suc n) n (omega arith)

-- one digit more
decimal_last : (m c : ℕ) → 0 < m → 48 ≤ c → c ≤ 57 → decimal (m * 10 + worth c) ≡ decimal m ++ (c ∷ [])
decimal_last m c h p q =
    let w = worth_digit c p q in
    let n = m * 10 + worth c in
    let d : n / 10 ≡ m = omega arith in
    let r : glyph (n % 10) ≡ c = digit_glyph (n % 10) (omega arith) ∙ omega arith in
    decimal_long n (omega arith) ∙ ap₂ (λ (k x : ℕ). decimal k ++ (x ∷ [])) d r

decimal_after : (high : ℕ) (l : List ℕ) → 0 < high → AllDigits l → decimal (value_after 10 high l) ≡ decimal high ++ l
decimal_after high [] h a = sym (append-nil (decimal high))
decimal_after high (c ∷ l) h a =
    decimal_after (high * 10 + worth c) l (omega arith) a.2
    ∙ ap (λ (t : List ℕ). t ++ l) (decimal_last high c h a.0 a.1)
    ∙ append_assoc (decimal high) (c ∷ []) l

decimal_digit : (c : ℕ) → 48 ≤ c → c ≤ 57 → decimal (worth c) ≡ c ∷ []
decimal_digit c p q =
    let w = worth_digit c p q in
    decimal_short (worth c) (omega arith) ∙ ap (λ (x : ℕ). x ∷ []) (digit_glyph (worth c % 10) (omega arith) ∙ omega arith)

-- there is no other way to write it
pub decimal_only : (n : ℕ) (l : List ℕ) → Numeral n l → l ≡ decimal n
decimal_only n [] N = absurd (omega (arith, N.not_empty))
decimal_only n (c ∷ l) N = by (eqb c 48) refl
  where
    by : (t : Bool) → eqb c 48 ≡ t → c ∷ l ≡ decimal n
    by true e =
        let z : c ∷ l ≡ 48 ∷ [] = N.no_zero (eqb-true c 48 e) in
        z ∙ sym (decimal_digit 48 (omega arith) (omega arith)) ∙ ap decimal (sym (ap (value 10) z) ∙ N.stands_for)
    by false e =
        let a = N.all_digits in
        let w = worth_digit c a.0 a.1 in
        let p : 0 < worth c = omega (arith, eqb-false c 48 e) in
        sym (ap (λ (t : List ℕ). t ++ l) (decimal_digit c a.0 a.1)) ∙ sym (decimal_after (worth c) l p a.2)
        ∙ ap decimal (ap (λ (x : ℕ). value_after 10 x l) (sym (zero-add (worth c))) ∙ N.stands_for)

-- ---- whole numbers

-- two numbers with one text are one number
decimal_one : (m n : ℕ) → decimal m ≡ decimal n → m ≡ n
decimal_one m n e = sym (decimal_is m).stands_for ∙ ap (value 10) e ∙ (decimal_is n).stands_for

-- a numeral does not start with `-`
no_sign : (n : ℕ) (l : List ℕ) → decimal n ≡ 45 ∷ l → ⊥
no_sign n l e = let a : AllDigits (45 ∷ l) = subst AllDigits e (decimal_is n).all_digits in omega (arith, a.0)

pub signed_one : (y z : ℤ) → signed y ≡ signed z → y ≡ z
unfolding signed
signed_one (pos m) (pos n) e = ap pos (decimal_one m n e)
signed_one (pos m) (negsuc n) e = absurd (no_sign m (decimal (suc n)) e)
signed_one (negsuc m) (pos n) e = absurd (no_sign n (decimal (suc m)) (sym e))
signed_one (negsuc m) (negsuc n) e =
    let t : decimal (suc m) ≡ decimal (suc n) = cc in
    let s : suc m ≡ suc n = decimal_one (suc m) (suc n) t in
    ap negsuc (omega arith)
