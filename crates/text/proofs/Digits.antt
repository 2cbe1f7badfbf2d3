-- The digits of a number: how many there are, how they are stored, and which of them decimal text has. By induction on their number. Assumes nothing.
use Rattle.std.proofs.Common.{ℕ, zero, suc, ◌+◌, ◌*◌, ◌-◌, ◌/◌, ◌%◌, ◌^◌, ◌≤◌, ◌<◌, ◌≡◌, refl, sym, ap, ◌∙◌, Bool, true, false, ltb, List, [], ◌∷◌, ◌++◌, append_assoc, length, drop, Option, None, Some, IfNone, IfSome, unwrap_or, add-one, lit<, arith}
use Rattle.std.proofs.lemmas.List.{drop-set, length-append}
use Rattle.std.proofs.Math.ListN.{set}
use native.Mathlib.Nat.{one-le-pow, pow-suc}
use borrow.Author.Tests.{lt-ltb, le-ltb, ltb-true, ltb-false}
use Rattle.text.specs.Text.{glyph, digits, decimal_up_to, decimal, hex_bytes}

pub length_digits : (b k n : ℕ) → length (digits b k n) ≡ k
unfolding digits
length_digits b zero n = refl
length_digits b (suc k) n = length-append (digits b k (n / b)) (glyph (n % b) ∷ []) ∙ omega (arith, length_digits b k (n / b))

-- the digits are stored from the last to the first
pub digit_stored : (b i n g : ℕ) (l : List ℕ) → 0 < i → i ≤ length l → g ≡ glyph (n % b)
    → digits b (i - 1) (n / b) ++ drop (i - 1) (set l (i - 1) g) ≡ digits b i n ++ drop i l
unfolding digits
digit_stored b i n g l p q e =
    let m = i - 1 in
    let s : i ≡ suc m = omega arith in
    let left = drop-set l m g (omega arith) in
    let after : m + 1 ≡ i = omega arith in
    rw (left, after, e) (sym (append_assoc (digits b m (n / b)) (glyph (n % b) ∷ []) (drop i l)) ∙ ap (λ (k : ℕ). digits b k n ++ drop i l) (sym s))

-- ---- decimal text

-- a number below 10, and any other
pub by_ten : {P : Type 0} (n : ℕ) → (n < 10 → P) → (10 ≤ n → P) → P
by_ten {P} n f g = by (ltb n 10) refl
  where
    by : (t : Bool) → ltb n 10 ≡ t → P
    by true e = f (ltb-true n 10 e)
    by false e = g (ltb-false n 10 e)

up_to_short : (most n : ℕ) → n < 10 → decimal_up_to (suc most) n ≡ glyph (n % 10) ∷ []
unfolding decimal_up_to
up_to_short most n h = rw (lt-ltb n 10 h) refl

up_to_long : (most n : ℕ) → 10 ≤ n → decimal_up_to (suc most) n ≡ decimal_up_to most (n / 10) ++ (glyph (n % 10) ∷ [])
unfolding decimal_up_to
up_to_long most n h = rw (le-ltb n 10 h) refl

-- a bound that is large enough makes no difference
enough : (f g n : ℕ) → n < f → n < g → decimal_up_to f n ≡ decimal_up_to g n
enough zero g n h k = absurd (omega arith)
enough (suc f) zero n h k = absurd (omega arith)
enough (suc f) (suc g) n h k =
    by_ten n (λ p. up_to_short f n p ∙ sym (up_to_short g n p))
    (λ p. rw (up_to_long f n p, up_to_long g n p, enough f g (n / 10) (omega arith) (omega arith)) refl)

pub decimal_short : (n : ℕ) → n < 10 → decimal n ≡ glyph (n % 10) ∷ []
unfolding decimal
decimal_short n h = up_to_short n n h

pub decimal_long : (n : ℕ) → 10 ≤ n → decimal n ≡ decimal (n / 10) ++ (glyph (n % 10) ∷ [])
unfolding decimal
decimal_long n h = up_to_long n n h ∙ ap (λ (t : List ℕ). t ++ (glyph (n % 10) ∷ [])) (enough n (suc (n / 10)) (n / 10) (omega arith) (omega arith))

-- a number of k + 1 digits
pub decimal_digits : (k n : ℕ) → n < 10 * 10 ^ k → (0 < k → 10 ^ k ≤ n) → decimal n ≡ digits 10 (suc k) n
unfolding digits
decimal_digits zero n h l = decimal_short n (omega arith)
decimal_digits (suc k) n h l =
    let p : 1 ≤ 10 ^ k = one-le-pow k 10 (lit< tt) in
    let e : 10 ^ suc k ≡ 10 * 10 ^ k = omega (arith, pow-suc 10 k) in
    let q : 10 * 10 ^ k ≤ n = omega (arith, l (omega arith)) in
    decimal_long n (omega arith) ∙ ap (λ (t : List ℕ). t ++ (glyph (n % 10) ∷ [])) (decimal_digits k (n / 10) (omega arith) (λ z. omega arith))

-- the digits of n, from what `checked_ilog10` answers for it
pub decimal_places : (n : ℕ) (o : Option ℕ) → IfNone o (n ≡ 0) → IfSome o (λ k. 10 ^ k ≤ n) → IfSome o (λ k. n < 10 * 10 ^ k) → decimal n ≡ digits 10 (unwrap_or o 0 + 1) n
decimal_places n None z l h = decimal_digits 0 n (omega (arith, z)) (λ p. absurd (omega arith))
decimal_places n (Some k) z l h = rw add-one (decimal_digits k n h (λ p. l))

-- ---- hexadecimal text

pub length_hex : (l : List ℕ) → length (hex_bytes l) ≡ 2 * length l
unfolding hex_bytes
length_hex [] = refl
length_hex (b ∷ l) = length-append (digits 16 2 b) (hex_bytes l) ∙ omega (arith, length_digits 16 2 b, length_hex l)
