-- Sums without carry: shifts, cuts and sums of them are linear, so two of them that agree at each power of 2 agree at every number.
-- Assumes nothing.
use mathlib.Core.Path.{◌≡◌, refl, sym, ap, ap₂, ◌∙◌, subst}
use mathlib.Core.Bool.{Bool, true, ◌&&◌}
use Prim.Native.Nat.{ℕ, zero, suc, ◌*◌, ◌/◌, ◌%◌, ◌^◌, ◌<◌}
use native.Mathlib.Nat.{one-mul, zero-mul, mod-lt}
use native.Mathlib.Numerals.{one-add}
use native.Mathlib.Omega.{arith}
use lib.Arith.{lt-one}
use lib.Bits.{bit_xor, xor_assoc, xor_comm, xor_self, xor_zero_l, xor_block, xor_shr, xor_mod, xor_shifted}
use lib.Dec.{T, eqb, eqb→eq}
use lib.Pow.{pow_pos, split, shr_lt}
use mir.Facts.{and_yes}

-- what holds of 0 and of 1 holds of a bit
pub by_bit : (P : ℕ → Type 0) → P 0 → P 1 → (n : ℕ) → n < 2 → P n
by_bit P p q zero h = p
by_bit P p q (suc zero) h = q
by_bit P p q (suc (suc n)) h = absurd (omega (arith, h))

pub swap_middle : (a b c d : ℕ) → bit_xor (bit_xor a b) (bit_xor c d) ≡ bit_xor (bit_xor a c) (bit_xor b d)
swap_middle a b c d = grind (arith, xor_assoc, xor_comm)

-- what is added twice is gone
pub xor_cancel : (a b c : ℕ) → bit_xor a b ≡ bit_xor a c → b ≡ c
xor_cancel a b c e = cc (xor_assoc a a b, xor_assoc a a c, xor_self a, xor_zero_l b, xor_zero_l c)

-- ---- linear expressions in one number

pub data Lin : Type 0 where
  whole : Lin
  up : ℕ → Lin → Lin
  down : ℕ → Lin → Lin
  low : ℕ → Lin → Lin
  ◌⊕◌ : Lin → Lin → Lin
  ◌after◌ : Lin → Lin → Lin

infixl 6 ◌⊕◌
infixl 7 ◌after◌
-- its value: moved up by k bits, down by k bits, cut to the k low bits, summed without carry, and of another's value
abbrev pub at : Lin → ℕ → ℕ
at whole n = n
at (up k e) n = at e n * 2 ^ k
at (down k e) n = at e n / 2 ^ k
at (low k e) n = at e n % 2 ^ k
at (d ⊕ e) n = bit_xor (at d n) (at e n)
at (d after e) n = at d (at e n)

up_sum : (k a b : ℕ) → bit_xor a b * 2 ^ k ≡ bit_xor (a * 2 ^ k) (b * 2 ^ k)
up_sum k a b = grind (arith, xor_block k a b 0 0 (pow_pos k) (pow_pos k))

pub linear : (e : Lin) (a b : ℕ) → at e (bit_xor a b) ≡ bit_xor (at e a) (at e b)
linear whole a b = refl
linear (up k e) a b = ap (λ (x : ℕ). x * 2 ^ k) (linear e a b) ∙ up_sum k (at e a) (at e b)
linear (down k e) a b = ap (λ (x : ℕ). x / 2 ^ k) (linear e a b) ∙ xor_shr (at e a) (at e b) k
linear (low k e) a b = ap (λ (x : ℕ). x % 2 ^ k) (linear e a b) ∙ xor_mod (at e a) (at e b) k
linear (d ⊕ e) a b = ap₂ bit_xor (linear d a b) (linear e a b) ∙ swap_middle (at d a) (at d b) (at e a) (at e b)
linear (d after e) a b = ap (at d) (linear e a b) ∙ linear d (at e a) (at e b)

nothing : (e : Lin) → at e 0 ≡ 0
nothing e = linear e 0 0 ∙ xor_self (at e 0)

-- ---- agreement

module _ (d e : Lin) where
  abbrev agreeing : ℕ → Bool
  agreeing zero = true
  agreeing (suc k) = eqb (at d (2 ^ k)) (at e (2 ^ k)) && agreeing k

  at_digit : (k t : ℕ) → t < 2 → at d (2 ^ k) ≡ at e (2 ^ k) → at d (t * 2 ^ k) ≡ at e (t * 2 ^ k)
  at_digit k t h p =
      by_bit (λ (t : ℕ). at d (t * 2 ^ k) ≡ at e (t * 2 ^ k))
      (ap (at d) (zero-mul (2 ^ k)) ∙ nothing d ∙ sym (ap (at e) (zero-mul (2 ^ k)) ∙ nothing e))
      (ap (at d) (one-mul (2 ^ k)) ∙ p ∙ ap (at e) (sym (one-mul (2 ^ k)))) t h

  -- checked at k powers of 2, it holds of every number of k bits
  pub agree : (k : ℕ) → T (agreeing k) → (n : ℕ) → n < 2 ^ k → at d n ≡ at e n
  agree zero t n h = ap (at d) (lt-one h) ∙ nothing d ∙ sym (ap (at e) (lt-one h) ∙ nothing e)
  agree (suc k) t n h =
      let here = and_yes (eqb (at d (2 ^ k)) (at e (2 ^ k))) (agreeing k) t in
      let m : ℕ = n % 2 ^ k in
      let top : ℕ = n / 2 ^ k in
      let parted : n ≡ bit_xor (top * 2 ^ k) m = sym (xor_shifted top k m (mod-lt n (pow_pos k)) ∙ split n k) in
      ap (at d) parted ∙ linear d (top * 2 ^ k) m
      ∙ ap₂ bit_xor (at_digit k top (shr_lt 1 k (subst (λ (j : ℕ). n < 2 ^ j) (sym (one-add k)) h)) (eqb→eq _ _ here.0)) (agree k here.1 m (mod-lt n (pow_pos k)))
      ∙ sym (ap (at e) parted ∙ linear e (top * 2 ^ k) m)
