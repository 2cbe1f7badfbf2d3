-- The division a byte at a time: eight bits of it at once, by shifts. Assumes nothing.
use mathlib.Core.Path.{◌≡◌, refl, sym, ap, ap₂, ◌∙◌}
use mathlib.Core.Bool.{Bool, true, false, cond}
use mathlib.Core.List.{List, [], ◌∷◌, map, foldl}
use Prim.Native.Nat.{ℕ, ◌+◌, ◌*◌, ◌/◌, ◌%◌, ◌^◌, ◌<◌}
use native.Mathlib.Nat.{mod-lt}
use lib.Arith.{digits_lt}
use lib.Bits.{bit_xor, xor_assoc, xor_comm, xor_lt}
use lib.Dec.{eqb, lit<}
use lib.Pow.{pow_pos, high, low as low_of, split, shr_lt}
use Rattle.frames.specs.Checksum.{polynomial, divided, bits_of, after_byte}
use Rattle.frames.proofs.Linear.{by_bit, Lin, whole, up, down, low, ◌⊕◌, ◌after◌, at, linear, agree, xor_cancel}

-- ---- one bit

-- x^12 + x^5 + 1, as often as t says
abbrev times : Lin → Lin
times t = up 12 t ⊕ up 5 t ⊕ t

-- a step of the division whose message's bit has been added to the remainder's highest
abbrev stepped : Lin
stepped = low 16 (up 1 whole) ⊕ times (down 15 whole)

abbrev fed : ℕ → ℕ → ℕ
fed remainder bit = at stepped (bit_xor remainder (bit * 2 ^ 15))

taken_off : (top bit : ℕ) → top < 2 → bit < 2 → cond (eqb top bit) 0 polynomial ≡ bit_xor (at (times whole) top) (at stepped (bit * 2 ^ 15))
taken_off top bit p q =
    by_bit (λ (t : ℕ). cond (eqb t bit) 0 polynomial ≡ bit_xor (at (times whole) t) (at stepped (bit * 2 ^ 15)))
    (by_bit (λ (b : ℕ). cond (eqb 0 b) 0 polynomial ≡ bit_xor (at (times whole) 0) (at stepped (b * 2 ^ 15))) refl refl bit q)
    (by_bit (λ (b : ℕ). cond (eqb 1 b) 0 polynomial ≡ bit_xor (at (times whole) 1) (at stepped (b * 2 ^ 15))) refl refl bit q) top p

one_bit : (r bit : ℕ) → r < 2 ^ 16 → bit < 2 → divided r bit ≡ fed r bit
unfolding divided
one_bit r bit h b =
    ap (bit_xor (r * 2 % 65536)) (taken_off (r / 32768) bit (shr_lt 1 15 h) b)
    ∙ sym (xor_assoc (r * 2 % 65536) (at (times whole) (r / 32768)) (at stepped (bit * 2 ^ 15)))
    ∙ sym (linear stepped r (bit * 2 ^ 15))

divided_lt : (r bit : ℕ) → divided r bit < 2 ^ 16
unfolding divided
divided_lt r bit = xor_lt 16 (r * 2 % 65536) (cond (eqb (r / 32768) bit) 0 polynomial) (mod-lt (r * 2) (pow_pos 16)) (go (eqb (r / 32768) bit))
  where
    go : (b : Bool) → cond b 0 polynomial < 2 ^ 16
    go true = lit< tt
    go false = lit< tt

-- ---- the bits of a byte

pub after_lt : (r b : ℕ) → after_byte r b < 2 ^ 16
unfolding after_byte
after_lt r b = divided_lt _ (b % 2)

-- the lowest bit of each number
abbrev bits : List ℕ → List ℕ
bits = map (λ n. n % 2)

each_bit : (ns : List ℕ) (r : ℕ) → r < 2 ^ 16 → foldl divided r (bits ns) ≡ foldl fed r (bits ns)
each_bit [] r h = refl
each_bit (n ∷ ns) r h =
    each_bit ns (divided r (n % 2)) (divided_lt r (n % 2)) ∙ ap (λ (x : ℕ). foldl fed x (bits ns)) (one_bit r (n % 2) h (mod-lt n (pow_pos 1)))

-- of n, the remainder above its last eight bits and the byte in them: the division bit by bit, and by shifts
abbrev remainder : Lin
remainder = down 8 whole

abbrev byte : Lin
byte = low 8 whole

-- one more bit of the byte
abbrev more : Lin → Lin → Lin
more bit e = stepped after (e ⊕ up 15 (low 1 bit))

abbrev bit_by_bit : Lin
bit_by_bit =
    more byte (more (down 1 byte) (more (down 2 byte) (more (down 3 byte)
    (more (down 4 byte) (more (down 5 byte) (more (down 6 byte) (more (down 7 byte) remainder)))))))

abbrev leaves : Lin
leaves = down 8 remainder ⊕ byte

abbrev taken : Lin
taken = leaves ⊕ down 4 leaves

abbrev pub by_shifts : Lin
by_shifts = low 16 (up 8 remainder) ⊕ low 16 (up 12 taken) ⊕ low 16 (up 5 taken) ⊕ taken

-- the same of a remainder and a byte
abbrev quick : ℕ → ℕ → ℕ
quick r b = bit_xor (bit_xor (r / 2 ^ 8) b) (bit_xor (r / 2 ^ 8) b / 2 ^ 4)

abbrev pub eight : ℕ → ℕ → ℕ
eight r b = bit_xor (bit_xor (bit_xor (r * 2 ^ 8 % 2 ^ 16) (quick r b * 2 ^ 12 % 2 ^ 16)) (quick r b * 2 ^ 5 % 2 ^ 16)) (quick r b)

-- a remainder and a byte as one number
abbrev joined : ℕ → ℕ → ℕ
joined r b = r * 2 ^ 8 + b

module _ (r b : ℕ) (r_in : r < 2 ^ 16) (b_in : b < 2 ^ 8) where
  above : joined r b / 2 ^ 8 ≡ r
  above = high r 8 b_in

  below : joined r b % 2 ^ 8 ≡ b
  below = low_of r 8 b_in

  joined_lt : joined r b < 2 ^ 24
  joined_lt = digits_lt r_in b_in

  is_bit_by_bit : at bit_by_bit (joined r b) ≡ after_byte r b
  unfolding after_byte
  is_bit_by_bit =
      ap₂ (λ (x y : ℕ). foldl fed x (bits_of y)) above below
      ∙ sym (each_bit (b / 128 ∷ b / 64 ∷ b / 32 ∷ b / 16 ∷ b / 8 ∷ b / 4 ∷ b / 2 ∷ b ∷ []) r r_in)

  pub at_once : at by_shifts (joined r b) ≡ after_byte r b
  at_once = sym (agree bit_by_bit by_shifts 24 tt (joined r b) joined_lt) ∙ is_bit_by_bit

  -- what the code computes
  pub shifted : eight r b ≡ after_byte r b
  shifted = ap₂ eight (sym above) (sym below) ∙ at_once

-- ---- what the remainder tells of the one before it and of the byte

-- what was taken, from the last eight bits
abbrev taken_back : Lin
taken_back = byte ⊕ low 8 (up 5 byte)

abbrev leaves_back : Lin
leaves_back = taken_back ⊕ down 4 taken_back

-- the last eight bits of the remainder before
abbrev stays_back : Lin
stays_back = down 8 whole ⊕ low 8 (up 4 taken_back) ⊕ down 3 taken_back

module _ (r b : ℕ) (r_in : r < 2 ^ 16) (b_in : b < 2 ^ 8) where
  tells_leaves : at leaves_back (after_byte r b) ≡ bit_xor (r / 2 ^ 8) b
  tells_leaves =
      ap (at leaves_back) (sym (at_once r b r_in b_in))
      ∙ agree (leaves_back after by_shifts) leaves 24 tt (joined r b) (joined_lt r b r_in b_in)
      ∙ ap₂ (λ (x y : ℕ). bit_xor (x / 2 ^ 8) y) (above r b r_in b_in) (below r b r_in b_in)

  tells_stays : at stays_back (after_byte r b) ≡ r % 2 ^ 8
  tells_stays =
      ap (at stays_back) (sym (at_once r b r_in b_in))
      ∙ agree (stays_back after by_shifts) (low 8 remainder) 24 tt (joined r b) (joined_lt r b r_in b_in)
      ∙ ap (λ (x : ℕ). x % 2 ^ 8) (above r b r_in b_in)

pub tells_byte : (r b c : ℕ) → r < 2 ^ 16 → b < 2 ^ 8 → c < 2 ^ 8 → after_byte r b ≡ after_byte r c → b ≡ c
tells_byte r b c h p q e = xor_cancel (r / 2 ^ 8) b c (sym (tells_leaves r b h p) ∙ ap (at leaves_back) e ∙ tells_leaves r c h q)

pub tells_remainder : (r s b : ℕ) → r < 2 ^ 16 → s < 2 ^ 16 → b < 2 ^ 8 → after_byte r b ≡ after_byte s b → r ≡ s
tells_remainder r s b h k p e =
    let leave = sym (tells_leaves r b h p) ∙ ap (at leaves_back) e ∙ tells_leaves s b k p in
    let highs = xor_cancel b (r / 2 ^ 8) (s / 2 ^ 8) (xor_comm b (r / 2 ^ 8) ∙ leave ∙ xor_comm (s / 2 ^ 8) b) in
    let lows = sym (tells_stays r b h p) ∙ ap (at stays_back) e ∙ tells_stays s b k p in
    sym (split r 8) ∙ ap₂ (λ (x y : ℕ). x * 2 ^ 8 + y) highs lows ∙ split s 8
