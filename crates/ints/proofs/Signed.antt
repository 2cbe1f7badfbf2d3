-- Signed arithmetic in code, once for every expression and every width. An `Exp w` is what the code writes at the signed width w: `bits_of` is what
-- the machine holds, `val` the whole number that it stands for, `bound` a bound on its size. Where the bounds of all its parts are below half the
-- width's power, a test that antt computes, nothing wraps. Assumes nothing.
use mathlib.Core.Path.{◌≡◌, refl, ap, ap₂, ◌∙◌}
use mathlib.Core.Bool.{Bool, ◌&&◌}
use Prim.Native.Nat.{ℕ, ◌+◌, ◌*◌, ◌^◌, ◌≤◌, ◌<◌}
use native.Mathlib.Nat.{le_refl, le_trans}
use native.Mathlib.Omega.{arith}
use lib.Dec.{T, leb, ltb, ltb→lt, leb→le}
use lib.IntN.{ℤ, pos, neg_ℤ, nat_abs, ◌+ℤ◌, ◌-ℤ◌, ◌*ℤ◌, +ℤ_idl}
use lib.Signed.{shr_z, nat_abs-le}
use lib.Ieee.{binary64, in_float}
use mir.Syntax.{Width}
use mir.Val.{SFits, to_z, of_z, hbits}
use mir.Facts.{to_z-of_z, and_yes}
use Rattle.ints.specs.Whole.{floor_div}
use Rattle.ints.proofs.Floor.{shift_is_floor}
use Rattle.ints.proofs.Size.{size_add, size_minus, size_mul_le, size_neg, floor_smaller, size_fits, size_whole}

-- ---- the operations that join two numbers
pub data Op : Type 0 where
  plus less times : Op

abbrev pub apply : Op → ℤ → ℤ → ℤ
apply plus a b = a +ℤ b
apply less a b = a -ℤ b
apply times a b = a *ℤ b

-- how large a result can be
abbrev pub reach : Op → ℕ → ℕ → ℕ
reach plus m n = m + n
reach less m n = m + n
reach times m n = m * n

reaches : (o : Op) (a b : ℤ) {m n : ℕ} → nat_abs a ≤ m → nat_abs b ≤ n → nat_abs (apply o a b) ≤ reach o m n
reaches plus a b p q = omega (arith, size_add a b)
reaches less a b p q = omega (arith, size_minus a b)
reaches times a b p q = size_mul_le a b p q

-- ---- expressions
pub data Exp (w : Width) : Type 0 where
  -- a number of this width, at most b in size
  whole : (z : ℤ) (b : ℕ) → nat_abs z ≤ b → Exp w
  -- an unsigned number, cast
  count : (n b : ℕ) → n ≤ b → Exp w
  -- a signed number of another width, cast
  cast : (v : Width) (z : ℤ) → SFits v z → Exp w
  -- a local whose bits are known
  local : (n : ℕ) (z : ℤ) (b : ℕ) → n ≡ of_z w z → nat_abs z ≤ b → Exp w
  lit : ℤ → Exp w
  both : Op → Exp w → Exp w → Exp w
  neg : Exp w → Exp w
  -- `x >> k`
  shift : Exp w → ℕ → Exp w

infixl 6 ◌⊕◌ ◌⊖◌
infixl 7 ◌⊗◌
abbrev pub ◌⊕◌ : {w : Width} → Exp w → Exp w → Exp w
x ⊕ y = both plus x y

abbrev pub ◌⊖◌ : {w : Width} → Exp w → Exp w → Exp w
x ⊖ y = both less x y

abbrev pub ◌⊗◌ : {w : Width} → Exp w → Exp w → Exp w
x ⊗ y = both times x y

abbrev pub bits_of : {w : Width} → Exp w → ℕ
bits_of {w} (whole z b h) = of_z w z
bits_of {w} (count n b h) = n
bits_of {w} (cast v z f) = of_z w (to_z v (of_z v z))
bits_of {w} (local n z b e h) = n
bits_of {w} (lit z) = of_z w z
bits_of {w} (both o x y) = of_z w (apply o (to_z w (bits_of x)) (to_z w (bits_of y)))
bits_of {w} (neg x) = of_z w (pos 0 -ℤ to_z w (bits_of x))
bits_of {w} (shift x k) = of_z w (shr_z (to_z w (bits_of x)) (2 ^ k))

-- what the last operation gives, which has to fit
abbrev pub raw : {w : Width} → Exp w → ℤ
raw {w} (whole z b h) = z
raw {w} (count n b h) = pos n
raw {w} (cast v z f) = to_z v (of_z v z)
raw {w} (local n z b e h) = to_z w n
raw {w} (lit z) = z
raw {w} (both o x y) = apply o (to_z w (bits_of x)) (to_z w (bits_of y))
raw {w} (neg x) = pos 0 -ℤ to_z w (bits_of x)
raw {w} (shift x k) = shr_z (to_z w (bits_of x)) (2 ^ k)

abbrev pub val : {w : Width} → Exp w → ℤ
val (whole z b h) = z
val (count n b h) = pos n
val (cast v z f) = z
val (local n z b e h) = z
val (lit z) = z
val (both o x y) = apply o (val x) (val y)
val (neg x) = neg_ℤ (val x)
val (shift x k) = floor_div (val x) (2 ^ k)

abbrev pub bound : {w : Width} → Exp w → ℕ
bound (whole z b h) = b
bound (count n b h) = b
bound (cast v z f) = 2 ^ hbits v
bound (local n z b e h) = b
bound (lit z) = nat_abs z
bound (both o x y) = reach o (bound x) (bound y)
bound (neg x) = bound x
bound (shift x k) = bound x

-- the bound of each part is below half the width's power
abbrev pub small : {w : Width} → Exp w → Bool
small {w} (whole z b h) = ltb b (2 ^ hbits w)
small {w} (count n b h) = ltb b (2 ^ hbits w)
small {w} (cast v z f) = ltb (2 ^ hbits v) (2 ^ hbits w)
small {w} (local n z b e h) = ltb b (2 ^ hbits w)
small {w} (lit z) = ltb (nat_abs z) (2 ^ hbits w)
small {w} (both o x y) = (small x && small y) && ltb (reach o (bound x) (bound y)) (2 ^ hbits w)
small {w} (neg x) = small x
small {w} (shift x k) = small x

-- ---- what holds of every expression

-- it is no larger than its bound
pub within : {w : Width} (e : Exp w) → nat_abs (val e) ≤ bound e
within (whole z b h) = h
within (count n b h) = h
within (cast v z f) = nat_abs-le z f.sfits
within (local n z b e h) = h
within (lit z) = le_refl (nat_abs z)
within (both o x y) = reaches o (val x) (val y) (within x) (within y)
within (neg x) = omega (arith, size_neg (val x), within x)
within (shift x k) = omega (arith, floor_smaller (val x) (2 ^ k), within x)

-- the tests of the two parts, and of what joins them
module _ {w : Width} (o : Op) (x y : Exp w) (t : T (small (both o x y))) where
  parts : T (small x && small y) × T (ltb (reach o (bound x) (bound y)) (2 ^ hbits w))
  parts = and_yes (small x && small y) (ltb (reach o (bound x) (bound y)) (2 ^ hbits w)) t

  left : T (small x)
  left = (and_yes (small x) (small y) parts.0).0

  right : T (small y)
  right = (and_yes (small x) (small y) parts.0).1

room : {w : Width} (e : Exp w) → T (small e) → bound e < 2 ^ hbits w
room {w} (whole z b h) t = ltb→lt b (2 ^ hbits w) t
room {w} (count n b h) t = ltb→lt b (2 ^ hbits w) t
room {w} (cast v z f) t = ltb→lt (2 ^ hbits v) (2 ^ hbits w) t
room {w} (local n z b e h) t = ltb→lt b (2 ^ hbits w) t
room {w} (lit z) t = ltb→lt (nat_abs z) (2 ^ hbits w) t
room {w} (both o x y) t = ltb→lt (reach o (bound x) (bound y)) (2 ^ hbits w) (parts o x y t).1
room {w} (neg x) t = room x t
room {w} (shift x k) t = room x t

val_fits : {w : Width} (e : Exp w) → T (small e) → SFits w (val e)
val_fits e t = size_fits (val e) (within e) (room e t)

-- what is read back from the bits of a result is the number
back : {w : Width} (e : Exp w) → T (small e) → (r : ℤ) → r ≡ val e → to_z w (of_z w r) ≡ val e
back {w} e t r p = ap (λ (z : ℤ). to_z w (of_z w z)) p ∙ to_z-of_z {w = w} {z = val e} (val_fits e t)

-- `>>` of what is read is the floor
shifted : (y z : ℤ) (k : ℕ) → y ≡ z → shr_z y (2 ^ k) ≡ floor_div z (2 ^ k)
shifted y z k e = ap (λ (x : ℤ). shr_z x (2 ^ k)) e ∙ shift_is_floor z (2 ^ k)

-- the number that the machine reads is the whole number
pub at : {w : Width} (e : Exp w) → T (small e) → to_z w (bits_of e) ≡ val e
at (whole z b h) t = back (whole z b h) t z refl
at {w} (count n b h) t = back {w = w} (count n b h) t (pos n) refl
at (cast v z f) t = back (cast v z f) t (to_z v (of_z v z)) (to_z-of_z f)
at {w} (local n z b e h) t = ap (to_z w) e ∙ back (local n z b e h) t z refl
at (lit z) t = back (lit z) t z refl
at {w} (both o x y) t = back (both o x y) t (apply o (to_z w (bits_of x)) (to_z w (bits_of y))) (ap₂ (apply o) (at x (left o x y t)) (at y (right o x y t)))
at {w} (neg x) t = back (neg x) t (pos 0 -ℤ to_z w (bits_of x)) (+ℤ_idl (neg_ℤ (to_z w (bits_of x))) ∙ ap neg_ℤ (at x t))
at {w} (shift x k) t = back (shift x k) t (shr_z (to_z w (bits_of x)) (2 ^ k)) (shifted (to_z w (bits_of x)) (val x) k (at x t))

raw_is : {w : Width} (e : Exp w) → T (small e) → raw e ≡ val e
raw_is (whole z b h) t = refl
raw_is (count n b h) t = refl
raw_is (cast v z f) t = to_z-of_z f
raw_is (local n z b e h) t = at (local n z b e h) t
raw_is (lit z) t = refl
raw_is (both o x y) t = ap₂ (apply o) (at x (left o x y t)) (at y (right o x y t))
raw_is {w} (neg x) t = +ℤ_idl (neg_ℤ (to_z w (bits_of x))) ∙ ap neg_ℤ (at x t)
raw_is {w} (shift x k) t = shifted (to_z w (bits_of x)) (val x) k (at x t)

-- so the last operation does not overflow
pub fits : {w : Width} (e : Exp w) → T (small e) → SFits w (raw e)
fits e t = rw (raw_is e t) (val_fits e t)

-- what the machine reads is within the bound
pub sized : {w : Width} (e : Exp w) → T (small e) → nat_abs (to_z w (bits_of e)) ≤ bound e
sized e t = rw (at e t) (within e)

-- a number whose bound is at most 2 ^ 53 becomes an f64 and loses nothing
pub exact : {w : Width} (e : Exp w) → T (small e && leb (bound e) (2 ^ 53)) → T (in_float binary64 (to_z w (bits_of e)))
exact {w} e t =
    let b = and_yes (small e) (leb (bound e) (2 ^ 53)) t in
    rw (at e b.0) (size_whole (val e) (le_trans (within e) (leb→le (bound e) (2 ^ 53) b.1)))
