-- Any two answers that a public contract admits coincide: each contract says that the answer is one thing. Assumes nothing.
use mathlib.Core.Path.{◌≡◌, sym, ◌∙◌}
use Prim.Native.Nat.{ℕ}
use lib.IntN.{ℤ}
use Rattle.bits.specs.Bits.{be16, be32, signed16, signed32}

pub be16_unique : (high low r s : ℕ) → r ≡ be16 high low → s ≡ be16 high low → r ≡ s
be16_unique high low r s p q = p ∙ sym q

pub be32_unique : (a b c d r s : ℕ) → r ≡ be32 a b c d → s ≡ be32 a b c d → r ≡ s
be32_unique a b c d r s p q = p ∙ sym q

pub signed16_unique : (n : ℕ) (r s : ℤ) → r ≡ signed16 n → s ≡ signed16 n → r ≡ s
signed16_unique n r s p q = p ∙ sym q

pub signed32_unique : (n : ℕ) (r s : ℤ) → r ≡ signed32 n → s ≡ signed32 n → r ≡ s
signed32_unique n r s p q = p ∙ sym q
