-- The sizes of what is scaled and turned: the turn only exchanges and negates. Assumes nothing.
use Rattle.std.proofs.Common.{ℕ, pos, arith}
use Rattle.ints.proofs.Size.{size_neg, size_mul}
use Rattle.model.specs.Angle.{turned, scaled}
use Rattle.model.specs.Bounds.{Sized, Small, cap}
use Rattle.model.specs.declared.filter.Phasor.{Phasor}

-- the turn keeps the sizes
pub turned_sized : (m : ℕ) (p : Phasor) → Sized m p.re p.im → Sized m (turned p).re (turned p).im
unfolding turned
turned_sized m p s = record { re_size = grind (arith, size_neg); im_size = grind (arith, size_neg) }

-- 65536 times a small positive sequence is where the steps begin
pub scaled_sized : (p : Phasor) → Small p → Sized (cap 0) (scaled p).re (scaled p).im
unfolding scaled cap
scaled_sized p s = record { re_size = omega (arith, size_mul p.re (pos 65536), s.re_size); im_size = omega (arith, size_mul p.im (pos 65536), s.im_size) }
