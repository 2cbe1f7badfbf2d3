-- `apart` answers |unit·device - reference|: a product of 16-bit numbers fits 64 bits. Assumes nothing.
use Rattle.std.proofs.Common.{arith, ◌*ℤ◌, pos, FitsSigned, lit<}
use Rattle.std.specs.Int.{w64}
use Rattle.std.proofs.lemmas.Int.{ints, fits_signed_mul, to_z-of_z}
use Rattle.verdict.proofs.errors.apart.Goals as goal

pub returns : goal.returns
returns c =
    let p : FitsSigned w64 (pos c.args.unit *ℤ c.args.device) = fits_signed_mul w64 (pos c.args.unit) c.args.device 65536 32768 (omega arith) (omega (arith, ints)) (lit< tt) in
    grind (arith, to_z-of_z)
