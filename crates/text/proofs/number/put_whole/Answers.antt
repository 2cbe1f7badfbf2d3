-- `text::number::put_whole` meets its contract: a negative number's text is `-` and the digits of its size. Assumes nothing.
use Rattle.std.proofs.Common.{◌≡◌, pos, ◌<ℤ◌, arith, rules}
use Rattle.std.specs.Int.RustNames.{unsigned_abs}
use Rattle.std.proofs.lemmas.Int.{ints}
use Rattle.text.proofs.Signs.{signed_below}
use Rattle.text.proofs.Writing.{leads_after}
use Rattle.text.proofs.number.put_whole.Goals as goal

pub returns-then-z-lt0 : goal.returns-then-z-lt0
returns-then-z-lt0 c =
    let h : c.args.z <ℤ pos 0 = grind (arith, ints) in
    let size : c.unsigned_abs.result ≡ unsigned_abs c.args.z = search rules in
    rw (signed_below c.args.z h, ← size) (leads_after 45 20 _ _ _ _ (omega arith) c.put_number.ensures)
