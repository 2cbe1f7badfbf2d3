-- `salvage::slot::trim` meets its contract: what is zeroed stands after the filled places. Assumes nothing.
use Rattle.std.proofs.Common.{◌≡◌, length, arith, rules}
use Rattle.bank.specs.Slot.{head_in}
use Rattle.salvage.specs.Slots.{filled_to, trimmed}
use Rattle.salvage.proofs.Trims.{zeroed_from}
use Rattle.salvage.proofs.slot.trim.Goals as goal

pub returns : goal.returns
unfolding trimmed head_in
returns c =
    let s = c.args.slot in
    let size : length s ≡ 256 = search rules in
    zeroed_from s _ _ (filled_to s) (omega (arith, c.from.ensures)) (omega arith) size (c.fill.ensures.after (λ y e. e))
