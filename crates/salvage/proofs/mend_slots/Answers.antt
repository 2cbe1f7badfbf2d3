-- `salvage::mend_slots` meets its contract: a turn mends one slot more. Assumes nothing.
use Rattle.std.proofs.Common.{◌≡◌, length, ap, ◌∙◌, arith, rules}
use Rattle.salvage.specs.Slots.{mended_slot, told}
use Rattle.salvage.proofs.Turns.{turn, all_told, all_mended}
use Rattle.salvage.proofs.mend_slots.Goals as goal

pub loop-k-preserved : goal.loop-k-preserved
loop-k-preserved c =
    let slot = rw c.unwrap.ensures at c.as_array.ensures.cases in
    let mends = c.mend_slot.ensures in
    turn (omega arith) c.loop-k.invariant (mends.1 ∙ ap told slot.same) (c.copy_from_slice.ensures.after ∙ mends.0 ∙ ap mended_slot slot.same)

pub returns : goal.returns
returns c =
    let all : c.loop-k.k ≡ 16 = omega arith in
    let whole : length c.args.image.now ≡ 4096 = search rules in
    (all_told all whole c.loop-k.invariant, all_mended all whole c.loop-k.invariant)
