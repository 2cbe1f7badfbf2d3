-- `salvage::slot::count` meets its contract: what differs is counted on in 16 bits, which have room for it. Assumes nothing.
use borrow.Author.Rules.{rules}
use mathlib.Core.Path.{◌∙◌}
use native.Mathlib.Omega.{arith}
use Rattle.std.proofs.lemmas.Iterator.{YieldsList-from_slice, YieldsList-from_zip}
use Rattle.std.proofs.lemmas.Iterator.Consumers.{fold_from_yields_List}
use Rattle.salvage.proofs.Counts.{count_on, counted_on}
use Rattle.salvage.proofs.slot.count.Goals as goal

pub returns : goal.returns
returns c =
    let b = c.args.before.now in
    let a = c.args.after.now in
    fold_from_yields_List _ count_on 0 _ c.fold.ensures.ran
    (YieldsList-from_zip (YieldsList-from_slice b cc) (YieldsList-from_slice a cc)) (λ a x b q k. search rules)
    ∙ counted_on b a 0 (omega (arith, c.told-before)) ∙ omega arith
