-- `bank::damage::is_blank` meets its contract. Assumes nothing.
use borrow.Author.Rules.{rules}
use mathlib.Core.Path.{◌∙◌}
use mathlib.Core.Bool.{Bool, true, ◌&&◌}
use Prim.Native.Nat.{ℕ}
use lib.Dec.{eqb}
use Rattle.std.proofs.lemmas.Iterator.{YieldsList-from_slice}
use Rattle.std.proofs.lemmas.Iterator.Consumers.{fold_from_yields_List}
use Rattle.bank.proofs.Blank.{blank_fold}
use Rattle.bank.proofs.damage.is_blank.Goals as goal

pub returns : goal.returns
returns c =
    let s = c.args.s.now in
    fold_from_yields_List _ (λ (z : Bool) (b : ℕ). z && eqb b 0) true _ c.fold.ensures.ran (YieldsList-from_slice s cc) (λ a x b q k. search rules) ∙ blank_fold true s
