-- `bank::close` meets its contract: by what is done to the slot by itself. Assumes nothing.
use borrow.Author.Rules.{rules}
use mathlib.Core.Path.{refl}
use Rattle.bank.specs.Calls.{settled}
use Rattle.bank.specs.Calls.{closed_at}
use Rattle.bank.proofs.Found.{answered}
use Rattle.bank.proofs.close.Goals as goal

pub returns : goal.returns
unfolding closed_at
returns c = answered settled closed_at _ (λ e. refl) refl c.at_slot.ensures (λ p q k. search rules)
