-- `bank::open` meets its contract: by what is done to the slot by itself. Assumes nothing.
use borrow.Author.Rules.{rules}
use mathlib.Core.Path.{refl}
use Rattle.bank.specs.Calls.{settled}
use Rattle.bank.specs.Calls.{opened_at}
use Rattle.bank.proofs.Found.{answered}
use Rattle.bank.proofs.open.Goals as goal

pub returns : goal.returns
unfolding opened_at
returns c = answered settled (λ b n. opened_at b n c.args.nominal c.args.rate c.args.soc) _ (λ e. refl) refl c.at_slot.ensures (λ p q k. search rules)
