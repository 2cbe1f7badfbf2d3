-- `bank::push` meets its contract: by what is done to the slot by itself. Assumes nothing.
use borrow.Author.Rules.{rules}
use mathlib.Core.Path.{refl}
use Rattle.feed.specs.Answers.{said}
use Rattle.bank.specs.Calls.{pushed_at}
use Rattle.bank.proofs.Found.{answered}
use Rattle.bank.proofs.push.Goals as goal

pub returns : goal.returns
unfolding pushed_at
returns c = answered said (λ b n. pushed_at b n c.args.s) _ (λ e. refl) refl c.at_slot.ensures (λ p q k. search rules)
