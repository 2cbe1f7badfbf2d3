-- `bank::slot::at_slot` meets its contract: the part that is lent is the slot, and what the step leaves there is put in its place. Assumes nothing.
use borrow.Author.Rules.{rules}
use mathlib.Core.Path.{◌≡◌, refl, ◌∙◌, ap}
use mathlib.Core.List.{List}
use Prim.Native.Nat.{ℕ}
use lib.ListN.{take, drop}
use Rattle.std.proofs.Common.{inr}
use Rattle.bank.proofs.Found.{stands}
use Rattle.bank.proofs.slot.at_slot.Goals as goal

pub returns : goal.returns
returns g c =
    let f = stands c.in_ok-start.ensures in
    let rest : c.split_at_mut-rest.result.1.now ≡ drop c.in_ok-start.start c.args.bank.now = search rules in
    let bytes : c.unwrap.result.0.now ≡ take 256 c.split_at_mut-rest.result.1.now = search rules in
    let front : c.split_at_mut-rest.result.0.now ≡ take c.in_ok-start.start c.args.bank.now = search rules in
    let after : c.unwrap.result.1.now ≡ drop 256 c.split_at_mut-rest.result.1.now = search rules in
    inr (
      c.step.new.arg2,
      f.there,
      record { shown = c.unwrap.result.0; shows = bytes ∙ ap (λ (l : List ℕ). take 256 l) rest ∙ f.bytes; left = _; met = c.step.ensures; leaves = refl },
      rw (front, after, rest) (f.back c.step.new.arg2),
    )
