-- `text::fill` meets its contract. The loop's invariant is `Filling`, and each way through a turn is one of its steps. Assumes nothing.
use Rattle.std.specs.Slice.Iter.{iter_rest}
use Rattle.text.proofs.Filling.{Filling}
use Rattle.text.proofs.fill.Given as goal

abbrev pub invariant-loop-b : goal.invariant-loop-b
invariant-loop-b l = Filling l.form l.fn.words l.initial.out l.out l.end l.b-index (iter_rest l.words)
