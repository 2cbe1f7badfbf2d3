-- `text::number::put_digits` meets its contract. The loop's invariant: the digits of `rest` that are still to be put, and those that stand, give
-- what is to be shown. Assumes nothing.
use Rattle.std.proofs.Common.{◌≡◌, ◌++◌, length, drop}
use Rattle.text.specs.Text.{digits}
use Rattle.text.proofs.number.put_digits.Given as goal

abbrev pub invariant-loop-i : goal.invariant-loop-i
invariant-loop-i l = digits l.base l.i l.rest ++ drop l.i l.out ≡ digits l.base (length l.initial.out) l.n
