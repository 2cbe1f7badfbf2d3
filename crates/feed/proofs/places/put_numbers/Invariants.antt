-- `put_numbers` reads two bytes for each number: those so far are the numbers in the bytes. Assumes nothing.
use Rattle.std.proofs.Common.{◌≡◌, take}
use Rattle.feed.specs.Inside.{numbers_in}
use Rattle.feed.proofs.places.put_numbers.Given as goal

abbrev pub invariant-loop-i : goal.invariant-loop-i
invariant-loop-i l = take l.i l.numbers ≡ numbers_in l.i l.bytes
