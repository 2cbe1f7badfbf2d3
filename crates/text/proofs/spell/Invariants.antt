-- `text::spell` meets its contract. The loop's invariant: the first i bytes are spelt, and what follows their digits is as it was. Assumes nothing.
use Rattle.std.proofs.Common.{◌≡◌, ◌++◌, ◌*◌, take, drop}
use Rattle.text.specs.Text.{hex_bytes}
use Rattle.text.proofs.spell.Given as goal

abbrev pub invariant-loop-i : goal.invariant-loop-i
invariant-loop-i l = l.out ≡ hex_bytes (take l.i l.bytes) ++ drop (2 * l.i) l.initial.out
