-- `text::fill` meets its contract. The loop's invariant is `Filling`, and each way through a turn is one of its steps. Assumes nothing.
use Rattle.std.proofs.Common.{arith}
use Rattle.text.proofs.Filling.{byte, word, none}
use Rattle.text.proofs.fill.Goals.{then-b-ne37, else-b-ne37+in-Some, else-b-ne37+in_default}
use Rattle.text.proofs.fill.Goals as goal

pub loop-b-preserved : goal.loop-b-preserved
loop-b-preserved c =
    let f = c.loop-b.invariant in
    elim c.if-b-ne37.branch [
      | then-b-ne37 w ↦ rw (w.out-is, w.words-is, w.end-is) (byte f (omega arith) (omega arith) (omega arith) w.if-b-ne37.true)
      | else-b-ne37+in-Some w ↦ rw (w.out-is, w.words-is, w.end-is) (word f (omega arith) (omega arith) _ _ _ w.if-b-ne37.false w.in-Some.ensures.steps w.put_word-end.ensures)
      | else-b-ne37+in_default w ↦ rw (w.out-is, w.words-is, w.end-is, w.in_default.ensures.steps.1) (none f (omega arith) (omega arith) w.if-b-ne37.false w.in_default.ensures.steps.0)
    ]
