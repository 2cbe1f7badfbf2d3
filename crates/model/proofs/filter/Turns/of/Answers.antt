-- What holds of a table holds of two turns of it. Assumes nothing.
use Rattle.std.proofs.Common.{arith}
use Rattle.model.specs.Bounds.{TwoTurns}
use Rattle.model.proofs.Tables.{again, turns_tabled}
use Rattle.model.proofs.filter.Turns.of.Goals as goal

pub invariant_of-result : goal.invariant_of-result
invariant_of-result c =
    let two : TwoTurns c.args.table c.loop-n.entries = λ k h. c.loop-n.invariant.so_far k (omega arith) in
    record { again = again c.args.table c.loop-n.entries two; tabled = turns_tabled c.args.table c.loop-n.entries two c.requires }
