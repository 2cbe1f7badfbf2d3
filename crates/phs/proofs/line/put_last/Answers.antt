-- `put_last` writes the line: the form filled with the counts is the line. Assumes nothing.
use Rattle.std.proofs.Common.{[], ◌∷◌, ◌++◌, arith, ◌≡◌, length, rules}
use Rattle.phs.specs.Lines.{reports_word, samples_word, last_line}
use Rattle.phs.proofs.Putting.{words_written}
use Rattle.phs.proofs.line.put_last.Goals as goal

pub returns : goal.returns
unfolding last_line
returns c =
    let size : length c.args.line.now ≡ 256 = search rules in
    words_written (reports_word ++ (32 ∷ 37 ∷ 32 ∷ samples_word ++ (32 ∷ 37 ∷ 10 ∷ []))) c.counts.ensures c.put.ensures (omega arith) size
