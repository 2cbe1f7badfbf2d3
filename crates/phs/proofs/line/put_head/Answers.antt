-- `put_head` writes the line: the form filled with the counts is the line. Assumes nothing.
use Rattle.std.proofs.Common.{[], ◌∷◌, ◌++◌, ◌∙◌, arith, ◌≡◌, length, rules}
use Rattle.phs.specs.Lines.{phs_word, head_line}
use Rattle.phs.proofs.Putting.{three_counts, words_written}
use Rattle.phs.proofs.line.put_head.Goals as goal

pub returns : goal.returns
unfolding head_line
returns c =
    let size : length c.args.line.now ≡ 256 = search rules in
    words_written (phs_word ++ (32 ∷ 37 ∷ 32 ∷ 37 ∷ 32 ∷ 37 ∷ 10 ∷ []))
    (c.counts-words.ensures ∙ three_counts c.from.ensures c.from-2.ensures c.from-3.ensures) c.put.ensures (omega arith) size
