-- `put_refused` writes the line: the form filled with the counts is the line. Assumes nothing.
use Rattle.std.proofs.Common.{[], ◌∷◌, ◌++◌, refl, ◌∙◌, arith, ◌≡◌, length, rules}
use Rattle.phs.specs.Lines.{refused_word, refused_line}
use Rattle.phs.proofs.Putting.{three_counts, words_written}
use Rattle.phs.proofs.line.put_refused.Goals as goal

pub returns : goal.returns
unfolding refused_line
returns c =
    let size : length c.args.line.now ≡ 256 = search rules in
    words_written (refused_word ++ (32 ∷ 37 ∷ 10 ∷ []))
    (c.counts.ensures ∙ three_counts (c.from-number.ensures ∙ c.number.ensures) refl refl) c.put.ensures (omega arith) size
