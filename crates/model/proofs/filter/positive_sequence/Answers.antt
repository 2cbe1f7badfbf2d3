-- `positive_sequence` is re and im: both sums, over two turns of the tables; whole turns of the index change nothing. Assumes nothing.
use Rattle.std.proofs.Common.{◌≡◌, ◌+◌, ◌%◌, refl, ◌∙◌, arith}
use Rattle.model.specs.Filter.{cosines, sines, weighted, positive, windowed, lent_samples}
use Rattle.model.proofs.Tables.{turned, cosines_tabled, sines_tabled}
use Rattle.model.proofs.Same.{weighted_entries}
use Rattle.model.proofs.Signed.{signed}
use Rattle.model.proofs.Windows.{positive_turn}
use Rattle.model.proofs.filter.positive_sequence.Goals as goal

pub of-requires : goal.of-requires
of-requires c = cosines_tabled

pub of-requires-2 : goal.of-requires-2
of-requires-2 c = sines_tabled

pub returns-clause-is : goal.returns-clause-is
unfolding positive
returns-clause-is c =
    let window = lent_samples 31 c.args.window.now in
    let n = c.args.index % 15 in
    let x = windowed window n in
    let s = c.weighted_sums-sums.ensures in
    let re-is : c.weighted_sums-sums.result.cosine ≡ weighted cosines x (n + c.args.from + 14) =
    s.cosine ∙ weighted_entries _ cosines (turned cosines c.of.result.entries c.of.ensures) _ _ in
    let im-is : c.weighted_sums-sums.result.sine ≡ weighted sines x (n + c.args.from + 14) =
    s.sine ∙ weighted_entries _ sines (turned sines c.of-2.result.entries c.of-2.ensures) _ _ in
    let e = positive_turn window c.args.index c.args.from _ refl in
    grind (arith, signed)
