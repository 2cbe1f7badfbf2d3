-- `sample_byte`, by how many bytes are kept. Assumes nothing.
use Rattle.std.proofs.Common.{ap, ◌∙◌}
use Rattle.feed.specs.Places.{sample_of}
use Rattle.bank.specs.Calls.{pushed_at}
use Rattle.phs.specs.Stream.{sampled}
use Rattle.phs.proofs.Answering.{steps_as, settles}
use Rattle.phs.proofs.Room.{six_first}
use Rattle.phs.proofs.Stepping.{sample_more, sample_ends}
use Rattle.phs.proofs.byte.sample_byte.Goals as goal

pub returns-then-r-lt5 : goal.returns-then-r-lt5
returns-then-r-lt5 c = sample_more c.args.r c.args.bank.now c.args.b c.if-r-lt5.true c.keep.ensures

pub returns : goal.returns
returns c =
    let six = rw c.unwrap.ensures at c.first_chunk.ensures.cases in
    let counts = c.counts-counts.ensures in
    sample_ends c.args.r c.args.bank.now c.args.b c.if-r-lt5.false (c.sample_of-s.ensures ∙ ap sample_of six.same ∙ six_first _)
    (steps_as (λ i. sampled (counts i).reports (counts i).samples (pushed_at c.args.bank.now 0 c.sample_of-s.result))
    (settles _ c.take_sample-ended.result _ c.take_sample-ended.ensures c.settle.ensures))
