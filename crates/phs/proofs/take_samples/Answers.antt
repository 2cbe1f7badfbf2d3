-- `take_samples` goes on by a sample in each turn, and takes one at least. Assumes nothing.
use Rattle.std.proofs.Common.{Err, refl, arith, lit≤}
use Rattle.phs.specs.declared.Stage.TheVariants.{InSamples}
use Rattle.phs.specs.Stream.{reader_at}
use Rattle.phs.proofs.Answering.{settles}
use Rattle.phs.proofs.Onwards.{onward_then, onward_sample}
use Rattle.phs.proofs.take_samples.Goals as goal

pub loop-six-preserved : goal.loop-six-preserved
loop-six-preserved c =
    let l = c.loop-six in
    let o = l.invariant.onward in
    record {
      onward = onward_then o
          (onward_sample (reader_at InSamples l.counts.reports l.counts.samples) l.out l.read l.written refl refl (lit≤ tt) o.within c.in-Some.ensures.cases
          c.sample_of.ensures o.fits (c.split_at_mut-room.ensures.front, c.split_at_mut-room.ensures.back) c.in-Some-first_chunk_mut.ensures.cases c.in-Ok.ensures);
      first = λ e. absurd (omega arith);
    }

pub returns-in-Err-clause-onward : goal.returns-in-Err-clause-onward
returns-in-Err-clause-onward c =
    let l = c.loop-six in
    let o = l.invariant.onward in
    onward_then o
    (onward_sample (reader_at InSamples l.counts.reports l.counts.samples) l.out l.read l.written refl refl (lit≤ tt) o.within c.in-Some.ensures.cases
    c.sample_of.ensures o.fits (c.split_at_mut-room.ensures.front, c.split_at_mut-room.ensures.back) c.in-Some-first_chunk_mut.ensures.cases
    (settles l.counts (Err c.in-Err.refused) _ c.in-Err.ensures c.refuse-s.ensures))
