-- Each sample goes on from where the last one ended, and before the first nothing is written. Assumes nothing.
use Rattle.std.proofs.Common.{◌≡◌, ◌-◌, length}
use Rattle.phs.specs.declared.Stage.TheVariants.{InSamples}
use Rattle.phs.specs.Stream.{reader_at}
use Rattle.phs.specs.Inside.{Onward}
use Rattle.phs.proofs.take_samples.Given as goal

abbrev pub invariant-loop-six : goal.invariant-loop-six
invariant-loop-six l = record {
  onward : Onward l.part
      (record { reader = reader_at InSamples l.initial.counts.reports l.initial.counts.samples; bank = l.initial.bank; out = l.initial.out; read = 0; written = 0 })
      (record { reader = reader_at InSamples l.counts.reports l.counts.samples; bank = l.bank; out = l.out; read = l.read; written = l.written });
  first : l.read ≡ 0 → l.written ≡ 0;
}

abbrev pub decreases-loop-six : goal.decreases-loop-six
decreases-loop-six l = length l.part - l.read
