-- After i terms each local is its sum of the first `first` + i. Assumes nothing.
use Rattle.std.proofs.Common.{◌+◌}
use Rattle.model.specs.Filter.{lent_samples}
use Rattle.model.specs.Bounds.{FirstTerms}
use Rattle.model.proofs.filter.Tables.with_terms.Given as goal

abbrev pub invariant-loop-i : goal.invariant-loop-i
invariant-loop-i l = record {
  cosine_is : FirstTerms l.self.cosines.entries (lent_samples 31 l.window) l.n l.from (l.first + l.i) l.cosine;
  sine_is : FirstTerms l.self.sines.entries (lent_samples 31 l.window) l.n l.from (l.first + l.i) l.sine;
}
