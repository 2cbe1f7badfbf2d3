-- `sample_in` is the three numbers of the sample. Assumes nothing.
use Rattle.std.proofs.Common.{arith}
use Rattle.model.proofs.Signed.{signed}
use Rattle.model.proofs.Windows.{sample_in}
use Rattle.model.proofs.filter.sample_in.Goals as goal

pub returns : goal.returns
returns c = grind (arith, signed, sample_in)
