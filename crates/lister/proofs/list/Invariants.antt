-- What the reads so far brought is read and its text is written.
use Rattle.lister.specs.Inside.{SoFar}
use Rattle.lister.proofs.list.Given as goal

abbrev pub invariant-loop : goal.invariant-loop
invariant-loop g l =
    SoFar l.fn.bank (g.R.Read.remaining l.fn.from) (g.R.Read.remaining l.from) (g.W.Write.contents l.fn.to) (g.W.Write.contents l.to) l.reader l.bank
