-- `header_byte`, by how many bytes are kept. Assumes nothing.
use Rattle.phs.proofs.Answering.{settles}
use Rattle.phs.proofs.Stepping.{header_more, header_ends}
use Rattle.phs.proofs.byte.header_byte.Goals as goal

pub returns-then-r-lt10 : goal.returns-then-r-lt10
returns-then-r-lt10 c = header_more c.args.r c.args.bank.now c.args.b c.if-r-lt10.true c.keep.ensures

pub returns : goal.returns
returns c = header_ends c.args.r c.args.bank.now c.args.b c.if-r-lt10.false (settles _ c.begin-ended.result _ c.begin-ended.ensures c.settle.ensures)
