-- `take_byte`, by where the reader stands. Assumes nothing.
use Rattle.phs.proofs.Stepping.{byte_at, over}
use Rattle.phs.proofs.byte.take_byte.Goals as goal

pub returns-in-InHeader : goal.returns-in-InHeader
returns-in-InHeader c = byte_at c.args.r c.args.bank.now c.args.b c.in-InHeader.is c.header_byte.ensures

pub returns-in-InSamples : goal.returns-in-InSamples
returns-in-InSamples c = byte_at c.args.r c.args.bank.now c.args.b c.in-InSamples.is c.sample_byte.ensures

pub returns-in-Over : goal.returns-in-Over
returns-in-Over c = byte_at c.args.r c.args.bank.now c.args.b c.in-Over.is (over c.args.r c.args.bank.now c.args.b)
