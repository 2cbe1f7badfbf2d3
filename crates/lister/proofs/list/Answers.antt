-- What each read brings is read on from where the last one left the reader.
use Rattle.std.proofs.Common.{arith, tests}
use Rattle.lister.proofs.Told.{at_first, with_end, with_more, when_ended, told_at_end, told_when_over, ok_before}
use Rattle.lister.proofs.list.Goals as goal

pub loop-init : goal.loop-init
loop-init g c = at_first _ _ _ c.start-reader.ensures

pub loop-preserved : goal.loop-preserved
loop-preserved g c =
    with_more c.loop.invariant _ c.read.new.input c.in-Some.n _ c.give.result c.in_ok-n.ensures c.in-Some.is c.give.ensures
    (ok_before _ c.give.result c.in_ok-reader.reader c.in_ok-reader.ensures.cases)

pub returns-in_default-clause-tells : goal.returns-in_default-clause-tells
returns-in_default-clause-tells g c =
    let all = with_end c.loop.invariant _ c.read.new.input c.in_ok-n.ensures c.in_default.is in
    when_ended {left' = g.R.Read.remaining c.read.new.from} {held' = g.W.Write.contents c.finish.new.to} {bank' = c.loop.bank} c.finish.ensures.is_end
    (λ ok file b known. told_at_end all.0 (grind (arith, tests)) c.finish.ensures ok (all.1 (grind (arith, tests))) file known)

pub returns-then-is_over-clause-tells : goal.returns-then-is_over-clause-tells
returns-then-is_over-clause-tells g c =
    let all = with_more c.loop.invariant _ c.read.new.input c.in-Some.n _ c.give.result c.in_ok-n.ensures c.in-Some.is c.give.ensures
    (ok_before _ c.give.result c.in_ok-reader.reader c.in_ok-reader.ensures.cases) in
    when_ended {left' = g.R.Read.remaining c.read.new.from} {held' = g.W.Write.contents c.finish-then-is_over.new.to} {bank' = c.give.new.bank} c.finish-then-is_over.ensures.is_end
    (λ ok file b known. told_when_over all (grind (arith, tests)) c.finish-then-is_over.ensures ok (c.is_over.ensures.0 c.if-is_over.true) file b known)
