-- `Feed::take` stores the sample and the phases as the rule does, with the report that is due or without one. Assumes nothing.
use Rattle.std.proofs.lemmas.Result.{err_from_is_err_and}
use Rattle.feed.proofs.Pushes.{refused_3, refused_8, answered}
use Rattle.feed.proofs.Feed.take.Goals as goal

pub returns-in_err-head : goal.returns-in_err-head
returns-in_err-head c =
    let f = c.args.self.now in
    let p = err_from_is_err_and c.from_residual.result c.from_residual.ensures.1 in
    let was = c.in_err-head.ensures in
    rw (p.1, p.2, was.0) (refused_3 f c.args.s was.1)

pub returns-in_err-next : goal.returns-in_err-next
returns-in_err-next c =
    let f = c.args.self.now in
    let p = err_from_is_err_and c.from_residual-in_err-next.result c.from_residual-in_err-next.ensures.1 in
    let was = c.in_err-next.ensures in
    rw (p.1, p.2, was.0) (refused_8 f c.args.s (rw c.in_ok-head.ensures at c.in_ok-head.head.in_order) (rw c.in_ok-head.ensures at was.1))

pub returns : goal.returns
returns c =
    let h = c.in_ok-head.head in
    answered c.args.self.now c.args.s h.head c.in_ok-head.ensures h.in_order _ c.in_ok-next.ensures _ c.place.ensures _ c.window_with-window.ensures
    _ (rw c.newest.ensures at c.moved_on-kept.ensures) _ (rw (c.place-2.ensures, ← c.place.ensures) at c.put.ensures) _ c.report.ensures
