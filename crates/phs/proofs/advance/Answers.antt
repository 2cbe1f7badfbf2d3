-- `advance` takes a whole sample and those after it, or one byte. Assumes nothing.
use Rattle.std.proofs.Common.{◌≡◌, length, sym, ◌∙◌, arith, rules}
use Rattle.phs.proofs.Onwards.{begins_is, onward_then, onward_fresh, onward_byte}
use Rattle.phs.proofs.advance.Goals as goal

pub returns-then-begins_sample-clause-onward : goal.returns-then-begins_sample-clause-onward
returns-then-begins_sample-clause-onward c =
    let r = c.args.r in
    let kept : length r.kept ≡ 11 = search rules in
    let b = begins_is r (length c.args.part.now) (sym c.begins_sample.ensures ∙ c.if-begins_sample.true) in
    onward_then (onward_fresh r b.in_samples b.none_held (omega arith) (omega (arith, b.is_whole)) c.requires.1)
    (rw c.counts.ensures at c.take_samples.ensures.onward)

pub returns-clause-onward : goal.returns-clause-onward
returns-clause-onward c = onward_byte c.args.r c.args.out.now c.requires.0 c.in-Some.ensures.cases c.take_byte-s.ensures
