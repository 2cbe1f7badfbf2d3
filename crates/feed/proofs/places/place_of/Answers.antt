-- `place_of` answers the two bytes of a, b and c. Assumes nothing.
use Rattle.std.proofs.Common.{FitsSigned, rules}
use Rattle.std.specs.Int.{w16}
use Rattle.feed.specs.Places.{place_of}
use Rattle.feed.proofs.Words.{word_written}
use Rattle.feed.proofs.places.place_of.Goals as goal

pub returns : goal.returns
unfolding place_of
returns c =
    let s = c.args.s in
    let x : FitsSigned w16 s.a = search rules in
    let y : FitsSigned w16 s.b = search rules in
    let z : FitsSigned w16 s.c = search rules in
    rw (word_written s.a x _ c.to_be_bytes-a.ensures, word_written s.b y _ c.to_be_bytes-b.ensures, word_written s.c z _ c.to_be_bytes-c.ensures)
