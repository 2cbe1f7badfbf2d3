-- `sample_of` answers the sample in six bytes, two to a number. Assumes nothing.
use Rattle.std.proofs.Common.{ℕ, ◌<◌, get_or, FitsSigned, rules}
use Rattle.std.specs.Int.{w16}
use Rattle.feed.specs.Places.{sample_of}
use Rattle.feed.proofs.Words.{word_read}
use Rattle.feed.proofs.places.sample_of.Goals as goal

pub returns : goal.returns
unfolding sample_of
returns c =
    let byte : (i : ℕ) → get_or c.args.p i 0 < 256 = search rules in
    let x : FitsSigned w16 c.from_be_bytes.result = search rules in
    let y : FitsSigned w16 c.from_be_bytes-2.result = search rules in
    let z : FitsSigned w16 c.from_be_bytes-3.result = search rules in
    let p = c.args.p in
    λ i. record { a = word_read p 0 _ c.from_be_bytes.ensures x byte i; b = word_read p 2 _ c.from_be_bytes-2.ensures y byte i; c = word_read p 4 _ c.from_be_bytes-3.ensures z byte i }
