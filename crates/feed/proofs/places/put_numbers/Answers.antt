-- `put_numbers` reads two bytes for each number: those so far are the numbers in the bytes. Assumes nothing.
use Rattle.std.proofs.Common.{◌≡◌, ℕ, ◌*◌, ◌<◌, List, [], ◌∷◌, ◌++◌, get_or, ℤ, FitsSigned, sym, ap, ◌∙◌, arith, rules, take_all}
use Rattle.std.specs.Int.{w16, cast_signed, cast_unsigned}
use Rattle.std.proofs.lemmas.List.{take_more_set}
use Rattle.feed.specs.Inside.{numbers_in}
use Rattle.feed.proofs.Numbers.{numbers_more}
use Rattle.feed.proofs.Words.{word_at, word_read}
use Rattle.feed.proofs.places.put_numbers.Goals as goal

pub loop-i-init : goal.loop-i-init
unfolding numbers_in
loop-i-init c = search rules

pub loop-i-preserved : goal.loop-i-preserved
loop-i-preserved c =
    let l = c.loop-i in
    let x = c.from_be_bytes in
    let bytes = c.args.bytes.now in
    let next : ℤ = word_at bytes (2 * l.i) in
    let fits : FitsSigned w16 x.result = search rules in
    let byte : (i : ℕ) → get_or bytes i 0 < 256 = search rules in
    let read : cast_signed w16 (cast_unsigned w16 x.result) ≡ next = word_read bytes _ x.result x.ensures fits byte ∙ ap (word_at bytes) (omega arith) in
    rw read (take_more_set l.numbers l.i next (search rules) ∙ ap (λ (s : List ℤ). s ++ (next ∷ [])) l.invariant ∙ sym (numbers_more l.i bytes))

pub returns : goal.returns
returns c = sym (take_all _ _ (search rules)) ∙ c.loop-i.invariant ∙ ap (λ (n : ℕ). numbers_in n c.args.bytes.now) (omega arith)
