-- `Place::put_window` writes the numbers of the places in two runs, which is the places round. Assumes nothing.
use Rattle.std.proofs.Common.{ℕ, ◌*◌, take, drop, ap, ◌∙◌}
use Rattle.feed.proofs.Numbers.{window_is}
use Rattle.feed.proofs.places.Place.put_window.Goals as goal

pub returns : goal.returns
returns c =
    let l = c.args.places.now in
    let p = c.args.self in
    let at = ap (λ (n : ℕ). 6 * n) c.from.ensures in
    window_is l p.number p.one_of_31 c.told-places _ _
    (c.split_at.ensures.back ∙ ap (λ (k : ℕ). drop k l) at) (c.split_at.ensures.front ∙ ap (λ (k : ℕ). take k l) at)
    c.args.window.now c.told-window _ c.put_numbers.ensures _ c.put_numbers-2.ensures
