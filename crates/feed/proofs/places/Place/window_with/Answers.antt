-- `Place::window_with` is the window from the place after, with the sample put last. Assumes nothing.
use Rattle.std.proofs.Common.{FitsSigned, rules}
use Rattle.std.specs.Int.{w16}
use Rattle.std.proofs.lemmas.Int.{to_z-of_z}
use Rattle.feed.proofs.Numbers.{with_last}
use Rattle.feed.proofs.places.Place.window_with.Goals as goal

pub returns : goal.returns
returns c =
    let p = c.args.self in
    let s = c.args.s in
    let a : FitsSigned w16 s.a = search rules in
    let y : FitsSigned w16 s.b = search rules in
    let z : FitsSigned w16 s.c = search rules in
    rw (c.copy_from_slice.ensures.after, to_z-of_z w16 s.a a, to_z-of_z w16 s.b y, to_z-of_z w16 s.c z)
    (with_last c.args.places.now p.number p.one_of_31 c.told-places s (record { a_fits = a; b_fits = y; c_fits = z }) c.put_window.new.window c.put_window.array_long
    (rw c.next.ensures at c.put_window.ensures))
