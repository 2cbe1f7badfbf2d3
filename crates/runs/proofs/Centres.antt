-- What refusal 17 says of the run. Assumes nothing.
use mathlib.Core.Path.{◌≡◌}
use mathlib.Core.Bool.{false}
use mathlib.Core.List.{List}
use Prim.Native.Nat.{ℕ, ◌+◌, ◌-◌, ◌≤◌}
use native.Mathlib.Omega.{arith}
use borrow.Author.Tests.{ltb-false}
use lib.Dec.{ltb}
use lib.IntN.{ℤ}
use lib.ListN.{length}
use Rattle.feed.proofs.Sound.{neither}
use Rattle.runs.specs.Runs.{no_centre}

-- where no refusal 17 is due, 15 samples lie on either side of the centre
pub in_run : (a : List ℤ) (centre : ℕ) → (no_centre a centre).due ≡ false → (15 ≤ centre) × (centre + 16 ≤ length a)
in_run a centre e =
    let p = neither (ltb centre 15) (ltb (length a - (centre + 1)) 15) e in
    let l = ltb-false (length a - (centre + 1)) 15 p.1 in
    (ltb-false centre 15 p.0, omega arith)
