-- A list of refusals, taken one at a time: one that is not due is passed, one that is due is given. Assumes nothing.
use mathlib.Core.Path.{◌≡◌, ap}
use mathlib.Core.Bool.{Bool, true, false, cond}
use mathlib.Core.List.{List, ◌∷◌}
use Prim.Native.Nat.{ℕ}
use Rattle.refusals.specs.Refusals.{Refusal, unless_refused}

module _ {A : Type 0} (r : Refusal) (rs : List Refusal) (refuse : ℕ → A) (grant : A) where
  pub pass : r.due ≡ false → unless_refused (r ∷ rs) refuse grant ≡ unless_refused rs refuse grant
  pass e = ap (λ (t : Bool). cond t (refuse r.number) (unless_refused rs refuse grant)) e

  pub stop : r.due ≡ true → unless_refused (r ∷ rs) refuse grant ≡ refuse r.number
  stop e = ap (λ (t : Bool). cond t (refuse r.number) (unless_refused rs refuse grant)) e
