-- The rate that a header means is served where its rate is served or 0, and an opening keeps it as it is. Assumes nothing.
use mathlib.Core.Path.{◌≡◌}
use mathlib.Core.Bool.{Bool, true, false, cond, ◌&&◌, ◌||◌}
use Prim.Native.Nat.{ℕ}
use lib.Dec.{eqb}
use Rattle.sampling.specs.Tags.{served_nominal, served_rate, kept_rate}
use Rattle.sampling.proofs.Rates.{ten_served, kept_served, kept_again}
use Rattle.header.specs.Header.{meant_rate}

module _ (version nominal rate : ℕ) (served : served_nominal nominal ≡ true) (given : (served_rate nominal rate || eqb rate 0) ≡ true) where
  pub meant_served : served_rate nominal (meant_rate version nominal rate) ≡ true
  unfolding meant_rate
  meant_served = go (eqb version 1 && eqb rate 0)
    where
      go : (old : Bool) → served_rate nominal (cond old 10 (kept_rate nominal rate)) ≡ true
      go true = ten_served nominal served
      go false = kept_served nominal rate served given

  pub meant_kept : kept_rate nominal (meant_rate version nominal rate) ≡ meant_rate version nominal rate
  meant_kept = kept_again nominal (meant_rate version nominal rate) served meant_served
