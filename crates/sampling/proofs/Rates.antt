-- The kept rate: served where the rate is served or 0, as it is where it is served, and of rate 0 a report every cycle. Assumes nothing.
use mathlib.Core.Path.{◌≡◌, refl, sym, ap, ◌∙◌}
use mathlib.Core.Bool.{Bool, true, false, cond, ◌||◌, or-false}
use Prim.Native.Nat.{ℕ}
use lib.Dec.{eqb}
use borrow.Author.Tests.{eqb-true}
use Rattle.sampling.specs.Tags.{served_nominal, served_rate, kept_rate, spacing}
use Rattle.sampling.proofs.Samplings.{served_cases}

-- 10 is served at either nominal, a report every cycle too, and 0 at neither
pub ten_served : (nominal : ℕ) → served_nominal nominal ≡ true → served_rate nominal 10 ≡ true
unfolding served_rate
ten_served = served_cases (λ n. served_rate n 10 ≡ true) refl refl

full_served : (nominal : ℕ) → served_nominal nominal ≡ true → served_rate nominal nominal ≡ true
unfolding served_rate
full_served = served_cases (λ n. served_rate n n ≡ true) refl refl

zero_unserved : (nominal : ℕ) → served_nominal nominal ≡ true → served_rate nominal 0 ≡ false
unfolding served_rate
zero_unserved = served_cases (λ n. served_rate n 0 ≡ false) refl refl

pub kept_served : (nominal rate : ℕ) → served_nominal nominal ≡ true → (served_rate nominal rate || eqb rate 0) ≡ true → served_rate nominal (kept_rate nominal rate) ≡ true
unfolding kept_rate
kept_served nominal rate a b = go (eqb rate 0) b
  where
    go : (z : Bool) → (served_rate nominal rate || z) ≡ true → served_rate nominal (cond z nominal rate) ≡ true
    go true t = full_served nominal a
    go false t = sym (or-false (served_rate nominal rate)) ∙ t

pub kept_again : (nominal rate : ℕ) → served_nominal nominal ≡ true → served_rate nominal rate ≡ true → kept_rate nominal rate ≡ rate
unfolding kept_rate
kept_again nominal rate a e = go (eqb rate 0) refl
  where
    go : (z : Bool) → eqb rate 0 ≡ z → cond z nominal rate ≡ rate
    go true t = ap (λ (b : Bool). cond b nominal rate) (sym e ∙ ap (served_rate nominal) (eqb-true rate 0 t) ∙ zero_unserved nominal a)
    go false t = refl

-- 15 samples are a nominal cycle
pub every_cycle : (nominal : ℕ) → served_nominal nominal ≡ true → spacing nominal (kept_rate nominal 0) ≡ 15
unfolding kept_rate
every_cycle = served_cases (λ n. spacing n (kept_rate n 0) ≡ 15) refl refl
