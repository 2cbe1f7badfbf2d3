-- Zeros: how many, and in two parts. Blank bytes: of zeros, and what a blank list is. By the list's length. Assumes nothing.
use mathlib.Core.Path.{◌≡◌, refl, sym, ap, ◌∙◌}
use mathlib.Core.Bool.{Bool, true, false, ◌&&◌, and-true, and_assoc}
use mathlib.Core.List.{List, [], ◌∷◌, ◌++◌}
use Prim.Native.Nat.{ℕ, zero, suc, ◌+◌}
use Rattle.std.specs.Prelude.{fold}
use lib.Dec.{eqb}
use lib.ListN.{length, take, drop, length-replicate, replicate-append-replicate}
use lib.Seq.{take_at, drop_at}
use borrow.Author.Tests.{eqb-true}
use Rattle.feed.specs.Places.{zeros}
use Rattle.bank.specs.Damage.{blank}

pub both_true : (t u : Bool) → (t && u) ≡ true → (t ≡ true) × (u ≡ true)
both_true true u e = (refl, e)
both_true false u e = absurd cc

pub zeros_length : (n : ℕ) → length (zeros n) ≡ n
unfolding zeros
zeros_length n = length-replicate {A = ℕ} n 0

module _ (n m k : ℕ) (e : n + m ≡ k) where
  zeros_parts : zeros k ≡ zeros n ++ zeros m
  unfolding zeros
  zeros_parts = sym (replicate-append-replicate n m 0 ∙ ap zeros e)

  pub zeros_front : take n (zeros k) ≡ zeros n
  zeros_front = ap (λ (l : List ℕ). take n l) zeros_parts ∙ take_at (zeros n) (zeros m) n (zeros_length n)

  pub zeros_rest : drop n (zeros k) ≡ zeros m
  zeros_rest = ap (λ (l : List ℕ). drop n l) zeros_parts ∙ drop_at (zeros n) (zeros m) n (zeros_length n)

pub zeros_blank : (n : ℕ) → blank (zeros n) ≡ true
unfolding blank zeros
zeros_blank zero = refl
zeros_blank (suc n) = zeros_blank n

-- a blank list is that many zeros
pub blank_zeros : (s : List ℕ) → blank s ≡ true → s ≡ zeros (length s)
unfolding blank zeros
blank_zeros [] e = refl
blank_zeros (b ∷ s) e =
    let h = both_true (eqb b 0) (blank s) e in
    rw (eqb-true b 0 h.0) (ap (λ (t : List ℕ). 0 ∷ t) (blank_zeros s h.1))

-- tested byte by byte, with what was found before
pub blank_fold : (z : Bool) (s : List ℕ) → fold (λ y b. y && eqb b 0) z s ≡ (z && blank s)
unfolding blank
blank_fold z [] = sym (and-true z)
blank_fold z (b ∷ s) = blank_fold (z && eqb b 0) s ∙ and_assoc z (eqb b 0) (blank s)
