-- A list read round from a place is as long, and of thirty-one element j is the one j places on, modulo 31; the place after one is one of thirty-one.
-- Assumes nothing.
use mathlib.Core.Path.{◌≡◌, refl, ap, ◌∙◌}
use mathlib.Core.Bool.{Bool, true, false, cond}
use mathlib.Core.List.{List}
use Prim.Native.Nat.{ℕ, ◌+◌, ◌-◌, ◌%◌, ◌<◌, ◌≤◌}
use native.Mathlib.Omega.{arith}
use lib.Dec.{ltb, eqb}
use lib.ListN.{length, get_or, take, drop, length-append, length-take, length-drop, get_or-append}
use lib.Seq.{get_or-append-add, get_or-take, get_or-drop}
use borrow.Author.Tests.{ltb-true, ltb-false}
use Rattle.std.proofs.lemmas.Bool.Decides.{nat_tests}
use Rattle.feed.specs.Ring.{oldest_first}

-- the place after one is one of thirty-one
pub next_within : (place : ℕ) → place ≤ 30 → cond (eqb place 30) 0 (place + 1) ≤ 30
next_within place h = grind (arith, nat_tests)

pub length_round : {S : Type 0} (p : ℕ) (l : List S) → p ≤ length l → length (oldest_first p l) ≡ length l
length_round p l h = simp (length-append, length-drop, length-take) (omega arith)

module _ {S : Type 0} (p : ℕ) (l : List S) where
  pub round_at : (j : ℕ) (d : S) → p ≤ 30 → length l ≡ 31 → j < 31 → get_or (oldest_first p l) j d ≡ get_or l ((p + j) % 31) d
  round_at j d h e k = go (ltb j (31 - p)) refl
    where
      left : length (drop p l) ≡ 31 - p
      left = length-drop p l ∙ ap (λ (n : ℕ). n - p) e

      at : (i : ℕ) → i ≡ (p + j) % 31 → get_or l i d ≡ get_or l ((p + j) % 31) d
      at i q = ap (λ (n : ℕ). get_or l n d) q

      go : (b : Bool) → ltb j (31 - p) ≡ b → get_or (oldest_first p l) j d ≡ get_or l ((p + j) % 31) d
      go true t =
          let n : j < 31 - p = ltb-true j (31 - p) t in
          get_or-append (drop p l) (take p l) d j (omega (arith, left)) ∙ get_or-drop p l j d ∙ at (p + j) (omega arith)
      go false t =
          let n : 31 - p ≤ j = ltb-false j (31 - p) t in
          let i : ℕ = j - (31 - p) in
          let q : j ≡ length (drop p l) + i = omega (arith, left) in
          ap (λ (m : ℕ). get_or (oldest_first p l) m d) q
          ∙ get_or-append-add (drop p l) (take p l) i d
          ∙ get_or-take p l i d (omega arith)
          ∙ at i (omega arith)
