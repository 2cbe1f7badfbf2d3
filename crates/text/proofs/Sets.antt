-- Runs of stores, `sets`: one after another is one run, and a store beyond a run may come before it. By induction on the run. Assumes nothing.
use Prim.Native.Nat.{ℕ, suc, ◌+◌, ◌≤◌}
use mathlib.Core.Path.{◌≡◌, refl, ap, ◌∙◌}
use mathlib.Core.List.{List, [], ◌∷◌, ◌++◌}
use native.Mathlib.Omega.{arith}
use lib.ListN.{length, set}
use lib.Seq.{sets, set_comm}

next : (i n : ℕ) → suc i + n ≡ i + suc n
next i n = omega arith

-- text after text is one text
pub sets_append : (l : List ℕ) (i : ℕ) (t u : List ℕ) → sets l i (t ++ u) ≡ sets (sets l i t) (i + length t) u
sets_append l i [] u = ap (λ (k : ℕ). sets l k u) (omega arith)
sets_append l i (a ∷ t) u = sets_append (set l i a) (suc i) t u ∙ ap (λ (k : ℕ). sets (sets (set l i a) (suc i) t) k u) (next i (length t))

apart : (i j n : ℕ) → i + suc n ≤ j → j ≡ i → ⊥
apart i j n h e = omega arith

-- a store past the text may come first
pub set_then_sets : (l : List ℕ) (i : ℕ) (t : List ℕ) (j a : ℕ) → i + length t ≤ j → sets (set l j a) i t ≡ set (sets l i t) j a
set_then_sets l i [] j a h = refl
set_then_sets l i (b ∷ t) j a h =
    let k : suc i + length t ≤ j = omega arith in
    ap (λ (m : List ℕ). sets m (suc i) t) (set_comm l j i a b (apart i j (length t) h)) ∙ set_then_sets (set l i b) (suc i) t j a k
