-- The laws of `sum`. Assumes nothing.
use Rattle.std.proofs.Common.{ℕ, zero, suc, ◌+◌, ◌≤◌, ◌<◌, ◌≡◌, refl, sym, ◌∙◌, ap, ap₂, add-zero, add-suc, arith}
use lib.IntN.{ℤ, nat_abs, ◌+ℤ◌, +ℤ_assoc, +ℤ_idr}
use Rattle.ints.specs.Whole.{sum}
use Rattle.ints.proofs.Size.{size_add}

-- terms that agree below n
pub sum_ext : (n : ℕ) (f g : ℕ → ℤ) → ((j : ℕ) → j < n → f j ≡ g j) → sum n f ≡ sum n g
unfolding sum
sum_ext zero f g e = refl
sum_ext (suc n) f g e = ap₂ (λ (x y : ℤ). x +ℤ y) (sum_ext n f g (λ j h. e j (omega arith))) (e n (omega arith))

-- the first m terms, and then n more
pub sum_split : (m n : ℕ) (f : ℕ → ℤ) → sum (m + n) f ≡ sum m f +ℤ sum n (λ j. f (m + j))
unfolding sum
sum_split m zero f = ap (λ (k : ℕ). sum k f) (add-zero m) ∙ sym (+ℤ_idr (sum m f))
sum_split m (suc n) f =
    ap (λ (k : ℕ). sum k f) (add-suc m n) ∙ ap (λ (x : ℤ). x +ℤ f (m + n)) (sum_split m n f)
    ∙ +ℤ_assoc (sum m f) (sum n (λ j. f (m + j))) (f (m + n))

-- bounds on the terms, which add to `total n`
pub sum_size : (n : ℕ) (f : ℕ → ℤ) (total : ℕ → ℕ) → ((j : ℕ) → j < n → total j + nat_abs (f j) ≤ total (suc j)) → nat_abs (sum n f) ≤ total n
unfolding sum
sum_size zero f total h = omega arith
sum_size (suc n) f total h = omega (arith, sum_size n f total (λ j l. h j (omega arith)), h n (omega arith), size_add (sum n f) (f n))
