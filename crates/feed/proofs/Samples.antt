-- The samples in places: as many as places, each read of its own six bytes, and those of places in two parts are those of each part. Assumes nothing.
use Rattle.std.proofs.Common.{◌≡◌, ℕ, zero, suc, ◌+◌, ◌*◌, ◌<◌, ◌≤◌, ◌-◌, List, [], ◌∷◌, ◌++◌, length, get_or, take, drop, refl, sym, ap, ◌∙◌, zero-add, arith, length-drop, length-take-le, take-append-drop}
use Rattle.std.proofs.lemmas.List.{take-append-le, drop-append-le, drop-drop}
use Rattle.model.specs.declared.filter.Sample.{Sample}
use Rattle.model.specs.Filter.{no_sample}
use Rattle.feed.specs.Places.{sample_of, samples_of}

pub samples_length : (n : ℕ) (p : List ℕ) → length (samples_of n p) ≡ n
unfolding samples_of
samples_length zero p = refl
samples_length (suc n) p = ap suc (samples_length n (drop 6 p))

-- sample j is the one in place j
pub sample_in : (n : ℕ) (p : List ℕ) (j : ℕ) → j < n → get_or (samples_of n p) j no_sample ≡ sample_of (take 6 (drop (6 * j) p))
unfolding samples_of
sample_in zero p j h = absurd (omega arith)
sample_in (suc n) p zero h = refl
sample_in (suc n) p (suc j) h =
    let e : 6 + 6 * j ≡ 6 * suc j = omega arith in
    sample_in n (drop 6 p) j (omega arith) ∙ ap (λ (l : List ℕ). sample_of (take 6 l)) (drop-drop (6 * j) 6 p ∙ ap (λ (k : ℕ). drop k p) e)

pub samples_append : (m n : ℕ) (p q : List ℕ) → length p ≡ 6 * m → samples_of (m + n) (p ++ q) ≡ samples_of m p ++ samples_of n q
unfolding samples_of
samples_append zero n [] q e = rw zero-add
samples_append zero n (b ∷ p) q e = absurd (omega arith)
samples_append (suc m) n p q e =
    let k : suc m + n ≡ suc (m + n) = omega arith in
    let l : 6 ≤ length p = omega arith in
    rw (k, take-append-le 6 p q l, drop-append-le 6 p q l) (ap (λ (r : List Sample). sample_of (take 6 p) ∷ r) (samples_append m n (drop 6 p) q (length-drop 6 p ∙ omega arith)))

-- those before a place, and those from it on
pub samples_split : (n k : ℕ) (p : List ℕ) → k ≤ n → 6 * n ≤ length p → samples_of n p ≡ samples_of k (take (6 * k) p) ++ samples_of (n - k) (drop (6 * k) p)
samples_split n k p h l =
    let e : n ≡ k + (n - k) = omega arith in
    ap (λ (m : ℕ). samples_of m p) e
    ∙ ap (samples_of (k + (n - k))) (sym (take-append-drop (6 * k) p))
    ∙ samples_append k (n - k) (take (6 * k) p) (drop (6 * k) p) (length-take-le (6 * k) p (omega arith))
