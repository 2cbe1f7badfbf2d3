-- The samples that a feed holds stand in its filled places: whatever the others hold, they are the same. Assumes nothing.
use mathlib.Core.Path.{◌≡◌, refl, sym, ap, ◌∙◌}
use mathlib.Core.Bool.{Bool, true, false}
use mathlib.Core.List.{List, ◌∷◌, ◌++◌}
use Prim.Native.Nat.{ℕ, zero, suc, ◌+◌, ◌-◌, ◌*◌, ◌≤◌, ◌<◌}
use native.Mathlib.Nat.{le_of_suc-le-suc}
use native.Mathlib.Omega.{arith}
use lib.Dec.{ltb}
use lib.ListN.{length, take, drop, length-append}
use lib.Seq.{take-take, take_all, drop_at, length-take-le}
use borrow.Author.Tests.{ltb-true, ltb-false}
use Rattle.model.specs.declared.filter.Sample.{Sample}
use Rattle.feed.specs.declared.Head.{Head}
use Rattle.feed.specs.Places.{sample_of, samples_of}
use Rattle.feed.specs.Ring.{oldest_first, last_of}
use Rattle.feed.proofs.Sound.{Sound}
use Rattle.feed.proofs.Samples.{samples_length}
use Rattle.bank.proofs.Slots.{drop_take}

-- the first h samples are those of the first h places
first_samples : (n h : ℕ) (p : List ℕ) → h ≤ n → take h (samples_of n p) ≡ samples_of h (take (6 * h) p)
unfolding samples_of
first_samples n zero p l = refl
first_samples zero (suc h) p l = absurd (omega arith)
first_samples (suc n) (suc h) p l =
    let e : 6 * suc h ≡ 6 + 6 * h = omega arith in
    let one : take 6 (take (6 * suc h) p) ≡ take 6 p = take-take 6 (6 * suc h) p (omega arith) in
    let rest : drop 6 (take (6 * suc h) p) ≡ take (6 * h) (drop 6 p) = ap (λ (m : ℕ). drop 6 (take m p)) e ∙ drop_take 6 (6 * h) p in
    rw (one, rest) (ap (λ (r : List Sample). sample_of (take 6 p) ∷ r) (first_samples n h (drop 6 p) (le_of_suc-le-suc l)))

-- read round from the place after them, they are the last
last_round : (h : ℕ) (l : List Sample) → h ≤ length l → last_of h (oldest_first h l) ≡ take h l
last_round h l b =
    let n : length (drop h l ++ take h l) - h ≡ length (drop h l) =
    ap (λ (m : ℕ). m - h) (length-append (drop h l) (take h l)) ∙ omega (arith, length-take-le h l b) in
    ap (λ (m : ℕ). drop m (drop h l ++ take h l)) n ∙ drop_at (drop h l) (take h l) (length (drop h l)) refl

pub held_same : (h : Head) → Sound h → (p q : List ℕ) → length p ≡ 186 → length q ≡ 186 → take (6 * h.held) p ≡ take (6 * h.held) q
    → last_of h.held (oldest_first h.place (samples_of 31 p)) ≡ last_of h.held (oldest_first h.place (samples_of 31 q))
held_same h n p q a b e = go (ltb h.held 31) refl
  where
    first : (r : List ℕ) → h.held < 31 → last_of h.held (oldest_first h.place (samples_of 31 r)) ≡ samples_of h.held (take (6 * h.held) r)
    first r l =
        ap (λ (k : ℕ). last_of h.held (oldest_first k (samples_of 31 r))) (n.even_place l)
        ∙ last_round h.held (samples_of 31 r) (omega (arith, samples_length 31 r))
        ∙ first_samples 31 h.held r (omega arith)

    go : (t : Bool) → ltb h.held 31 ≡ t
        → last_of h.held (oldest_first h.place (samples_of 31 p)) ≡ last_of h.held (oldest_first h.place (samples_of 31 q))
    go true t = let l = ltb-true h.held 31 t in first p l ∙ ap (samples_of h.held) e ∙ sym (first q l)
    go false t =
        let l = ltb-false h.held 31 t in
        let same : p ≡ q = sym (take_all (6 * h.held) p (omega arith)) ∙ e ∙ take_all (6 * h.held) q (omega arith) in
        ap (λ (r : List ℕ). last_of h.held (oldest_first h.place (samples_of 31 r))) same
