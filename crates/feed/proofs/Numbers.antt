-- The bytes of places as numbers, and the numbers as samples: two runs of the places, from one on and up to it, are the samples read round. Assumes
-- nothing.
use Rattle.std.proofs.Common.{zero-add, ◌≡◌, ℕ, zero, suc, ◌+◌, ◌-◌, ◌*◌, ◌≤◌, ◌<◌, List, [], ◌∷◌, ◌++◌, cond, eqb, length, get_or, take, drop, set, ℤ, pos, refl, sym, ap, ◌∙◌, append-nil, arith, length-drop, length-take-le, drop-drop, get_or-drop, get_or-take, take_at, drop_at, take-append-drop, drop_of_length-le, ◌/◌}
use Rattle.std.proofs.lemmas.List.{drop-append-le, get_or_append_left, set-get_or}
use borrow.Rule.Slice.PartMut.{post_of, put_mid}
use Rattle.model.specs.declared.filter.Sample.{Sample}
use Rattle.model.specs.Filter.{no_sample, lent_samples}
use Rattle.model.proofs.Windows.{samples_length as lent_length}
use Rattle.feed.specs.Places.{sample_of, samples_of, with_place}
use Rattle.feed.specs.Ring.{oldest_first}
use Rattle.feed.specs.Inside.{numbers_in}
use Rattle.feed.proofs.Latest.{round_store}
use Rattle.feed.proofs.Rounds.{length_round}
use Rattle.feed.proofs.Samples.{samples_length, samples_split}
use Rattle.feed.proofs.Words.{word_at}
use Rattle.feed.proofs.Stored.{Fits16, samples_set}

-- ---- numbers of two bytes each

pub numbers_length : (n : ℕ) (p : List ℕ) → length (numbers_in n p) ≡ n
unfolding numbers_in
numbers_length zero p = refl
numbers_length (suc n) p = ap suc (numbers_length n (drop 2 p))

word_past : (p : List ℕ) (n : ℕ) → word_at (drop 2 p) (2 * n) ≡ word_at p (2 * suc n)
word_past p n = grind (arith, get_or-drop)

-- one number more
pub numbers_more : (n : ℕ) (p : List ℕ) → numbers_in (n + 1) p ≡ numbers_in n p ++ (word_at p (2 * n) ∷ [])
unfolding numbers_in
numbers_more zero p = refl
numbers_more (suc n) p =
    let e : suc n + 1 ≡ suc (n + 1) = omega arith in
    rw e (ap (λ (r : List ℤ). word_at p 0 ∷ r) (numbers_more n (drop 2 p) ∙ ap (λ (x : ℤ). numbers_in n (drop 2 p) ++ (x ∷ [])) (word_past p n)))

-- ---- samples of three numbers each

first_sample : (p : List ℕ) → sample_of (take 6 p) ≡ record { a = word_at p 0; b = word_at (drop 2 p) 0; c = word_at (drop 2 (drop 2 p)) 0 }
unfolding sample_of
first_sample p = grind (arith, get_or-drop, get_or-take)

samples_in : (n : ℕ) (p : List ℕ) → lent_samples n (numbers_in (3 * n) p) ≡ samples_of n p
unfolding lent_samples numbers_in samples_of
samples_in zero p = refl
samples_in (suc n) p =
    let e : 3 * suc n ≡ suc (suc (suc (3 * n))) = omega arith in
    rw (e, first_sample p, drop-drop 2 2 p, drop-drop 2 4 p) (ap (λ (r : List Sample). record { a = word_at p 0; b = word_at (drop 2 p) 0; c = word_at (drop 4 p) 0 } ∷ r) (samples_in n (drop 6 p)))

lent_append : (m n : ℕ) (x y : List ℤ) → length x ≡ 3 * m → lent_samples (m + n) (x ++ y) ≡ lent_samples m x ++ lent_samples n y
unfolding lent_samples
lent_append zero n [] y e = rw zero-add
lent_append zero n (b ∷ x) y e = absurd (omega arith)
lent_append (suc m) n x y e =
    let k : suc m + n ≡ suc (m + n) = omega arith in
    let l : 3 ≤ length x = omega arith in
    let rest = lent_append m n (drop 3 x) y (length-drop 3 x ∙ omega arith) in
    rw (k, drop-append-le 3 x y l, rest) (ap (λ (s : Sample). s ∷ (lent_samples m (drop 3 x) ++ lent_samples n y)) (λ i. record { a = at 0 (omega arith) i; b = at 1 (omega arith) i; c = at 2 l i }))
  where
    at : (i : ℕ) → i < length x → get_or (x ++ y) i (pos 0) ≡ get_or x i (pos 0)
    at i h = get_or_append_left x y (pos 0) i h

one_sample : (s : Sample) → lent_samples 1 (s.a ∷ s.b ∷ s.c ∷ []) ≡ s ∷ []
unfolding lent_samples
one_sample s = refl

-- ---- two runs

module _ (l : List ℕ) (place : ℕ) (h : place ≤ 30) (whole : length l ≡ 186) where
  abbrev older : List Sample
  older = samples_of (31 - place) (drop (6 * place) l)

  abbrev newer : List Sample
  newer = samples_of place (take (6 * place) l)

  -- read round from the place
  round_is : oldest_first place (samples_of 31 l) ≡ older ++ newer
  round_is =
      let n = samples_length place (take (6 * place) l) in
      ap (oldest_first place) (samples_split 31 place l (omega arith) (omega arith)) ∙ λ i. drop_at newer older place n i ++ take_at newer older place n i

  -- which is what the numbers of the two runs are, written one after the other over a window of any numbers
  pub window_is : (first last : List ℕ) → first ≡ drop (6 * place) l → last ≡ take (6 * place) l → (w : List ℤ) → length w ≡ 93
      → (x : List ℤ) → x ≡ numbers_in (length first / 2) first → (y : List ℤ) → y ≡ numbers_in (length last / 2) last
      → let k = length first / 2 in lent_samples 31 (put_mid k (93 - k) (x ++ post_of 0 k w) y) ≡ oldest_first place (samples_of 31 l)
  window_is first last first_is last_is w long x x_is y y_is =
      let k = length first / 2 in
      let k_is : k ≡ 3 * (31 - place) = omega (arith, ap length first_is, length-drop (6 * place) l) in
      let m_is : length last / 2 ≡ 3 * place = omega (arith, ap length last_is, length-take-le (6 * place) l (omega arith)) in
      let n : length x ≡ k = ap length x_is ∙ numbers_length k first in
      let none : drop (93 - k) (drop k w) ≡ [] = drop_of_length-le (drop k w) (omega (arith, length-drop k w)) in
      let e : 31 ≡ 31 - place + place = omega arith in
      ap (lent_samples 31) (rw (drop_at x (post_of 0 k w) k n, take_at x (post_of 0 k w) k n, none, append-nil y))
      ∙ ap (λ (i : ℕ). lent_samples i (x ++ y)) e
      ∙ lent_append (31 - place) place x y (n ∙ k_is)
      ∙ (λ i. lent_samples (31 - place) ((x_is ∙ λ j. numbers_in (k_is j) (first_is j)) i) ++ lent_samples place ((y_is ∙ λ j. numbers_in (m_is j) (last_is j)) i))
      ∙ (λ i. samples_in (31 - place) (drop (6 * place) l) i ++ samples_in place (take (6 * place) l) i)
      ∙ sym round_is

  -- with the sample in the place put last, over the window from the place after it
  module _ (s : Sample) (fits : Fits16 s) where
    abbrev next : ℕ
    next = cond (eqb place 30) 0 (place + 1)

    abbrev others : List Sample
    others = drop 1 (oldest_first place (samples_of 31 l))

    stored : (x : Sample) → oldest_first next (set (samples_of 31 l) place x) ≡ others ++ (x ∷ [])
    stored x = round_store place (samples_of 31 l) x h (samples_length 31 l)

    pub with_last : (w : List ℤ) → length w ≡ 93 → lent_samples 31 w ≡ oldest_first next (samples_of 31 l)
        → lent_samples 31 (put_mid 90 3 w (s.a ∷ s.b ∷ s.c ∷ [])) ≡ oldest_first next (samples_of 31 (with_place l place s))
    with_last w long e =
        let first : List Sample = lent_samples 30 (take 90 w) in
        let ninety : length (take 90 w) ≡ 90 = length-take-le 90 w (omega arith) in
        let few : length (drop 90 w) ≤ 3 = omega (arith, length-drop 90 w) in
        let none : drop 3 (drop 90 w) ≡ [] = drop_of_length-le (drop 90 w) {i = 3} few in
        let old : Sample = get_or (samples_of 31 l) place no_sample in
        let was : first ++ lent_samples 1 (drop 90 w) ≡ others ++ (old ∷ []) =
        sym (lent_append 30 1 (take 90 w) (drop 90 w) ninety)
        ∙ ap (lent_samples 31) (take-append-drop 90 w)
        ∙ e
        ∙ ap (oldest_first next) (sym (set-get_or (samples_of 31 l) place no_sample))
        ∙ stored old in
        let thirty : length others ≡ 30 = omega (arith, length-drop 1 (oldest_first place (samples_of 31 l)), length_round place (samples_of 31 l) (omega (arith, samples_length 31 l)), samples_length 31 l) in
        let same : first ≡ others = sym (take_at first _ 30 (lent_length 30 (take 90 w))) ∙ ap (take 30) was ∙ take_at others (old ∷ []) 30 thirty in
        ap (λ (r : List ℤ). lent_samples 31 (take 90 w ++ s.a ∷ s.b ∷ s.c ∷ r)) none
        ∙ lent_append 30 1 (take 90 w) (s.a ∷ s.b ∷ s.c ∷ []) ninety
        ∙ (λ i. same i ++ one_sample s i)
        ∙ sym (ap (oldest_first next) (samples_set 31 place l s (omega arith) (omega arith) fits) ∙ stored s)
