-- The tables' rules, each by one test that is computed over a table: no entry is larger than 16384; the mirror rule; 120 degrees is five entries,
-- so that any three entries five apart add to 0, and their sizes to 32768 at most; all 15 entries add to 0. So of two turns. Assumes nothing.
use Rattle.std.proofs.Common.{◌≡◌, ℕ, zero, suc, ◌+◌, ◌-◌, ◌%◌, ◌<◌, ◌≤◌, Bool, true, ◌&&◌, T, leb, List, [], ◌∷◌, get_or, ℤ, pos, ◌+ℤ◌, ◌-ℤ◌, neg_ℤ, nat_abs, sym, refl, ap, ◌∙◌, subst, zero-le, mod-lt, arith, lit<, leb→le}
use lib.IntN.{ -ℤ-+ℤ_cancel, +ℤ_idl}
use mir.Facts.{and_yes}
use Rattle.ints.specs.Whole.{sum}
use Rattle.ints.proofs.Every.{every, each, none, none_is}
use Rattle.model.specs.Bounds.{TwoTurns, Tabled}
use Rattle.model.specs.Filter.{cosines, sines, entry_at}
use Rattle.model.proofs.Same.{later_same}

-- ---- no entry is larger than 16384
abbrev all_small : List ℤ → Bool
all_small [] = true
all_small (z ∷ zs) = leb (nat_abs z) 16384 && all_small zs

entry_small : (table : List ℤ) → T (all_small table) → (i : ℕ) → nat_abs (get_or table i (pos 0)) ≤ 16384
entry_small [] h i = zero-le
entry_small (z ∷ zs) h zero = leb→le (nat_abs z) 16384 (and_yes (leb (nat_abs z) 16384) (all_small zs) h).0
entry_small (z ∷ zs) h (suc i) = entry_small zs (and_yes (leb (nat_abs z) 16384) (all_small zs) h).1 i

-- two numbers are one where their difference is 0
equal : (x y : ℤ) → T (none (x -ℤ y)) → x ≡ y
equal x y t = sym (-ℤ-+ℤ_cancel x y) ∙ ap (λ (z : ℤ). z +ℤ y) (none_is (x -ℤ y) t) ∙ +ℤ_idl y

-- ---- the mirror rule: entry n is entry 15 - n, or minus it
module _ (sign : ℤ → ℤ) (table : List ℤ) where
  abbrev apart : ℕ → ℤ
  apart n = entry_at table n -ℤ sign (entry_at table (15 - n))

  mirrored : T (every 15 (λ n. none (apart n))) → (n : ℕ) → n < 15 → entry_at table n ≡ sign (entry_at table (15 - n))
  mirrored t n h = equal _ (sign (entry_at table (15 - n))) (each 15 (λ k. none (apart k)) t n h)

-- cos n = cos(15 - n)
pub cos_mirror : (n : ℕ) → n < 15 → entry_at cosines n ≡ entry_at cosines (15 - n)
cos_mirror = mirrored (λ z. z) cosines tt

-- sin n = -sin(15 - n)
pub sin_mirror : (n : ℕ) → n < 15 → entry_at sines n ≡ neg_ℤ (entry_at sines (15 - n))
sin_mirror = mirrored neg_ℤ sines tt

-- ---- 120 degrees is five entries

-- a test of three entries five apart that holds below 15 holds everywhere
module _ (test : ℤ → ℤ → ℤ → Bool) (table : List ℤ) where
  abbrev five_apart : ℕ → Bool
  five_apart n = test (entry_at table n) (entry_at table (n + 10)) (entry_at table (n + 5))

  five_apart_all : T (every 15 five_apart) → (n : ℕ) → T (five_apart n)
  five_apart_all t n = subst T (sym turned) (each 15 five_apart t (n % 15) (mod-lt n (lit< tt)))
    where
      turned : five_apart n ≡ five_apart (n % 15)
      turned =
          let e : n % 15 ≡ n % 15 % 15 = omega arith in
          let f = later_same n (n % 15) 10 e in
          let g = later_same n (n % 15) 5 e in
          λ i. test (get_or table (e i) (pos 0)) (get_or table (f i) (pos 0)) (get_or table (g i) (pos 0))

abbrev add_to_none : ℤ → ℤ → ℤ → Bool
add_to_none x y z = none (x +ℤ y +ℤ z)

-- three entries five apart add to 0
pub cos_five_apart : (n : ℕ) → entry_at cosines n +ℤ entry_at cosines (n + 10) +ℤ entry_at cosines (n + 5) ≡ pos 0
cos_five_apart n = none_is _ (five_apart_all add_to_none cosines tt n)

pub sin_five_apart : (n : ℕ) → entry_at sines n +ℤ entry_at sines (n + 10) +ℤ entry_at sines (n + 5) ≡ pos 0
sin_five_apart n = none_is _ (five_apart_all add_to_none sines tt n)

-- ---- the sums may read both tables
pub cosines_tabled : Tabled cosines
cosines_tabled = record { small = λ n. entry_small cosines tt (n % 15); level = cos_five_apart }

pub sines_tabled : Tabled sines
sines_tabled = record { small = λ n. entry_small sines tt (n % 15); level = sin_five_apart }

-- ---- and two turns of a table
module _ (table turns : List ℤ) (two : TwoTurns table turns) where
  pub turned : (n : ℕ) → entry_at turns n ≡ entry_at table n
  turned n =
      let e : n % 15 % 15 ≡ n % 15 = omega arith in
      two (n % 15) (omega arith) ∙ ap (λ (k : ℕ). get_or table k (pos 0)) e

  pub again : TwoTurns turns turns
  again n h = two n h ∙ sym (turned n)

  pub turns_tabled : Tabled table → Tabled turns
  turns_tabled t = record {
    small = λ n. rw (turned n) (t.small n);
    level = λ n. rw (turned n, turned (n + 10), turned (n + 5)) (t.level n);
  }

-- ---- the sizes of three entries five apart add to 32768 at most
abbrev pub Trios : ℕ → List ℤ → Type 0
Trios most table = (n : ℕ) → nat_abs (entry_at table n) + nat_abs (entry_at table (n + 10)) + nat_abs (entry_at table (n + 5)) ≤ most

abbrev sizes_small : ℤ → ℤ → ℤ → Bool
sizes_small x y z = leb (nat_abs x + nat_abs y + nat_abs z) 32768

pub cos_trios : Trios 32768 cosines
cos_trios n = leb→le _ _ (five_apart_all sizes_small cosines tt n)

pub sin_trios : Trios 32768 sines
sin_trios n = leb→le _ _ (five_apart_all sizes_small sines tt n)

-- ---- all 15 entries add to 0
pub cos_total : sum 15 (entry_at cosines) ≡ pos 0
unfolding sum
cos_total = refl

pub sin_total : sum 15 (entry_at sines) ≡ pos 0
unfolding sum
sin_total = refl
