-- How large the numbers are, and what else the functions of the crate ask of one another. "re and im lie within ±362387865600" is document 01's.
use Rattle.std.specs.Prelude.{◌≡◌, ℕ, zero, suc, ◌+◌, ◌*◌, ◌/◌, ◌^◌, ◌<◌, ◌≤◌, List, ℤ, pos, ◌+ℤ◌, slice_index_or, unsigned_abs}
use Rattle.ints.specs.Whole.{sum}
use Rattle.model.specs.declared.filter.Phasor.{Phasor}
use Rattle.model.specs.declared.filter.Sample.{Sample}
use Rattle.model.specs.Filter.{weight, offset, entry_at, term, windowed}

-- two turns of a table: each entry is the table's, whose indices are taken mod 15
abbrev pub TwoTurns : List ℤ → List ℤ → Type 0
TwoTurns table turns = (n : ℕ) → n < 30 → slice_index_or turns n (pos 0) ≡ entry_at table n

-- a table as the sums read it: no entry is larger in size than 16384, and any three five apart add to 0
pub record Tabled (table : List ℤ) : Type 0 where
  pub small : (n : ℕ) → unsigned_abs (entry_at table n) ≤ 16384
  pub level : (n : ℕ) → entry_at table n +ℤ entry_at table (n + 10) +ℤ entry_at table (n + 5) ≡ pos 0

-- the weights of the first j terms together
unfoldable pub weights : ℕ → ℕ
weights zero = 0
weights (suc j) = weights j + weight (offset j)

-- z is the first j terms of a weighted sum together, over the 29 samples of a window from a place on; in size it is at most 1610612736 for each unit
-- of weight
pub record FirstTerms (table : List ℤ) (window : List Sample) (n from j : ℕ) (z : ℤ) : Type 0 where
  pub is : z ≡ sum j (term table (windowed window n) (n + from + 14))
  pub small : unsigned_abs z ≤ weights j * 1610612736

-- neither part is larger in size than m
pub record Sized (m : ℕ) (re im : ℤ) : Type 0 where
  pub re_size : unsigned_abs re ≤ m
  pub im_size : unsigned_abs im ≤ m

-- re and im lie within ±362387865600
abbrev pub Small : Phasor → Type 0
Small p = Sized 362387865600 p.re p.im

-- before step i neither part is larger in size than this
unfoldable pub cap : ℕ → ℕ
cap zero = 362387865600 * 65536
cap (suc i) = cap i + (cap i / 2 ^ i + 1)
