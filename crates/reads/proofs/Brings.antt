-- What a read's meaning tells of its count. Assumes nothing.
use Rattle.std.proofs.Common.{◌≡◌, ℕ, zero, suc, ◌<◌, Some, Result, Ok, Err, arith}
use Rattle.reads.specs.Counts.{meaning}

-- a read that brings bytes brings at least one
pub at_least_one : {E : Type 0} (got : Result ℕ E) (n : ℕ) → meaning got ≡ Ok (Some n) → 0 < n
at_least_one (Err e) n p = cc
at_least_one (Ok zero) n p = cc
at_least_one (Ok (suc k)) n p = let same : suc k ≡ n = cc in omega arith
