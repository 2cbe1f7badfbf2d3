-- The contract admits one answer: it says what the answer is. Assumes nothing.
use Rattle.std.proofs.Common.{◌≡◌, ℕ, Option, Result, sym, ◌∙◌}
use Rattle.reads.specs.Counts.{meaning}

pub meaning_unique : {E : Type 0} (got : Result ℕ E) (r q : Result (Option ℕ) E) → r ≡ meaning got → q ≡ meaning got → r ≡ q
meaning_unique got r q e f = e ∙ sym f
