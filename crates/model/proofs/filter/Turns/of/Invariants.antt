-- The first n entries stand there. Assumes nothing.
use Rattle.std.proofs.Common.{◌≡◌, ℕ, ◌<◌, length, get_or, pos}
use Rattle.model.specs.Filter.{entry_at}
use Rattle.model.proofs.filter.Turns.of.Given as goal

abbrev pub invariant-loop-n : goal.invariant-loop-n
invariant-loop-n l = record { whole : length l.entries ≡ 30; so_far : (k : ℕ) → k < l.n → get_or l.entries k (pos 0) ≡ entry_at l.table k }
