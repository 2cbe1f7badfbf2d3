-- Of the first j samples each has its three numbers in the window. Assumes nothing.
use Rattle.std.proofs.Common.{◌≡◌, ℕ, ◌+◌, ◌*◌, ◌<◌, length}
use Rattle.model.proofs.Windows.{three_at}
use Rattle.runs.specs.Runs.{sample_at}
use Rattle.runs.proofs.window_from.Given as goal

abbrev pub invariant-loop-j : goal.invariant-loop-j
invariant-loop-j l = record {
  size : length l.window ≡ 93;
  put : (k : ℕ) → k < l.j → three_at l.window (3 * k) ≡ sample_at l.a l.b l.c (l.first + k);
}
