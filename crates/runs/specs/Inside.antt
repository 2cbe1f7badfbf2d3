-- No part of any promise: what the functions of the crate answer one another.
use Rattle.std.specs.Prelude.{List, ℕ, map}
use Rattle.std.specs.List.{range_with_len}
use Rattle.model.specs.declared.filter.Sample.{Sample}

-- the n samples from an index on
unfoldable pub samples_from : (ℕ → Sample) → ℕ → ℕ → List Sample
samples_from x first n = map x (range_with_len first n)
