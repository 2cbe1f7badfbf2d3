-- Each call reads some of what is left and none of it twice, so the loop ends and all of the part is read; its text is written as it comes.
use Rattle.std.proofs.Common.{◌≡◌, List, ℕ, ◌++◌, length}
use Rattle.std.specs.Io.KnownBytes.{Appends}
use Rattle.lister.specs.Inside.{Flowed}
use Rattle.lister.proofs.give.Given as goal

abbrev pub invariant-loop-rest : goal.invariant-loop-rest
invariant-loop-rest g l = record {
  same_room : length l.out ≡ length l.fn.out;
  so_far : (done text : List ℕ) × (done ++ l.rest ≡ l.fn.part) × Flowed l.fn.r l.fn.bank done text l.reader l.bank
      × Appends (g.W.Write.contents l.fn.to) (g.W.Write.contents l.to) text;
}

abbrev pub decreases-loop-rest : goal.decreases-loop-rest
decreases-loop-rest g l = length l.rest
