-- `list`'s own contract asks nothing of this program's reader and writer, which borrow nothing. Assumes nothing.
use contract.Lifetimes.{Lfts}
use Rattle.lister.proofs.Says.{std_asks_nothing}
use Rattle.lister.proofs.list.Reads as listReads
use Rattle.std.specs.contracts.io.Stdin as StdinType
use Rattle.std.specs.contracts.io.Stdout as StdoutType
use Rattle.std.proofs.io.Stdin.TheLaws as StdinLaws
use Rattle.std.proofs.io.Stdout.TheLaws as StdoutLaws
use Rattle.std.specs.contracts.io.stdio.StdinRead.TheImpl as StdinRead
use Rattle.std.specs.contracts.io.stdio.StdoutWrite.TheImpl as StdoutWrite

pub asks_nothing : (κs : Lfts 7) (a : _) → listReads.Pre StdinType.the_row StdoutType.the_row StdinLaws.the_row_laws StdoutLaws.the_row_laws
    StdinRead.ghosts StdinRead.dict StdoutWrite.ghosts StdoutWrite.dict κs a
asks_nothing = std_asks_nothing
