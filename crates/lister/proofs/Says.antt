-- `list`'s own contract asks nothing, and says what `Lists` and `Tells` say, whatever the types of its reader and its writer are. Assumes nothing.
use contract.BorrowLft.{◌⊑◌, ⊑_static}
use contract.Lifetimes.{Lfts}
use denote.RattleType.{RattleType}
use denote.Param.Laws.{Laws}
use mir.Syntax.{Dict}
use Rattle.std.specs.declared.io.traits.Read.{Ghosts as Readers}
use Rattle.std.specs.declared.io.traits.Write.{Ghosts as Writers}
use Rattle.std.specs.contracts.io.Stdin as StdinType
use Rattle.std.specs.contracts.io.Stdout as StdoutType
use Rattle.std.proofs.io.Stdin.TheLaws as StdinLaws
use Rattle.std.proofs.io.Stdout.TheLaws as StdoutLaws
use Rattle.std.specs.contracts.io.stdio.StdinRead.TheImpl as StdinRead
use Rattle.std.specs.contracts.io.stdio.StdoutWrite.TheImpl as StdoutWrite
use Rattle.lister.specs.Listing.{Lists, Tells}
use Rattle.lister.proofs.list.Reads as listReads

-- R is the reader's type and W the writer's, of which nothing is known but that they read and write
module _ (R W : RattleType) (R-laws : Laws R) (W-laws : Laws W) (R-reads : Readers R.Denot) (R-code : Dict) (W-writes : Writers W.Denot) (W-code : Dict) where
  -- what such types borrow outlives the call: the borrow checker sees to it at every call
  pub list_asks_nothing : (κs : Lfts 7) (a : _) → κs.1.1.1.1.1.0 ⊑ R.lives → κs.1.1.1.1.1.1.0 ⊑ W.lives
      → listReads.Pre R W R-laws W-laws R-reads R-code W-writes W-code κs a
  list_asks_nothing κs a p q = (p, q)

  pub list_says : (κs : _) (a : _) (r : _) (s : _) → listReads.Post R W R-laws W-laws R-reads R-code W-writes W-code κs a r s
      → Lists a.0.now a.1.0.now a.1.1.0.now a.1.1.1.0.now a.1.1.1.1.0.now r s.0.now s.1.0.now s.1.1.0.now s.1.1.1.0.now s.1.1.1.1.0.now
  list_says κs a r s p = p.0

  pub list_tells : (κs : _) (a : _) (r : _) (s : _) → listReads.Post R W R-laws W-laws R-reads R-code W-writes W-code κs a r s
      → Tells a.0.now (R-reads.remaining a.1.1.1.0.now) (W-writes.contents a.1.1.1.1.0.now) r s.0.now (R-reads.remaining s.1.1.1.0.now) (W-writes.contents s.1.1.1.1.0.now)
  list_tells κs a r s p = p.1

-- of standard input and standard output, which borrow nothing, it asks nothing at all
pub std_asks_nothing : (κs : Lfts 7) (a : _) → listReads.Pre StdinType.the_row StdoutType.the_row StdinLaws.the_row_laws StdoutLaws.the_row_laws
    StdinRead.ghosts StdinRead.dict StdoutWrite.ghosts StdoutWrite.dict κs a
std_asks_nothing κs a = (⊑_static _, ⊑_static _)
