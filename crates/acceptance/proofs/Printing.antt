-- What is printed: `Refused`'s own `fmt` asks nothing, and on `Ok` has written `refused N`, whatever the type of its writer is; `Fate`'s likewise the
-- word for what becomes of a slot. Assumes nothing.
use contract.BorrowLft.{◌⊑◌}
use contract.Lifetimes.{Lfts}
use denote.RattleType.{RattleType}
use denote.Param.Laws.{Laws}
use mir.Syntax.{Dict}
use Rattle.std.specs.Fmt.{WritesOnOk}
use Rattle.std.specs.declared.fmt.Write.{Ghosts as Writers}
use Rattle.refusals.specs.Refusals.{refusal_text}
use Rattle.refusals.proofs.RefusedDisplay.fmt.Reads as fmtReads
use Rattle.salvage.specs.Slots.{word_of}
use Rattle.salvage.proofs.FateDisplay.fmt.Reads as fateReads

-- W is the writer's type, of which nothing is known but that it writes
module _ (W : RattleType) (laws : Laws W) (writes : Writers W.Denot) (code : Dict) where
  -- what such a type borrows outlives the call: the borrow checker sees to it at every call
  pub fmt_asks_nothing : (κs : Lfts 3) (a : _) → κs.1.1.0 ⊑ W.lives → fmtReads.Pre W laws writes code κs a
  fmt_asks_nothing κs a p = p

  pub fmt_says : (κs : _) (a : _) (r : _) (s : _) → fmtReads.Post W laws writes code κs a r s
      → WritesOnOk writes.write_str_gives a.1.0.now r (refusal_text a.0.now) s.1.0.now
  fmt_says κs a r s p = p.0

  pub fate_fmt_asks_nothing : (κs : Lfts 3) (a : _) → κs.1.1.0 ⊑ W.lives → fateReads.Pre W laws writes code κs a
  fate_fmt_asks_nothing κs a p = p

  pub fate_fmt_says : (κs : _) (a : _) (r : _) (s : _) → fateReads.Post W laws writes code κs a r s
      → WritesOnOk writes.write_str_gives a.1.0.now r (word_of a.0.now) s.1.0.now
  fate_fmt_says κs a r s p = p.0
