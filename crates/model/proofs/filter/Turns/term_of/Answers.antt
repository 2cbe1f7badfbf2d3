-- `term_of` is the weight times the three products; a weight is at most 15. Assumes nothing.
use Rattle.std.proofs.Common.{◌≡◌, ◌≤◌, pos, SFits, w32, w64, nat_abs, to_z-of_z, ◌∙◌, arith, rules}
use Rattle.ints.proofs.Size.{size_mul_le}
use Rattle.ints.proofs.Signed.{Exp, count, whole, ◌⊗◌, at, fits}
use Rattle.model.specs.Filter.{phase_sum}
use Rattle.model.proofs.Weights.{weight_within}
use Rattle.model.proofs.filter.Turns.term_of.Goals as goal

pub overflow_cast-result : goal.overflow_cast-result
overflow_cast-result c = omega (arith, weight_within c.args.j)

module _ (c : goal.After-from) where
  is : c.from.result ≡ phase_sum c.args.self.now.entries c.args.s c.args.n
  is = let f : SFits w32 c.phase_sum.result = search rules in c.from.ensures ∙ to_z-of_z f ∙ c.phase_sum.ensures.is

  small : nat_abs c.from.result ≤ 1610612736
  small = rw (is, ← c.phase_sum.ensures.is) c.phase_sum.ensures.small

  abbrev product : Exp w64
  product = count c.weight_of.result 15 (omega (arith, c.weight_of.ensures, weight_within c.args.j)) ⊗ whole c.from.result 1610612736 small

pub overflow_mul-result : goal.overflow_mul-result
overflow_mul-result c = fits (product c) tt

pub returns-clause-is : goal.returns-clause-is
returns-clause-is c = rw (at (product c) tt, is c, c.weight_of.ensures)

pub returns-clause-small : goal.returns-clause-small
returns-clause-small c = rw (at (product c) tt) (size_mul_le (pos c.weight_of.result) c.from.result (omega (arith, c.weight_of.ensures)) (small c))
