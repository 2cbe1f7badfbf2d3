-- `times_entry` is the product: a number is at most 65536 and an entry at most 16384. Assumes nothing.
use Rattle.std.proofs.Common.{◌≡◌, ◌≤◌, List, get_or, ℤ, pos, ◌*ℤ◌, nat_abs, sym, ap, ◌∙◌, subst, w32}
use Rattle.ints.proofs.Signed.{Exp, whole, ◌⊗◌, at, fits, sized}
use Rattle.model.specs.Filter.{entry_at}
use Rattle.model.proofs.filter.Turns.times_entry.Goals as goal

module _ (c : goal.After-result-1) where
  abbrev entries : List ℤ
  entries = c.args.self.now.entries

  -- what is read in either turn is the entry
  is_entry : get_or entries c.args.n (pos 0) ≡ entry_at entries c.args.n
  is_entry = c.args.self.now.again c.args.n c.requires.within.0

  abbrev product : Exp w32
  product =
      whole c.args.x 65536 c.requires.within.1
      ⊗ whole (get_or entries c.args.n (pos 0)) 16384 (subst (λ (z : ℤ). nat_abs z ≤ 16384) (sym is_entry) (c.args.self.now.tabled.small c.args.n))

pub overflow_mul-result : goal.overflow_mul-result
overflow_mul-result c = fits (product c) tt

pub returns-clause-is : goal.returns-clause-is
returns-clause-is c = at (product c) tt ∙ ap (λ (z : ℤ). c.args.x *ℤ z) (is_entry c)

pub returns-clause-small : goal.returns-clause-small
returns-clause-small c = sized (product c) tt
