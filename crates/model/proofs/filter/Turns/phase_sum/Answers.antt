-- `phase_sum` is the sum of three products: the entries add to 0, so those of a less c and b less c are enough. It has the size of the three. Assumes
-- nothing.
use Rattle.std.proofs.Common.{◌≡◌, ◌≤◌, ◌+ℤ◌, ◌∙◌, nat_abs, sym, SFits, w32, to_z-of_z, lit<, rules}
use Rattle.ints.proofs.Size.{size_fits}
use Rattle.model.specs.Filter.{phase_sum}
use Rattle.model.proofs.Level.{level_sum, three_small}
use Rattle.model.proofs.Small.{Words, word_counts}
use Rattle.model.proofs.filter.Turns.phase_sum.Goals as goal

module _ (c : goal.After-times_entry-b) where
  words : Words c.args.s
  words = record { a_fits = search rules; b_fits = search rules; c_fits = search rules }

  minus_fits : SFits w32 c.minus.result
  minus_fits = search rules

  minus_fits-2 : SFits w32 c.minus-2.result
  minus_fits-2 = search rules

  is : c.times_entry-a.result +ℤ c.times_entry-b.result ≡ phase_sum c.args.self.now.entries c.args.s c.args.n
  is =
      rw (
        c.times_entry-a.ensures.is,
        c.times_entry-b.ensures.is,
        to_z-of_z minus_fits,
        to_z-of_z minus_fits-2,
        c.minus.ensures.is,
        c.minus-2.ensures.is,
        to_z-of_z words.a_fits,
        to_z-of_z words.b_fits,
        to_z-of_z words.c_fits,
        c.requires.entries.2,
      ) (sym (level_sum c.args.self.now.entries c.args.self.now.tabled c.args.s c.args.n))

  small : nat_abs (phase_sum c.args.self.now.entries c.args.s c.args.n) ≤ 1610612736
  small = three_small c.args.self.now.entries c.args.self.now.tabled c.args.s c.args.n (word_counts c.args.s words)

  fits : SFits w32 (c.times_entry-a.result +ℤ c.times_entry-b.result)
  fits = rw is (size_fits (phase_sum c.args.self.now.entries c.args.s c.args.n) small (lit< tt))

  a_fits : SFits w32 c.times_entry-a.result
  a_fits = search rules

  b_fits : SFits w32 c.times_entry-b.result
  b_fits = search rules

pub overflow_add-result : goal.overflow_add-result
overflow_add-result c = rw (to_z-of_z (a_fits c), to_z-of_z (b_fits c)) (fits c)

pub returns-clause-is : goal.returns-clause-is
returns-clause-is c = rw (to_z-of_z (a_fits c), to_z-of_z (b_fits c)) (to_z-of_z (fits c) ∙ is c)

pub returns-clause-small : goal.returns-clause-small
returns-clause-small c = rw (returns-clause-is c) (small c)
