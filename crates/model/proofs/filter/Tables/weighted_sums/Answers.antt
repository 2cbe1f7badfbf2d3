-- `weighted_sums` is both sums: of no term, then of fifteen, then of all 29. Assumes nothing.
use Rattle.model.proofs.Summing.{first_none, all_is, all_small}
use Rattle.model.proofs.filter.Tables.weighted_sums.Goals as goal

pub with_terms-rising-requires-clause-cosine_first : goal.with_terms-rising-requires-clause-cosine_first
with_terms-rising-requires-clause-cosine_first c = first_none _ _ _ _

pub with_terms-rising-requires-clause-sine_first : goal.with_terms-rising-requires-clause-sine_first
with_terms-rising-requires-clause-sine_first c = first_none _ _ _ _

pub returns-clause-cosine : goal.returns-clause-cosine
returns-clause-cosine c = all_is _ _ _ _ _ c.with_terms.ensures.cosine

pub returns-clause-sine : goal.returns-clause-sine
returns-clause-sine c = all_is _ _ _ _ _ c.with_terms.ensures.sine

pub returns-clause-small : goal.returns-clause-small
returns-clause-small c = record {
  re_size = all_small _ _ _ _ _ c.with_terms.ensures.cosine;
  im_size = all_small _ _ _ _ _ c.with_terms.ensures.sine;
}
