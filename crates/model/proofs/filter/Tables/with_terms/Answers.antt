-- `with_terms` adds to both sums: each turn adds one term of each, and the entries go on from the run's first. Assumes nothing.
use Rattle.std.proofs.Common.{◌≡◌, ℕ, ◌+◌, ◌*◌, ◌%◌, ◌<◌, ◌≤◌, add-zero, List, get_or, ℤ, pos, ◌+ℤ◌, ◌*ℤ◌, nat_abs, ap, ◌∙◌, to_z-of_z, to_z, of_z, w64, SFits, arith, rules}
use Rattle.model.specs.Filter.{weight, offset, phase_sum, no_sample}
use Rattle.model.specs.Bounds.{FirstTerms}
use Rattle.model.specs.declared.filter.Sample.{Sample}
use Rattle.model.proofs.Summing.{one_term_more, terms_fit}
use Rattle.model.proofs.filter.Tables.with_terms.Goals as goal

-- a run of entries and the one ten on of each
in_run : (entry i : ℕ) → entry < 15 → i < 15 → (entry + i < 30) × ((entry + 10) % 15 + i < 30) × (((entry + 10) % 15 + i) % 15 ≡ (entry + i + 10) % 15)
in_run entry i h l = (omega arith, omega arith, omega arith)

-- a term meets the entry of its sample's index, since whole turns of the table stand before the run
meets : (m first i : ℕ) → first % 15 ≡ 0 → (m % 15 + i) % 15 ≡ (m + (first + i)) % 15
meets m first i e = omega arith

-- one term more of either sum, x, which is the term of the sample that was read
module _ (table : List ℤ) (window : List Sample) (n from first i : ℕ) (z x : ℤ) (s : Sample) (whole : first % 15 ≡ 0) (inside : first + i < 29)
    (t : FirstTerms table window n from (first + i) z) (read : s ≡ get_or window (from + (first + i)) no_sample)
    (e : x ≡ pos (weight (offset (first + i))) *ℤ phase_sum table s ((n + from) % 15 + i)) (small : nat_abs x ≤ weight (offset (first + i)) * 1610612736)
    (f : SFits w64 x) where
  abbrev added : ℤ
  added = z +ℤ to_z w64 (of_z w64 x)

  more : FirstTerms table window n from (first + i + 1) added
  more =
      rw (to_z-of_z f) (one_term_more table window n from (first + i) ((n + from) % 15 + i) z x t inside (meets (n + from) first i whole)
      (e ∙ ap (λ (v : Sample). pos (weight (offset (first + i))) *ℤ phase_sum table v ((n + from) % 15 + i)) read) small)

  added_fits : SFits w64 added
  added_fits = terms_fit table window n from (first + i + 1) added (omega arith) more

  kept : FirstTerms table window n from (first + (i + 1)) (to_z w64 (of_z w64 added))
  kept = let next : first + (i + 1) ≡ first + i + 1 = omega arith in rw (to_z-of_z added_fits, next) more

pub loop-i-init : goal.loop-i-init
loop-i-init c =
    let f : SFits w64 c.args.sums.cosine = search rules in
    let g : SFits w64 c.args.sums.sine = search rules in
    record { cosine_is = rw (add-zero, to_z-of_z f) c.requires.cosine_first; sine_is = rw (add-zero, to_z-of_z g) c.requires.sine_first }

pub overflow_add-cosine : goal.overflow_add-cosine
overflow_add-cosine c =
    added_fits _ _ _ _ c.args.first c.loop-i.i _ _ _ (omega arith) (omega arith) c.loop-i.invariant.cosine_is c.sample_in-s.ensures
    c.term_of-cosine.ensures.is c.term_of-cosine.ensures.small (search rules)

pub overflow_add-sine : goal.overflow_add-sine
overflow_add-sine c =
    added_fits _ _ _ _ c.args.first c.loop-i.i _ _ _ (omega arith) (omega arith) c.loop-i.invariant.sine_is c.sample_in-s.ensures
    c.term_of-sine.ensures.is c.term_of-sine.ensures.small (search rules)

pub loop-i-preserved : goal.loop-i-preserved
loop-i-preserved c = record {
  cosine_is =
      kept _ _ _ _ c.args.first c.loop-i.i _ _ _ (omega arith) (omega arith) c.loop-i.invariant.cosine_is c.sample_in-s.ensures
      c.term_of-cosine.ensures.is c.term_of-cosine.ensures.small (search rules);
  sine_is =
      kept _ _ _ _ c.args.first c.loop-i.i _ _ _ (omega arith) (omega arith) c.loop-i.invariant.sine_is c.sample_in-s.ensures
      c.term_of-sine.ensures.is c.term_of-sine.ensures.small (search rules);
}

pub returns-clause-cosine : goal.returns-clause-cosine
returns-clause-cosine c = let e : c.loop-i.i ≡ c.args.count = omega arith in rw e at c.loop-i.invariant.cosine_is

pub returns-clause-sine : goal.returns-clause-sine
returns-clause-sine c = let e : c.loop-i.i ≡ c.args.count = omega arith in rw e at c.loop-i.invariant.sine_is
