-- What CR 5 promises holds: the sizes of both parts decide whether there is a phase, the phases at three centres decide the mark, and noise of two
-- counts gives parts of at most 14745600. Assumes nothing.
use mathlib.Core.Path.{◌≡◌, refl, sym, ap, ◌∙◌, subst}
use mathlib.Core.Bool.{Bool, true, false, or-true, not-eq-not}
use mathlib.Core.Logic.{◌↔◌}
use Prim.Native.Nat.{ℕ, ◌+◌, ◌-◌, ◌≤◌, ◌<◌}
use native.Mathlib.Decide.{dec_lt}
use native.Mathlib.Omega.{arith}
use lib.Dec.{lit≤}
use lib.IntN.{ℤ, neg_ℤ}
use Rattle.sampling.specs.declared.Nominal.{Nominal}
use Rattle.model.specs.declared.filter.Sample.{Sample}
use Rattle.model.specs.declared.angle.Phase.{Phase}
use Rattle.model.specs.Filter.{positive}
use Rattle.model.specs.Angle.{zero_turn, quarter_turn, gains}
use Rattle.model.specs.Report.{three_phase, phase_at, figures_at}
use Rattle.model.proofs.NoPhase.{none_exactly, none_is, phase_none}
use Rattle.model.proofs.Marks.{one_none, figures_none, figures_some}
use Rattle.model.proofs.Quarter.{quarter, quarter_none}
use Rattle.model.proofs.Small.{positive_size}
use Rattle.acceptance.specs.DeadFeeder.{Below, BelowAbout, NoFrequency, Noise, phase_from, DeadFeeder}

none_below : (re im : ℤ) → ((phase_from re im).none ≡ true) ↔ Below re im
none_below re im =
    let exactly = none_exactly three_phase.limit (record { re = re; im = im }) in
    (λ e. let h = exactly.0 e in record { re_below = h.0; im_below = h.1 }, λ b. exactly.1 (b.re_below, b.im_below))

then_zero : (re im : ℤ) → Below re im → (phase_from re im).angle ≡ zero_turn
then_zero re im b =
    let none = sym (none_is three_phase.limit (record { re = re; im = im })) ∙ (none_below re im).1 b in
    ap (λ (f : Phase). f.angle) (phase_none three_phase.limit (record { re = re; im = im }) none)

quarter_more : (re im : ℤ) → (phase_from re im).none ≡ false
    → phase_from (neg_ℤ im) re ≡ record { angle = gains (phase_from re im).angle quarter_turn.parts; none = false }
quarter_more re im h =
    let angle = quarter three_phase.limit (lit≤ tt) (record { re = re; im = im }) h in
    let none = quarter_none three_phase.limit (record { re = re; im = im }) ∙ h in
    λ t. record { angle = angle t; none = none t }

-- ---- the mark

module _ (nominal : Nominal) (x : ℕ → Sample) (i : ℕ) where
  abbrev none_at : ℕ → Bool
  none_at k = (phase_at three_phase x k).none

  -- whether there is a phase at a centre
  decided : (k : ℕ) → (none_at k ≡ true) ↔ Below (positive x k).re (positive x k).im
  unfolding phase_at
  decided k = none_below (positive x k).re (positive x k).im

  shows_none : BelowAbout x i → NoFrequency (figures_at three_phase nominal x i)
  shows_none h =
      let (d1, d2, mark) = figures_none three_phase nominal x i one in
      record { d1_zero = d1; d2_zero = d2; marked = mark }
    where
      there : (k : ℕ) → h.centre ≡ k → none_at k ≡ true
      there k e = subst (λ (n : ℕ). none_at n ≡ true) e ((decided h.centre).1 h.below)

      one : one_none three_phase x i ≡ true
      one =
          elim (dec_lt h.centre i) [
            | yes l ↦ simp (there (i - 1) (omega (arith, h.not_sooner)))
            | no l ↦ elim (dec_lt i h.centre) [
              | yes m ↦ simp (there (i + 1) (omega (arith, h.not_later)), or-true)
              | no m ↦ simp (there i (omega arith), or-true)
            ]
          ]

  unmarked : (BelowAbout x i → ⊥) → (figures_at three_phase nominal x i).mark ≡ 0
  unmarked h =
      let before = at_phase (i - 1) (omega arith) (omega arith) in
      let centre = at_phase i (omega arith) (omega arith) in
      let after = at_phase (i + 1) (omega arith) (omega arith) in
      figures_some three_phase nominal x i (simp (before, centre, after))
    where
      at_phase : (k : ℕ) → i ≤ k + 1 → k ≤ i + 1 → none_at k ≡ false
      at_phase k sooner later = (not-eq-not {a = none_at k} {b = false}).0 (λ e. h (record { centre = k; not_sooner = sooner; not_later = later; below = (decided k).0 e }))

  leads_off : ((j : ℕ) → j < 29 → Noise (x (i + j - 14))) → NoFrequency (figures_at three_phase nominal x i)
  leads_off w =
      let s = positive_size 2 x i (λ j l. record { a_size = (w j l).a_small; b_size = (w j l).b_small; c_size = (w j l).c_small }) in
      shows_none (record {
        centre = i;
        not_sooner = omega arith;
        not_later = omega arith;
        below = record { re_below = omega (arith, s.re_size); im_below = omega (arith, s.im_size) };
      })

pub dead_feeder : DeadFeeder
dead_feeder = record {
  none_below = none_below;
  four_counts = refl;
  then_zero = then_zero;
  shows_none = shows_none;
  unmarked = unmarked;
  quarter_more = quarter_more;
  leads_off = leads_off;
}
