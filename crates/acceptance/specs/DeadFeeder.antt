-- Document 02, CR 5, in its words: where there is no phase, and what a report says there. That reports, whole runs and listings have the figures of
-- `figures_at three_phase` is condition B's.
use Rattle.std.specs.Prelude.{◌≡◌, true, false, ◌↔◌, ℕ, ◌+◌, ◌-◌, ◌*◌, ◌≤◌, ◌<◌, ℤ, pos, neg_ℤ, nat_abs}
use Rattle.sampling.specs.declared.Nominal.{Nominal}
use Rattle.model.specs.declared.filter.Sample.{Sample}
use Rattle.model.specs.declared.angle.Phase.{Phase}
use Rattle.model.specs.declared.report.Figures.{Figures}
use Rattle.model.specs.Filter.{positive}
use Rattle.model.specs.Angle.{zero_turn, quarter_turn, gains, phase_of}
use Rattle.model.specs.Report.{three_phase, figures_at}

-- both |re| and |im| are below 22118400
pub record Below (re im : ℤ) : Type 0 where
  pub re_below : nat_abs re < 22118400
  pub im_below : nat_abs im < 22118400

-- so at centre i, or at i-1 or i+1
pub record BelowAbout (x : ℕ → Sample) (i : ℕ) : Type 0 where
  pub centre : ℕ
  pub not_sooner : i ≤ centre + 1
  pub not_later : centre ≤ i + 1
  pub below : Below (positive x centre).re (positive x centre).im

-- a report that shows no frequency: d1 = d2 = 0, and the no-phase mark is 1
pub record NoFrequency (f : Figures) : Type 0 where
  pub d1_zero : f.d1 ≡ pos 0
  pub d2_zero : f.d2 ≡ pos 0
  pub marked : f.mark ≡ 1

-- "noise of a count or two"
pub record Noise (s : Sample) : Type 0 where
  pub a_small : nat_abs s.a ≤ 2
  pub b_small : nat_abs s.b ≤ 2
  pub c_small : nat_abs s.c ≤ 2

-- the phase of (re, im)
abbrev pub phase_from : (re im : ℤ) → Phase
phase_from re im = phase_of three_phase.limit (record { re = re; im = im })

pub record DeadFeeder : Type 0 where
  -- "there is no phase when both |re| and |im| are below 22118400", and only then
  pub none_below : (re im : ℤ) → ((phase_from re im).none ≡ true) ↔ Below re im
  -- "which is four peak counts"
  pub four_counts : three_phase.limit ≡ 4 * three_phase.divisor
  -- "The angle is then 0"
  pub then_zero : (re im : ℤ) → Below re im → (phase_from re im).angle ≡ zero_turn
  -- "Reports, the mark, the whole-run measurement and the listing follow": no frequency is shown where one of the three centres is below ..
  pub shows_none : (nominal : Nominal) (x : ℕ → Sample) (i : ℕ) → BelowAbout x i → NoFrequency (figures_at three_phase nominal x i)
  -- .. and the mark is 0 elsewhere
  pub unmarked : (nominal : Nominal) (x : ℕ → Sample) (i : ℕ) → (BelowAbout x i → ⊥) → (figures_at three_phase nominal x i).mark ≡ 0
  -- "Turning by a quarter still adds exactly a quarter where a phase exists"
  pub quarter_more : (re im : ℤ) → (phase_from re im).none ≡ false
      → phase_from (neg_ℤ im) re ≡ record { angle = gains (phase_from re im).angle quarter_turn.parts; none = false }
  -- "With the leads off, noise of a count or two gives an angle, and the display shows a wild frequency": where the 29 samples at a report's centre
  -- are such noise, whatever it is, no frequency is shown
  pub leads_off : (nominal : Nominal) (x : ℕ → Sample) (i : ℕ) → ((j : ℕ) → j < 29 → Noise (x (i + j - 14)))
      → NoFrequency (figures_at three_phase nominal x i)
