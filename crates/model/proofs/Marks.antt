-- d1, d2 and the mark by whether one of the three phases is none. Assumes nothing.
use Rattle.std.proofs.Common.{◌≡◌, ℕ, ◌+◌, ◌-◌, Bool, true, false, ◌||◌, pos, ap}
use Rattle.ints.proofs.Cases.{when_true, when_false}
use Rattle.bits.specs.Bits.{signed32}
use Rattle.sampling.specs.declared.Nominal.{Nominal}
use Rattle.model.specs.Report.{difference, second_difference, differences, joined, phase_at, figures_at}
use Rattle.model.specs.declared.angle.Phase.{Phase}
use Rattle.model.specs.declared.filter.Sample.{Sample}
use Rattle.model.specs.declared.report.Differences.{Differences}
use Rattle.model.specs.declared.report.Scale.{Scale}

module _ (p q r : Phase) where
  pub differences_none : (p.none || q.none || r.none) ≡ true → differences p q r ≡ record { d1 = pos 0; d2 = pos 0; mark = 1 }
  unfolding differences
  differences_none e = when_true (p.none || q.none || r.none) _ _ e

  pub differences_some : (p.none || q.none || r.none) ≡ false
      → differences p q r ≡ record { d1 = signed32 (difference p.angle r.angle); d2 = signed32 (second_difference p.angle q.angle r.angle); mark = 0 }
  unfolding differences
  differences_some e = when_false (p.none || q.none || r.none) _ _ e

-- one of the phases at i-1, i, i+1 is none
abbrev pub one_none : Scale → (ℕ → Sample) → ℕ → Bool
one_none scale x i = (phase_at scale x (i - 1)).none || (phase_at scale x i).none || (phase_at scale x (i + 1)).none

module _ (scale : Scale) (nominal : Nominal) (x : ℕ → Sample) (i : ℕ) where
  -- then the report at i shows no frequency
  pub figures_none : one_none scale x i ≡ true
      → ((figures_at scale nominal x i).d1 ≡ pos 0) × ((figures_at scale nominal x i).d2 ≡ pos 0) × ((figures_at scale nominal x i).mark ≡ 1)
  unfolding figures_at joined
  figures_none e =
      let d = differences_none (phase_at scale x (i - 1)) (phase_at scale x i) (phase_at scale x (i + 1)) e in
      (ap (λ (t : Differences). t.d1) d, ap (λ (t : Differences). t.d2) d, ap (λ (t : Differences). t.mark) d)

  -- and else the mark is 0
  pub figures_some : one_none scale x i ≡ false → (figures_at scale nominal x i).mark ≡ 0
  unfolding figures_at joined
  figures_some e =
      ap (λ (t : Differences). t.mark) (differences_some (phase_at scale x (i - 1)) (phase_at scale x i) (phase_at scale x (i + 1)) e)
