-- Document 01, "Figures on both sides of each edge": those marked P, as one list under a single claim about the rules themselves, the angles
-- and the impulses as CR 5 restates them.
use Rattle.std.specs.Prelude.{◌≡◌, Bool, true, false, cond, ◌&&◌, List, [], ◌∷◌, ℕ, eqb, ℤ, pos, negsuc, neg_ℤ}
use Rattle.std.specs.Bool.{beq}
use Rattle.std.specs.Float.{binary64}
use Rattle.std.specs.Float.Ieee.{of_int, to_bits}
use Rattle.model.specs.declared.angle.Phase.{Phase}
use Rattle.model.specs.declared.filter.Sample.{Sample}
use Rattle.sampling.specs.declared.Nominal.{Nominal}
use Rattle.sampling.specs.declared.Nominal.TheVariants.{Fifty, Sixty}
use Rattle.model.specs.Filter.{positive, no_sample}
use Rattle.model.specs.Angle.{angle_of, phase_of}
use Rattle.model.specs.Report.{differences, deviation_of, three_phase, figures_at}
use Rattle.verdict.specs.declared.errors.Device.{Device}
use Rattle.verdict.specs.declared.errors.Reference.{Reference}
use Rattle.verdict.specs.Errors.{errors_of}
use Rattle.verdict.specs.Judging.{verdict_on}

-- an angle as the documents give it: none, or so many parts
pub data Angled : Type 0 where
  none : Angled
  at : ℕ → Angled

-- a figure: what it is about, and what the documents say of it
pub data Figure : Type 0 where
  -- angle of (re, im)
  angle : (re im : ℤ) → Angled → Figure
  -- one sample at an index and zeros elsewhere: re and im at a centre, and the mark of a report there, at either nominal
  impulse : (sample : Sample) (index centre : ℕ) (re im : ℤ) (mark : ℕ) → Figure
  -- p and r: d1
  difference : (p r : ℕ) (d1 : ℤ) → Figure
  -- d1 at a nominal frequency: the deviation in whole Hz
  deviation : Nominal → (d1 hz : ℤ) → Figure
  -- a device and a reference, and a limit in percent: whether TVE is within
  tve : Device → Reference → (percent : ℕ) → Bool → Figure

-- ---- when a figure holds

-- the same whole number
abbrev same : ℤ → ℤ → Bool
same (pos m) (pos n) = eqb m n
same (pos m) (negsuc n) = false
same (negsuc m) (pos n) = false
same (negsuc m) (negsuc n) = eqb m n

-- the phase is the angle that is given
abbrev is_angled : Phase → Angled → Bool
is_angled p none = p.none
is_angled p (at parts) = cond p.none false (eqb p.angle.parts parts)

-- a sample at an index, and zeros at every other
abbrev alone : Sample → ℕ → ℕ → Sample
alone s index n = cond (eqb n index) s no_sample

-- a phase of so many parts
abbrev phase : ℕ → Phase
phase parts = record { angle = angle_of parts; none = false }

-- the reports at a centre have this mark
abbrev is_marked : (ℕ → Sample) → ℕ → ℕ → Bool
is_marked x centre mark = eqb (figures_at three_phase Fifty x centre).mark mark && eqb (figures_at three_phase Sixty x centre).mark mark

-- the rule gives what the figure says; d1 needs no q
unfoldable pub holds : Figure → Bool
holds (angle re im angled) = is_angled (phase_of three_phase.limit (record { re = re; im = im })) angled
holds (impulse s index centre re im mark) =
    same (positive (alone s index) centre).re re && same (positive (alone s index) centre).im im && is_marked (alone s index) centre mark
holds (difference p r d1) = same (differences (phase p) (phase p) (phase r)).d1 d1
holds (deviation nominal d1 hz) = eqb (to_bits binary64 (deviation_of nominal d1)) (to_bits binary64 (of_int binary64 hz))
holds (tve device reference percent within) = beq (verdict_on (errors_of device reference) (record { tve = percent; fe = 0; rfe = 0 })).tve within

-- every figure of a list holds
abbrev pub all_hold : List Figure → Bool
all_hold [] = true
all_hold (f ∷ fs) = holds f && all_hold fs

-- ---- the figures

-- a = 1
abbrev one_in_a : Sample
one_in_a = record { a = pos 1; b = pos 0; c = pos 0 }

-- b = 1
abbrev one_in_b : Sample
one_in_b = record { a = pos 0; b = pos 1; c = pos 0 }

-- -n
abbrev minus_of : ℕ → ℤ
minus_of n = neg_ℤ (pos n)

-- a device that reads (re, im)
abbrev pub device : ℕ → ℕ → Device
device re im = record { re = pos re; im = pos im; deviation = pos 0; rocof = pos 0 }

-- a reference of (re, im)
abbrev pub reference : ℕ → ℕ → Reference
reference re im = record { re = pos re; im = pos im; deviation = pos 0; rocof = pos 0 }

-- the figures that are marked P, in document 01's order: its angle cases with both parts multiplied by 22118400, then both sides of that edge; its
-- impulse sums, with mark 1 (CR 5); r - p = 2^31 twice, without a wrap and with one
abbrev pub figures : List Figure
figures =
    angle (pos 22118400) (pos 22118400) (at 536870912)
    ∷ angle (minus_of 22118400) (pos 22118400) (at 1610612736)
    ∷ angle (minus_of 22118400) (minus_of 22118400) (at 2684354560)
    ∷ angle (pos 22118400) (minus_of 22118400) (at 3758096384)
    ∷ angle (pos 0) (pos 22118400) (at 1073741824)
    ∷ angle (pos 0) (pos 0) none
    ∷ angle (pos 22118399) (pos 22118399) none
    ∷ angle (pos 22118400) (pos 0) (at 0)
    ∷ angle (pos 0) (minus_of 22118400) (at 3221225472)
    ∷ angle (pos 22118399) (minus_of 22118400) (at 3758096441)
    ∷ impulse one_in_a 30 30 (pos 245760) (pos 0) 1
    ∷ impulse one_in_a 31 30 (pos 209552) (minus_of 93296) 1
    ∷ impulse one_in_b 35 30 (pos 163840) (pos 0) 1
    ∷ difference 4294967290 10 (pos 16)
    ∷ difference 0 2147483648 (minus_of 2147483648)
    ∷ difference 4294967295 2147483647 (minus_of 2147483648)
    ∷ deviation Sixty (minus_of 2147483648) (minus_of 225)
    ∷ tve (device 10100 0) (reference 10000 0) 1 true
    ∷ tve (device 10060 80) (reference 10000 0) 1 true
    ∷ tve (device 10101 0) (reference 10000 0) 1 false
    ∷ tve (device 10060 81) (reference 10000 0) 1 false
    ∷ []

-- every figure of the list is what the rules give
abbrev pub FiguresHold : Type 0
FiguresHold = all_hold figures ≡ true
