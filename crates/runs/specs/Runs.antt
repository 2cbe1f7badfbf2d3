-- Document 01, "The report": the whole-run measurement takes three lent runs, a centre and a nominal frequency.
use Rattle.std.specs.Prelude.{◌≡◌, Result, Ok, Err, not, ◌||◌, List, [], ◌∷◌, ℕ, ◌+◌, ◌-◌, eqb, ltb, length, get_or, ℤ, pos, Float}
use Rattle.model.specs.declared.filter.Sample.{Sample}
use Rattle.model.specs.declared.report.Figures.{Figures}
use Rattle.model.specs.Report.{figures_at, three_phase}
use Rattle.refusals.specs.declared.Refused.{Refused}
use Rattle.refusals.specs.Refusals.{Refusal, unless_refused, number_of}
use Rattle.sampling.specs.Tags.{no_nominal, nominal_of}

-- The first sample is index 0: the sample at index n of the three runs
abbrev pub sample_at : List ℤ → List ℤ → List ℤ → ℕ → Sample
sample_at a b c n = record { a = get_or a n (pos 0); b = get_or b n (pos 0); c = get_or c n (pos 0) }

-- what document 01 says of an answer: the number of a refusal, or a report without a tag
pub data Said : Type 0 where
  refused : (number : ℕ) → Said
  figures : (re im d1 d2 : ℤ) (mark : ℕ) (re_peak im_peak deviation rocof : Float) → Said

-- the report without a tag, value by value
abbrev pub said_figures : Figures → Said
said_figures f = figures f.re f.im f.d1 f.d2 f.mark f.re_peak f.im_peak f.deviation f.rocof

-- what an answer says, case by case
abbrev pub said : Result Figures Refused → Said
said (Err r) = refused (number_of r)
said (Ok f) = said_figures f

-- 16: the three runs differ in length
abbrev pub differ : List ℤ → List ℤ → List ℤ → Refusal
differ a b c = record { number = 16; due = not (eqb (length a) (length b)) || not (eqb (length b) (length c)) }

-- 17: centre has fewer than 15 samples before or after it
abbrev pub no_centre : List ℤ → ℕ → Refusal
no_centre a centre = record { number = 17; due = ltb centre 15 || ltb (length a - (centre + 1)) 15 }

-- whole run 6, 16, 17
abbrev pub run_refusals : List ℤ → List ℤ → List ℤ → ℕ → ℕ → List Refusal
run_refusals a b c centre nominal = no_nominal nominal ∷ differ a b c ∷ no_centre a centre ∷ []

-- it answers the report without a tag
unfoldable pub measured : List ℤ → List ℤ → List ℤ → ℕ → ℕ → Said
measured a b c centre nominal =
    unless_refused (run_refusals a b c centre nominal) refused
    (said_figures (figures_at three_phase (nominal_of nominal) (sample_at a b c) centre))

-- what `measure` promises
abbrev pub RunMeasuring : List ℤ → List ℤ → List ℤ → ℕ → ℕ → Result Figures Refused → Type 0
RunMeasuring a b c centre nominal r = said r ≡ measured a b c centre nominal
