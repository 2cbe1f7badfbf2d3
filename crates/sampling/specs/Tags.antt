-- Document 01, "Sampling and tags", with CR 2: which nominals and rates are served, the kept rate, D, and where a sample stands.
use Rattle.std.specs.Prelude.{◌≡◌, Result, Ok, Err, Bool, false, not, cond, ◌||◌, List, [], ◌∷◌, ℕ, ◌/◌, ◌%◌, eqb}
use Rattle.sampling.specs.declared.Nominal.{Nominal}
use Rattle.sampling.specs.declared.Nominal.TheVariants.{Fifty, Sixty}
use Rattle.sampling.specs.Sampling.{sampling_of}
use Rattle.refusals.specs.declared.Refused.{Refused}
use Rattle.refusals.specs.Refusals.{Refusal, unless_refused, by_number}

-- Nominal frequency is 50 or 60 Hz
abbrev pub served_nominal : ℕ → Bool
served_nominal nominal = eqb nominal 50 || eqb nominal 60

-- 50 is Fifty; every other number is answered as Sixty, and 6 is for the caller to give
abbrev pub nominal_of : ℕ → Nominal
nominal_of nominal = cond (eqb nominal 50) Fifty Sixty

-- Served rates: 10, 25, 50 reports a second at 50 Hz; 10, 12, 15, 20, 30, 60 at 60 Hz
abbrev pub rates : ℕ → List ℕ
rates nominal = cond (eqb nominal 50) (10 ∷ 25 ∷ 50 ∷ []) (cond (eqb nominal 60) (10 ∷ 12 ∷ 15 ∷ 20 ∷ 30 ∷ 60 ∷ []) [])

-- n is one of the list
abbrev pub among : ℕ → List ℕ → Bool
among n [] = false
among n (m ∷ ms) = eqb n m || among n ms

-- the rate is one of those served at the nominal
unfoldable pub served_rate : ℕ → ℕ → Bool
served_rate nominal rate = among rate (rates nominal)

-- 6: nominal not 50 or 60
abbrev pub no_nominal : ℕ → Refusal
no_nominal nominal = record { number = 6; due = not (served_nominal nominal) }

-- what naming a nominal frequency by its number promises: refused 6, or the frequency
abbrev pub Naming : ℕ → Result Nominal Refused → Type 0
Naming nominal r = by_number r ≡ unless_refused (no_nominal nominal ∷ []) Err (Ok (nominal_of nominal))

-- 7: rate not served, and not 0
abbrev pub no_rate : ℕ → ℕ → Refusal
no_rate nominal rate = record { number = 7; due = not (served_rate nominal rate || eqb rate 0) }

-- CR 2: at opening, rate 0 stands for the nominal frequency, 50 or 60, and that is what is kept (of an unserved nominal, that number)
unfoldable pub kept_rate : ℕ → ℕ → ℕ
kept_rate nominal rate = cond (eqb rate 0) nominal rate

-- D = sampling / rate
abbrev pub spacing : ℕ → ℕ → ℕ
spacing nominal rate = sampling_of nominal / rate

-- Sample index 0 of a second falls on the UTC second: samples are numbered from index 0 of SOC 0, and number n has this SOC.
-- The sampling is a multiple of 15, so a number meets the same table entries as its index: `model/figures_same`.
abbrev pub soc_of : ℕ → ℕ → ℕ
soc_of nominal n = n / sampling_of nominal

-- and this index in the second
abbrev pub index_of : ℕ → ℕ → ℕ
index_of nominal n = n % sampling_of nominal
