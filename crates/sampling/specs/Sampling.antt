-- Document 01, "Sampling and tags": the nominal frequency and its sampling.
use Rattle.std.specs.Prelude.{ℕ, ◌*◌}
use Rattle.sampling.specs.declared.Nominal.{Nominal}
use Rattle.sampling.specs.declared.Nominal.TheVariants.{Fifty, Sixty}

-- Nominal frequency is 50 or 60 Hz
abbrev pub hertz : Nominal → ℕ
hertz Fifty = 50
hertz Sixty = 60

-- Sampling is 15 per nominal cycle, of a number of cycles a second
abbrev pub sampling_of : ℕ → ℕ
sampling_of hz = 15 * hz

-- 750 or 900 per second
abbrev pub sampling : Nominal → ℕ
sampling nominal = sampling_of (hertz nominal)
