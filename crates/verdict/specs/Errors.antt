-- Document 01, "The verdict": how far a device report is from its reference.
use Rattle.std.specs.Prelude.{ℕ, ◌+◌, ◌*◌, ℤ, pos, nat_abs, ◌-ℤ◌, ◌*ℤ◌}
use Rattle.verdict.specs.declared.errors.Device.{Device}
use Rattle.verdict.specs.declared.errors.Reference.{Reference}
use Rattle.verdict.specs.declared.errors.Errors.{Errors}

-- x² + y²
abbrev pub squares : ℤ → ℤ → ℕ
squares x y = nat_abs x * nat_abs x + nat_abs y * nat_abs y

-- dr² + di², with dr, di the differences of the device's re and im from the reference's
abbrev pub error_squared : Device → Reference → ℕ
error_squared device reference = squares (device.re -ℤ reference.re) (device.im -ℤ reference.im)

-- |unit·device - reference|
abbrev pub apart_by : ℕ → ℤ → ℤ → ℕ
apart_by unit device reference = nat_abs (pos unit *ℤ device -ℤ reference)

-- FE compares |1000·device - reference|: mHz and µHz
abbrev pub frequency_error : ℤ → ℤ → ℕ
frequency_error device reference = apart_by 1000 device reference

-- RFE compares |10000·device - reference|: hundredths of Hz/s and µHz/s
abbrev pub rocof_error : ℤ → ℤ → ℕ
rocof_error device reference = apart_by 10000 device reference

-- the errors of a device report: dr² + di², re² + im² of the reference, FE in µHz, RFE in µHz/s
unfoldable pub errors_of : Device → Reference → Errors
errors_of device reference =
    record {
      error_squared = error_squared device reference;
      reference_squared = squares reference.re reference.im;
      frequency = frequency_error device.deviation reference.deviation;
      rocof = rocof_error device.rocof reference.rocof;
    }
