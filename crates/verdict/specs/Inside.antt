-- How large the errors of a device report can be: no function asks it. A reader of the promises needs nothing of this.
use Rattle.std.specs.Prelude.{◌≤◌, ◌^◌}
use Rattle.verdict.specs.declared.errors.Errors.{Errors}

-- small enough for the products of the comparison to fit in 64 bits
pub record Small (e : Errors) : Type 0 where
  pub error_in : e.error_squared ≤ 2 ^ 41
  pub reference_in : e.reference_squared ≤ 2 ^ 41
