-- What a read's answer means.
use Rattle.std.specs.Prelude.{ℕ, zero, suc, Option, None, Some, Result, Ok, Err}

-- an error is that error, 0 the end, else that many bytes
abbrev pub meaning : {E : Type 0} → Result ℕ E → Result (Option ℕ) E
meaning (Err e) = Err e
meaning (Ok zero) = Ok None
meaning (Ok (suc n)) = Ok (Some (suc n))
