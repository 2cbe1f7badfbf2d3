-- The public contract admits one outcome: an answer is found again from what is said of it. Assumes nothing.
use mathlib.Core.Path.{◌≡◌, refl, sym, ap, ◌∙◌}
use mathlib.Core.List.{List}
use Prim.Native.Nat.{ℕ}
use Rattle.std.specs.Prelude.{Result, Ok, Err}
use Rattle.refusals.specs.declared.Refused.{Refused}
use Rattle.refusals.proofs.Numbers.{refused_of, again}
use Rattle.frames.specs.declared.bench.Configured.{Configured}
use Rattle.frames.specs.declared.bench.Tag.{Tag}
use Rattle.frames.specs.declared.Frame.{Frame}
use Rattle.frames.specs.Reading.{Said, refused, figures, said, Reading}

-- the answer that a case of `said` stands for
abbrev unsaid : Said → Result Frame Refused
unsaid (refused number) = Err (refused_of number)
unsaid (figures device quality) = Ok (record { device = device; quality = quality })

unsaid_said : (r : Result Frame Refused) → unsaid (said r) ≡ r
unsaid_said (Err r) = ap Err (again r)
unsaid_said (Ok f) = refl

pub read_frame_unique : (f : List ℕ) (configured : Configured) (tag : Tag) (r q : Result Frame Refused)
    → Reading f configured tag r → Reading f configured tag q → r ≡ q
read_frame_unique f configured tag r q e d = sym (unsaid_said r) ∙ ap unsaid (e ∙ sym d) ∙ unsaid_said q
