-- The public contract admits one outcome: an answer is found again from what is said of it. Assumes nothing.
use mathlib.Core.Path.{◌≡◌, refl, sym, ap, ◌∙◌}
use mathlib.Core.List.{List}
use Prim.Native.Nat.{ℕ}
use Rattle.std.specs.Prelude.{Result, Ok, Err}
use Rattle.refusals.specs.declared.Refused.{Refused}
use Rattle.refusals.proofs.Numbers.{refused_of, again}
use Rattle.header.specs.declared.Header.{Header}
use Rattle.header.specs.Header.{Said, refused, opens, said, Heading}

-- the answer that a case of `said` stands for
abbrev unsaid : Said → Result Header Refused
unsaid (refused number) = Err (refused_of number)
unsaid (opens version nominal rate soc) = Ok (record { version = version; nominal = nominal; rate = rate; soc = soc })

unsaid_said : (r : Result Header Refused) → unsaid (said r) ≡ r
unsaid_said (Ok h) = refl
unsaid_said (Err r) = ap Err (again r)

pub read_header_unique : (h : List ℕ) (r q : Result Header Refused) → Heading h r → Heading h q → r ≡ q
read_header_unique h r q e f = sym (unsaid_said r) ∙ ap unsaid (e ∙ sym f) ∙ unsaid_said q
