-- A call is its numbers: that a number is in its type's range is a proposition, so samples of equal numbers are the same call.
use mathlib.Core.Path.{◌≡◌}
use mathlib.Core.HLevel.{is_prop→PathP}
use native.Mathlib.Bridge.{le_prop}
use lib.IntN.{ℤ}
use mir.Syntax.{w16}
use mir.Val.{SFits}
use Rattle.acceptance.specs.Runs.{I16, samples}

range_prop : (z : ℤ) → IsProp (SFits w16 z)
range_prop z p q i = record { sfits = le_prop p.sfits q.sfits i }

same_number : (x y : I16) → x.number ≡ y.number → x ≡ y
same_number x y e i = record { number = e i; range = is_prop→PathP (λ (j : 𝕀). SFits w16 (e j)) (λ (j : 𝕀). range_prop (e j)) x.range y.range i }

pub same_samples : (a b c a' b' c' : I16) → a.number ≡ a'.number → b.number ≡ b'.number → c.number ≡ c'.number → samples a b c ≡ samples a' b' c'
same_samples a b c a' b' c' p q r i = samples (same_number a a' p i) (same_number b b' q i) (same_number c c' r i)
