-- Document 01, "The bank", with CR 3 and CR 6: when a slot is damaged, and when only by stray bytes or flags over 1.
use Rattle.std.specs.Prelude.{Option, Some, None, Bool, true, cond, not, ◌&&◌, ◌||◌, List, [], ◌∷◌, ℕ, ◌*◌, eqb, ltb, get_or, drop}
use Rattle.feed.specs.Ring.{faulty}
use Rattle.bank.specs.declared.damage.Damage.{Damage}
use Rattle.bank.specs.declared.damage.Damage.TheVariants.{Stray, Other}
use Rattle.bank.specs.Slot.{state_in, head_in, places_in, tail_in}

-- every byte is zero
unfoldable pub blank : List ℕ → Bool
blank [] = true
blank (b ∷ bs) = eqb b 0 && blank bs

-- 0 free
abbrev pub is_free : List ℕ → Bool
is_free s = eqb (state_in s) 0

-- 1 open
abbrev pub is_open : List ℕ → Bool
is_open s = eqb (state_in s) 1

-- a no-phase flag over 1 (CR 6)
unfoldable pub flag_over : List ℕ → Bool
flag_over s = ltb 1 (get_or s 209 0) || ltb 1 (get_or s 210 0) || ltb 1 (get_or s 211 0)

-- a nonzero byte in an unfilled place or after byte 211, or a flag over 1
unfoldable pub stray : List ℕ → Bool
stray s = not (blank (drop (6 * (head_in s).held) (places_in s))) || not (blank (tail_in s)) || flag_over s

-- A slot is damaged if: its state exceeds 1; it is free with a nonzero byte; or it is open with faulty numbers, a stray byte or a flag over 1
unfoldable pub is_damaged : List ℕ → Bool
is_damaged s = ltb 1 (state_in s) || (is_free s && not (blank s)) || (is_open s && (faulty (head_in s) || stray s))

-- CR 3, with CR 6: an open slot damaged only by nonzero bytes in unfilled places or after byte 211, or by a flag over 1
unfoldable pub only_stray : List ℕ → Bool
only_stray s = is_open s && stray s && not (faulty (head_in s))

-- how a slot is damaged: not at all, only by stray bytes or flags over 1, or otherwise
unfoldable pub damage_of : List ℕ → Option Damage
damage_of s = cond (is_damaged s) (Some (cond (only_stray s) Stray Other)) None
