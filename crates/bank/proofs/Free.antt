-- A slot that is not damaged and not open is all zero, as each of a cleared bank is, and the numbers of an opened feed put into it make the feed's
-- slot. Assumes nothing.
use mathlib.Core.Path.{◌≡◌, refl, sym, ◌∙◌, ap}
use mathlib.Core.Bool.{false, not, ◌&&◌, ◌||◌}
use mathlib.Core.List.{List, ◌++◌}
use Prim.Native.Nat.{ℕ, ◌-◌, ◌*◌, ◌≤◌}
use native.Mathlib.Omega.{arith}
use lib.Dec.{ltb}
use lib.ListN.{length, take, drop}
use borrow.Author.Tests.{ltb-false, not-false}
use Rattle.feed.specs.Places.{zeros}
use Rattle.feed.specs.Ring.{faulty, opened}
use Rattle.feed.proofs.Sound.{neither}
use Rattle.bank.specs.Slot.{slot_at, state_in, head_in, head_bytes, kept_bytes, tail_of, slot_of, free_slot}
use Rattle.bank.specs.Damage.{blank, is_free, is_open, stray, is_damaged}
use Rattle.bank.proofs.Blank.{blank_zeros, zeros_front, zeros_rest}
use Rattle.bank.proofs.States.{free_damaged}

pub free_state : (s : List ℕ) → is_damaged s ≡ false → (state_in s ≡ 1 → ⊥) → state_in s ≡ 0
unfolding is_damaged
free_state s sound shut =
    let n = neither (ltb 1 (state_in s) || (is_free s && not (blank s))) (is_open s && (faulty (head_in s) || stray s)) sound in
    let m = neither (ltb 1 (state_in s)) (is_free s && not (blank s)) n.0 in
    omega (arith, ltb-false 1 (state_in s) m.0, shut)

pub all_zero : (s : List ℕ) → length s ≡ 256 → is_damaged s ≡ false → (state_in s ≡ 1 → ⊥) → s ≡ free_slot
unfolding free_slot
all_zero s size sound shut =
    blank_zeros s (not-false (blank s) (sym (free_damaged s (free_state s sound shut)) ∙ sound)) ∙ ap zeros size

-- a slot of a cleared bank
pub zeros_slot : (n : ℕ) → n ≤ 15 → slot_at (zeros 4096) n ≡ free_slot
unfolding slot_at free_slot
zeros_slot n h =
    ap (λ (l : List ℕ). take 256 l) (zeros_rest (256 * n) (4096 - 256 * n) 4096 (omega arith))
    ∙ zeros_front 256 (3840 - 256 * n) (4096 - 256 * n) (omega arith)

laid : (nominal rate soc : ℕ) → head_bytes (opened nominal rate soc).head ++ drop 11 free_slot ≡ slot_of (opened nominal rate soc)
unfolding opened slot_of kept_bytes tail_of free_slot zeros
laid nominal rate soc = refl

pub opened_slot : (s : List ℕ) (nominal rate soc : ℕ) → length s ≡ 256 → is_damaged s ≡ false → (state_in s ≡ 1 → ⊥)
    → head_bytes (opened nominal rate soc).head ++ drop 11 s ≡ slot_of (opened nominal rate soc)
opened_slot s nominal rate soc size sound shut = rw (all_zero s size sound shut) (laid nominal rate soc)
