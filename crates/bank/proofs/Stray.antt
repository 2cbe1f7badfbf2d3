-- Stray bytes: the parts of a slot that the code scans are the unfilled places and the tail, and a slot with none has a tail of zeros. Assumes nothing.
use mathlib.Core.Path.{◌≡◌, refl, sym, ◌∙◌, ap}
use mathlib.Core.Bool.{Bool, true, false}
use mathlib.Core.List.{List}
use Prim.Native.Nat.{ℕ, ◌+◌, ◌-◌, ◌*◌, min}
use native.Mathlib.Omega.{arith}
use lib.Dec.{ltb}
use lib.ListN.{length, take, drop, length-drop, drop_of_length-le}
use lib.Seq.{drop-drop, take_all}
use borrow.Author.Tests.{ltb-true, ltb-false}
use Rattle.feed.specs.Places.{zeros}
use Rattle.bank.specs.Slot.{places_in, tail_in}
use Rattle.bank.specs.Damage.{stray}
use Rattle.bank.proofs.Blank.{blank_zeros}
use Rattle.bank.proofs.Slots.{drop_take}
use Rattle.bank.proofs.Parts.{places_length}
use Rattle.bank.proofs.States.{no_stray}

module _ (s : List ℕ) (size : length s ≡ 256) where
  pub unfilled_scan : (held n : ℕ) → n ≡ min held 31 → take (197 - (11 + 6 * n)) (drop (11 + 6 * n) s) ≡ drop (6 * held) (places_in s)
  unfolding places_in
  unfilled_scan held n e = go (ltb held 31) refl
    where
      go : (t : Bool) → ltb held 31 ≡ t → take (197 - (11 + 6 * n)) (drop (11 + 6 * n) s) ≡ drop (6 * held) (take 186 (drop 11 s))
      go true p =
          let l = ltb-true held 31 p in
          let m : n ≡ held = omega arith in
          let k : 186 ≡ 6 * held + (197 - (11 + 6 * held)) = omega arith in
          rw m (sym (
          ap (λ (k : ℕ). drop (6 * held) (take k (drop 11 s))) k
          ∙ drop_take (6 * held) (197 - (11 + 6 * held)) (drop 11 s)
          ∙ ap (λ (r : List ℕ). take (197 - (11 + 6 * held)) r) (drop-drop (6 * held) 11 s)
          ))
      go false p =
          let l = ltb-false held 31 p in
          let m : n ≡ 31 = omega arith in
          rw m (sym (drop_of_length-le (take 186 (drop 11 s)) {i = 6 * held} (omega (arith, places_length s size))))

  pub tail_scan : take 44 (drop 212 s) ≡ tail_in s
  unfolding tail_in
  tail_scan = take_all 44 (drop 212 s) (simp length-drop (omega arith))

  pub clean_tail : stray s ≡ false → tail_in s ≡ zeros 44
  unfolding tail_in
  clean_tail e = blank_zeros (drop 212 s) (no_stray s e).tail ∙ ap zeros (length-drop 212 s ∙ omega arith)
