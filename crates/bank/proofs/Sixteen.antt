-- Sixteen equal slots make equal banks: byte i of a bank is byte i % 256 of slot i / 256.
use mathlib.Core.Path.{◌≡◌, sym, ap, ◌∙◌, subst}
use mathlib.Core.List.{List}
use Prim.Native.Nat.{ℕ, ◌+◌, ◌*◌, ◌/◌, ◌%◌, ◌≤◌, ◌<◌}
use native.Mathlib.Omega.{arith}
use lib.ListN.{length, drop, get_or}
use lib.Seq.{ext_get_or, get_or-take, get_or-drop}
use Rattle.bank.specs.Slot.{slot_at}

slot_byte : (bank : List ℕ) (k i : ℕ) → i < 256 → get_or (slot_at bank k) i 0 ≡ get_or bank (256 * k + i) 0
unfolding slot_at
slot_byte bank k i h = get_or-take 256 (drop (256 * k) bank) i 0 h ∙ get_or-drop (256 * k) bank i 0

pub banks_equal : (a b : List ℕ) → length a ≡ 4096 → length b ≡ 4096 → ((k : ℕ) → k ≤ 15 → slot_at a k ≡ slot_at b k) → a ≡ b
banks_equal a b la lb h =
    ext_get_or 0 a b (la ∙ sym lb)
    (λ i hi.
    let k : ℕ = i / 256 in
    let r : ℕ = i % 256 in
    let hr : r < 256 = omega arith in
    let e : 256 * k + r ≡ i = omega arith in
    subst (λ (n : ℕ). get_or a n 0 ≡ get_or b n 0) e
    (sym (slot_byte a k r hr) ∙ ap (λ (s : List ℕ). get_or s r 0) (h k (omega arith)) ∙ slot_byte b k r hr))
