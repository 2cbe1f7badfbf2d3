-- Slots of a bank of 4096 bytes: a slot that is put in is there, the others are as they were, and the length stays. By cutting the bank at the slot's two ends. Assumes nothing.
use mathlib.Core.Path.{◌≡◌, refl, sym, ◌∙◌, ap}
use mathlib.Core.Bool.{Bool, true, false}
use mathlib.Core.List.{List, [], ◌∷◌, ◌++◌}
use Prim.Native.Nat.{ℕ, zero, suc, ◌+◌, ◌-◌, ◌*◌, ◌≤◌, ◌<◌}
use native.Mathlib.Nat.{zero-add, suc-add, add-sub_cancel_left}
use native.Mathlib.Omega.{arith}
use lib.Dec.{ltb}
use lib.ListN.{length, take, drop, length-drop, length-append, take-append-drop}
use lib.Seq.{take-nil, take_at, drop_at, take-append-le, drop-append-le, take-take, drop-drop, length-take-le}
use borrow.Author.Tests.{ltb-true, ltb-false}
use borrow.Rule.Slice.PartMut.{put_mid}
use Rattle.bank.specs.Slot.{slot_at, with_slot}

pub drop_take : (n m : ℕ) (l : List ℕ) → drop n (take (n + m) l) ≡ take m (drop n l)
drop_take zero m l = rw zero-add
drop_take (suc n) m [] = rw (suc-add n m) (sym (take-nil m))
drop_take (suc n) m (x ∷ l) = rw (suc-add n m) (drop_take n m l)

-- a slot put back as it was leaves the bank as it was
pub put_back : (bank : List ℕ) (k : ℕ) → with_slot bank k (slot_at bank k) ≡ bank
unfolding with_slot slot_at
put_back bank k =
    ap (λ (l : List ℕ). take (256 * k) bank ++ (take 256 (drop (256 * k) bank) ++ l)) (sym (drop-drop 256 (256 * k) bank))
    ∙ ap (λ (l : List ℕ). take (256 * k) bank ++ l) (take-append-drop 256 (drop (256 * k) bank))
    ∙ take-append-drop (256 * k) bank

-- the part of the bank that the code lends is the slot, and what comes back is put in its place
pub lent_slot : (bank : List ℕ) (k : ℕ) → take (256 * k + 256 - 256 * k) (drop (256 * k) bank) ≡ slot_at bank k
unfolding slot_at
lent_slot bank k = rw add-sub_cancel_left

pub back_slot : (bank : List ℕ) (k : ℕ) (s : List ℕ) → put_mid (256 * k) (256 * k + 256 - 256 * k) bank s ≡ with_slot bank k s
unfolding with_slot
back_slot bank k s = rw (add-sub_cancel_left, drop-drop 256 (256 * k) bank)

module _ (bank : List ℕ) (k : ℕ) (whole : length bank ≡ 4096) (named : k ≤ 15) where
  pub slot_length : length (slot_at bank k) ≡ 256
  unfolding slot_at
  slot_length = length-take-le 256 (drop (256 * k) bank) (simp length-drop (omega arith))

  front : length (take (256 * k) bank) ≡ 256 * k
  front = length-take-le (256 * k) bank (omega arith)

  module _ (s : List ℕ) (size : length s ≡ 256) where
    pub length_kept : length (with_slot bank k s) ≡ 4096
    unfolding with_slot
    length_kept =
        length-append (take (256 * k) bank) (s ++ drop (256 * k + 256) bank)
        ∙ rw (front, length-append s (drop (256 * k + 256) bank), size, length-drop (256 * k + 256) bank) (omega arith)

    pub same_slot : slot_at (with_slot bank k s) k ≡ s
    unfolding slot_at with_slot
    same_slot =
        rw (drop_at (take (256 * k) bank) (s ++ drop (256 * k + 256) bank) (256 * k) front)
        (take_at s (drop (256 * k + 256) bank) 256 size)

    earlier : (m : ℕ) → m < k → slot_at (with_slot bank k s) m ≡ slot_at bank m
    unfolding slot_at with_slot
    earlier m lt =
        let r = s ++ drop (256 * k + 256) bank in
        let n : ℕ = 256 * k - 256 * m in
        let c : 256 * k ≡ 256 * m + n = omega arith in
        let d : drop (256 * m) (take (256 * k) bank) ≡ take n (drop (256 * m) bank) =
        ap (λ (j : ℕ). drop (256 * m) (take j bank)) c ∙ drop_take (256 * m) n bank in
        let e : length (drop (256 * m) bank) ≡ 4096 - 256 * m = length-drop (256 * m) bank ∙ omega arith in
        let j : length (take n (drop (256 * m) bank)) ≡ n = length-take-le n (drop (256 * m) bank) (omega arith) in
        rw (
          drop-append-le (256 * m) (take (256 * k) bank) r (omega (arith, front)),
          d,
          take-append-le 256 (take n (drop (256 * m) bank)) r (omega arith),
        )
        (take-take 256 n (drop (256 * m) bank) (omega arith))

    later : (m : ℕ) → k < m → slot_at (with_slot bank k s) m ≡ slot_at bank m
    unfolding slot_at with_slot
    later m lt =
        let q = drop (256 * k + 256) bank in
        let t = take (256 * k) bank in
        let j : ℕ = 256 * m - (256 * k + 256) in
        let c : 256 * k + (256 + j) ≡ 256 * m = omega arith in
        let g : 256 * k + 256 + j ≡ 256 * m = omega arith in
        let d : drop (256 * m) (t ++ (s ++ q)) ≡ drop (256 * m) bank =
        ap (λ (i : ℕ). drop i (t ++ (s ++ q))) (sym c)
        ∙ sym (drop-drop (256 + j) (256 * k) (t ++ (s ++ q)))
        ∙ ap (λ (x : List ℕ). drop (256 + j) x) (drop_at t (s ++ q) (256 * k) front)
        ∙ sym (drop-drop j 256 (s ++ q))
        ∙ ap (λ (x : List ℕ). drop j x) (drop_at s q 256 size)
        ∙ drop-drop j (256 * k + 256) bank
        ∙ ap (λ (i : ℕ). drop i bank) g in
        ap (λ (x : List ℕ). take 256 x) d

    pub other_slot : (m : ℕ) → (m ≡ k → ⊥) → slot_at (with_slot bank k s) m ≡ slot_at bank m
    other_slot m ne = go (ltb m k) refl
      where
        go : (t : Bool) → ltb m k ≡ t → slot_at (with_slot bank k s) m ≡ slot_at bank m
        go true p = earlier m (ltb-true m k p)
        go false p = let g = ltb-false m k p in later m (omega arith)
