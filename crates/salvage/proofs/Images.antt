-- An image whose slots are each made over by a rule: which slot stands where, and how long it is. By the number of slots. Assumes nothing.
use mathlib.Core.Path.{◌≡◌, refl, sym, ◌∙◌, ap}
use mathlib.Core.List.{List, ◌++◌, flatten}
use Prim.Native.Nat.{ℕ, zero, suc, ◌+◌, ◌*◌, ◌≤◌, ◌<◌}
use native.Mathlib.Nat.{zero-add, add-zero}
use native.Mathlib.Omega.{arith}
use lib.ListN.{length, get_or, take, drop, length-append}
use lib.Seq.{ext_get_or, take_at, drop_at, drop-drop}
use Rattle.bank.specs.Slot.{slot_at}
use Rattle.bank.proofs.Slots.{slot_length}
use Rattle.bank.proofs.Sixteen.{banks_equal}
use Rattle.salvage.specs.Slots.{mended_slot}
use Rattle.salvage.specs.Image.{each_slot, mended_image}
use Rattle.salvage.proofs.Slots.{mended_length}

module _ {A : Type 0} (rule : List ℕ → A) (image : List ℕ) where
  pub each_length : (k n : ℕ) → length (each_slot rule image k n) ≡ n
  unfolding each_slot
  each_length k zero = refl
  each_length k (suc n) = ap suc (each_length (suc k) n)

  pub each_at : (k n j : ℕ) (d : A) → j < n → get_or (each_slot rule image k n) j d ≡ rule (slot_at image (k + j))
  unfolding each_slot
  each_at k zero j d h = absurd (omega arith)
  each_at k (suc n) zero d h = ap (λ (i : ℕ). rule (slot_at image i)) (sym (add-zero k))
  each_at k (suc n) (suc j) d h =
      let e : suc k + j ≡ k + suc j = omega arith in
      each_at (suc k) n j d (omega arith) ∙ ap (λ (i : ℕ). rule (slot_at image i)) e

-- slots of 256 bytes
abbrev Whole : (List ℕ → List ℕ) → List ℕ → ℕ → ℕ → Type 0
Whole rule image k n = (j : ℕ) → k ≤ j → j < k + n → length (rule (slot_at image j)) ≡ 256

module _ (rule : List ℕ → List ℕ) (image : List ℕ) where
  flat_length : (k n : ℕ) → Whole rule image k n → length (flatten (each_slot rule image k n)) ≡ 256 * n
  unfolding each_slot flatten
  flat_length k zero w = refl
  flat_length k (suc n) w =
      length-append (rule (slot_at image k)) (flatten (each_slot rule image (suc k) n))
      ∙ omega (arith, w k (omega arith) (omega arith), flat_length (suc k) n (λ j h l. w j (omega arith) (omega arith)))

  flat_at : (k n j : ℕ) → Whole rule image k n → j < n → slot_at (flatten (each_slot rule image k n)) j ≡ rule (slot_at image (k + j))
  unfolding each_slot flatten slot_at
  flat_at k zero j w h = absurd (omega arith)
  flat_at k (suc n) zero w h =
      take_at (rule (slot_at image k)) (flatten (each_slot rule image (suc k) n)) 256 (w k (omega arith) (omega arith))
      ∙ ap (λ (i : ℕ). rule (slot_at image i)) (sym (add-zero k))
  flat_at k (suc n) (suc j) w h =
      let first : List ℕ = rule (slot_at image k) in
      let others : List ℕ = flatten (each_slot rule image (suc k) n) in
      let e : suc k + j ≡ k + suc j = omega arith in
      let d : 256 * suc j ≡ 256 + 256 * j = omega arith in
      let past : drop (256 * suc j) (first ++ others) ≡ drop (256 * j) others =
      ap (λ (i : ℕ). drop i (first ++ others)) d
      ∙ sym (drop-drop (256 * j) 256 (first ++ others))
      ∙ ap (λ (l : List ℕ). drop (256 * j) l) (drop_at first others 256 (w k (omega arith) (omega arith))) in
      ap (λ (l : List ℕ). take 256 l) past
      ∙ flat_at (suc k) n j (λ i h l. w i (omega arith) (omega arith)) (omega arith)
      ∙ ap (λ (i : ℕ). rule (slot_at image i)) e

-- ---- a mended image

module _ (image : List ℕ) (whole : length image ≡ 4096) where
  slots_whole : Whole mended_slot image 0 16
  slots_whole j h l = mended_length (slot_at image j) (slot_length image j whole (omega arith))

  pub mended_whole : length (mended_image image) ≡ 4096
  mended_whole = flat_length mended_slot image 0 16 slots_whole

  pub mended_at : (k : ℕ) → k ≤ 15 → slot_at (mended_image image) k ≡ mended_slot (slot_at image k)
  mended_at k h =
      flat_at mended_slot image 0 16 k slots_whole (omega arith)
      ∙ ap (λ (i : ℕ). mended_slot (slot_at image i)) (zero-add k)

  -- the image that has these slots is the mended one
  pub is_mended : (after : List ℕ) → length after ≡ 4096 → ((k : ℕ) → k ≤ 15 → slot_at after k ≡ mended_slot (slot_at image k))
      → after ≡ mended_image image
  is_mended after size same = banks_equal after _ size mended_whole (λ k h. same k h ∙ sym (mended_at k h))

-- ---- what is said of the sixteen

module _ {A : Type 0} (rule : List ℕ → A) (image : List ℕ) (d : A) where
  pub said_at_lem : (k : ℕ) → k ≤ 15 → get_or (each_slot rule image 0 16) k d ≡ rule (slot_at image k)
  said_at_lem k h = each_at rule image 0 16 k d (omega arith) ∙ ap (λ (i : ℕ). rule (slot_at image i)) (zero-add k)

  -- the sixteen of which these are said
  pub is_each : (l : List A) → length l ≡ 16 → ((k : ℕ) → k ≤ 15 → get_or l k d ≡ rule (slot_at image k)) → l ≡ each_slot rule image 0 16
  is_each l size same =
      ext_get_or d l _ (size ∙ sym (each_length rule image 0 16))
      (λ k h. let n : k ≤ 15 = omega arith in same k n ∙ sym (said_at_lem k n))
