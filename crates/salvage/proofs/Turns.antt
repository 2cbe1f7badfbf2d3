-- Slots mended one after another: those before the k-th are mended and told of, the others are as they were. Assumes nothing.
use mathlib.Core.Path.{◌≡◌, refl, ◌∙◌, ap}
use mathlib.Core.List.{List}
use Prim.Native.Nat.{ℕ, ◌+◌, ◌-◌, ◌*◌, ◌≤◌, ◌<◌}
use native.Mathlib.Nat.{ne_of_lt}
use native.Mathlib.Omega.{arith}
use borrow.Author.Count.{below_none, below_more}
use borrow.Rule.Slice.PartMut.{put_mid}
use lib.ListN.{length, get_or, set, take, drop, length-set}
use lib.Seq.{get_or-set_same, get_or-set_other}
use Rattle.bank.specs.Slot.{slot_at, with_slot}
use Rattle.bank.proofs.Slots.{lent_slot, back_slot, slot_length, length_kept, same_slot, other_slot}
use Rattle.salvage.specs.declared.MendedSlot.{MendedSlot}
use Rattle.salvage.specs.Slots.{mended_slot, unaltered, told}
use Rattle.salvage.specs.Image.{mended_image, told_of}
use Rattle.salvage.proofs.Slots.{mended_length}
use Rattle.salvage.proofs.Images.{is_each, is_mended}

pub record MendedTo (k : ℕ) (before image : List ℕ) (slots : List MendedSlot) : Type 0 where
  pub whole : length image ≡ 4096
  pub sixteen : length slots ≡ 16
  pub said : (j : ℕ) → j < k → get_or slots j unaltered ≡ told (slot_at before j)
  pub done : (j : ℕ) → j < k → slot_at image j ≡ mended_slot (slot_at before j)
  pub others : (j : ℕ) → k ≤ j → slot_at image j ≡ slot_at before j

pub no_turn : (image : List ℕ) (slots : List MendedSlot) → length image ≡ 4096 → length slots ≡ 16 → MendedTo 0 image image slots
no_turn image slots whole sixteen = record {
  whole = whole;
  sixteen = sixteen;
  said = below_none _;
  done = below_none _;
  others = λ j h. refl;
}

module _ {k : ℕ} {before image : List ℕ} {slots : List MendedSlot} (named : k ≤ 15) (m : MendedTo k before image slots) where
  abbrev lent : List ℕ
  lent = take (256 * k + 256 - 256 * k) (drop (256 * k) image)

  lent_is : lent ≡ slot_at before k
  lent_is = lent_slot image k ∙ m.others k (omega arith)

  module _ {r : MendedSlot} {s : List ℕ} (says : r ≡ told lent) (leaves : s ≡ mended_slot lent) where
    size : length s ≡ 256
    size = ap length leaves ∙ mended_length lent (ap length (lent_slot image k) ∙ slot_length image k m.whole named)

    mends : s ≡ mended_slot (slot_at before k)
    mends = leaves ∙ ap mended_slot lent_is

    one_more : MendedTo (k + 1) before (with_slot image k s) (set slots k r)
    one_more = record {
      whole = length_kept image k m.whole named s size;
      sixteen = length-set slots k r ∙ m.sixteen;
      said = below_more _ k
          (λ j h. get_or-set_other slots k j r unaltered (ne_of_lt h) ∙ m.said j h)
          (get_or-set_same slots k r unaltered (omega (arith, m.sixteen)) ∙ says ∙ ap told lent_is);
      done = below_more _ k
          (λ j h. other_slot image k m.whole named s size j (ne_of_lt h) ∙ m.done j h)
          (same_slot image k m.whole named s size ∙ mends);
      others = λ j h. other_slot image k m.whole named s size j (λ e. omega (arith, e)) ∙ m.others j (omega arith);
    }

    -- a turn mends one more
    pub turn : MendedTo (k + 1) before (put_mid (256 * k) (256 * k + 256 - 256 * k) image s) (set slots k r)
    turn = rw (back_slot image k s) one_more

-- after sixteen turns the image is mended
module _ {k : ℕ} {before image : List ℕ} {slots : List MendedSlot} (all : k ≡ 16) (start : length before ≡ 4096) (m : MendedTo k before image slots) where
  pub all_told : slots ≡ told_of before
  all_told = is_each told before unaltered slots m.sixteen (λ j h. m.said j (omega arith))

  pub all_mended : image ≡ mended_image before
  all_mended = is_mended before start image m.whole (λ j h. m.done j (omega arith))
