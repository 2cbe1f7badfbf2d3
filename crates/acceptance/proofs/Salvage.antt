-- The promises of salvage hold: each slot of a mended image is what the rule makes of that slot, and so is what is said of it. Assumes nothing.
use mathlib.Core.Path.{◌≡◌, refl, sym, ap, ◌∙◌, subst}
use mathlib.Core.Bool.{Bool, true, false, not, cond}
use mathlib.Core.List.{List}
use Prim.Native.Nat.{ℕ, ◌≤◌}
use native.Mathlib.Omega.{arith}
use lib.Dec.{eqb}
use lib.ListN.{length, get_or-replicate}
use borrow.Author.Tests.{eqb-true, eq-eqb, not-false}
use Rattle.std.specs.Prelude.{Option, Result, Ok, Err}
use Rattle.refusals.specs.declared.Refused.{Refused}
use Rattle.bank.specs.Slot.{slot_at, TrueIn}
use Rattle.bank.specs.declared.damage.Damage.{Damage}
use Rattle.bank.specs.Damage.{is_damaged, damage_of}
use Rattle.bank.proofs.Lent.{pass}
use Rattle.bank.proofs.Slots.{slot_length}
use Rattle.salvage.specs.declared.MendedSlot.{MendedSlot}
use Rattle.salvage.specs.Slots.{fate_by, left_by, mended_slot, differing, unaltered, told}
use Rattle.salvage.specs.Image.{mended_image, told_of, refused, mended, said, all_sound, Outcome, refusing, granted, salvaged, Mending}
use Rattle.salvage.proofs.Fates.{is_stray, is_other}
use Rattle.salvage.proofs.Counts.{differing_most}
use Rattle.salvage.proofs.Slots.{left_by_lem, sound_stays, sound_told, mended_sound, mended_true}
use Rattle.salvage.proofs.Images.{mended_whole, mended_at, is_mended, said_at_lem, is_each}
use Rattle.acceptance.specs.Salvage.{Mends, said_at, OfEachSlot, SetToZero, WorkedOut, Salvage}
use Rattle.acceptance.proofs.Mended.{set_to_zero, untrue}

-- slot by slot
record Slotwise (image : List ℕ) (slots : List MendedSlot) (after : List ℕ) : Type 0 where
  whole : length image ≡ 4096
  whole_after : length after ≡ 4096
  leaves : (k : ℕ) → k ≤ 15 → slot_at after k ≡ mended_slot (slot_at image k)
  tells : (k : ℕ) → k ≤ 15 → said_at slots k ≡ told (slot_at image k)

slotwise : {image after : List ℕ} {slots : List MendedSlot} → Mends image slots after → Slotwise image slots after
unfolding salvaged
slotwise {image} {after} {slots} m = go (not (eqb (length image) 4096)) refl m.promised
  where
    go : (t : Bool) → not (eqb (length image) 4096) ≡ t → record { answer = said m.answer; image = after } ≡ cond t (refusing image 1) (granted image)
        → Slotwise image slots after
    go true p e =
        let other : refused 1 ≡ mended slots = sym (ap (λ (o : Outcome). o.answer) e) ∙ m.says in cc
    go false p e =
        let whole = eqb-true (length image) 4096 (not-false _ p) in
        let bytes : after ≡ mended_image image = ap (λ (o : Outcome). o.image) e in
        let same : mended (told_of image) ≡ mended slots = sym (ap (λ (o : Outcome). o.answer) e) ∙ m.says in
        let each : told_of image ≡ slots = cc in
        record {
          whole = whole;
          whole_after = ap length bytes ∙ mended_whole image whole;
          leaves = λ k h. ap (λ (b : List ℕ). slot_at b k) bytes ∙ mended_at image whole k h;
          tells = λ k h. ap (λ (l : List MendedSlot). said_at l k) (sym each) ∙ said_at_lem told image _ k h;
        }

-- what is left of a slot so damaged, and what is said to become of it
damaged_so : {image after : List ℕ} {slots : List MendedSlot} {damage : Option Damage} → Mends image slots after → (k : ℕ) → k ≤ 15 → damage_of (slot_at image k) ≡ damage
    → (slot_at after k ≡ left_by damage (slot_at image k))
    × ((said_at slots k).fate ≡ fate_by damage (not (eqb (differing (slot_at image k) (mended_slot (slot_at image k))) 0)))
unfolding told
damaged_so {image} m k h e =
    let w = slotwise m in
    let s = slot_at image k in
    (w.leaves k h ∙ left_by_lem s e, ap (λ (t : MendedSlot). t.fate) (w.tells k h) ∙ ap (λ (d : Option Damage). fate_by d (not (eqb (differing s (mended_slot s)) 0))) e)

none_damaged : OfEachSlot (λ before told after. is_damaged after ≡ false)
none_damaged image slots after m k h =
    let w = slotwise m in
    ap is_damaged (w.leaves k h) ∙ mended_sound (slot_at image k) (slot_length image k w.whole h)

all_true : OfEachSlot (λ before told after. TrueIn after)
all_true image slots after m k h =
    let w = slotwise m in
    subst TrueIn (sym (w.leaves k h)) (mended_true (slot_at image k) (slot_length image k w.whole h))

-- an image whose slots are sound is mended into itself, and each slot is said to be sound
module _ (image : List ℕ) (whole : length image ≡ 4096) (sound : (k : ℕ) → k ≤ 15 → is_damaged (slot_at image k) ≡ false)
    (true_all : (k : ℕ) → k ≤ 15 → TrueIn (slot_at image k)) where
  stays_so : mended_image image ≡ image
  stays_so = sym (is_mended image whole image whole (λ k h. sym (sound_stays (slot_at image k) (slot_length image k whole h) (sound k h) (true_all k h))))

  said_sound : told_of image ≡ all_sound
  said_sound =
      sym (is_each told image unaltered all_sound refl
      (λ k h. get_or-replicate 16 k _ _ (omega arith) ∙ sym (sound_told (slot_at image k) (slot_length image k whole h) (sound k h) (true_all k h))))

-- an answer that says these slots is them
answered : {image after : List ℕ} (r : Result (List MendedSlot) Refused) (slots : List MendedSlot) → Mending image r after → said r ≡ mended slots
    → (told_slots : List MendedSlot) × (r ≡ Ok told_slots) × Mends image told_slots after
answered (Ok told_slots) slots p e = (told_slots, refl, record { answer = Ok told_slots; promised = p; says = refl })
answered (Err r) slots p e = cc

pub salvage_holds : Salvage
unfolding left_by told salvaged
salvage_holds = record {
  whole_mended = λ image r after whole p.
      let e = p ∙ pass _ (granted image) (ap not (eq-eqb _ _ whole)) in
      answered r (told_of image) p (ap (λ (o : Outcome). o.answer) e);
  stray_trimmed = λ image slots after m k h e.
      let s = slot_at image k in
      let f = damaged_so m k h (is_stray s e) in
      (subst (λ (t : List ℕ). SetToZero s t) (sym f.0) (set_to_zero s (slot_length image k (slotwise m).whole h) e), f.1);
  others_closed = λ image slots after m k h d e. damaged_so m k h (is_other (slot_at image k) d e);
  sound_stay = λ image slots after m k h e t.
      let w = slotwise m in
      let s = slot_at image k in
      let size = slot_length image k w.whole h in
      (w.leaves k h ∙ sound_stays s size e t, ap (λ (x : MendedSlot). x.fate) (w.tells k h ∙ sound_told s size e t));
  untrue_trimmed = λ image slots after m k h e t.
      let w = slotwise m in
      let s = slot_at image k in
      let u = untrue s (slot_length image k w.whole h) e t in (
        subst (λ (r : List ℕ). WorkedOut s r) (sym (w.leaves k h)) u.0,
        ap (λ (x : MendedSlot). x.fate) (w.tells k h) ∙ u.1,
      );
  counts = λ image slots after m k h.
      let w = slotwise m in
      let s = slot_at image k in
      let count = ap (λ (t : MendedSlot). t.differing) (w.tells k h) in (
        count ∙ ap (λ (t : List ℕ). differing s t) (sym (w.leaves k h)),
        omega (arith, count, differing_most s (mended_slot s), slot_length image k w.whole h),
      );
  by_itself = λ other others last n j l image slots after m k h e.
      let w = slotwise m in
      let v = slotwise n in
      (w.leaves k h ∙ ap mended_slot e ∙ sym (v.leaves j l), w.tells k h ∙ ap told e ∙ sym (v.tells j l));
  none_damaged = none_damaged;
  all_true = all_true;
  again = λ image slots after m r last p.
      let whole = (slotwise m).whole_after in
      let e = p ∙ pass _ (granted after) (ap not (eq-eqb _ _ whole)) in (
        ap (λ (o : Outcome). o.image) e ∙ stays_so after whole (none_damaged image slots after m) (all_true image slots after m),
        ap (λ (o : Outcome). o.answer) e ∙ ap mended (said_sound after whole (none_damaged image slots after m) (all_true image slots after m)),
      );
}
