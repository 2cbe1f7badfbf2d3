-- What salvage makes of one open slot that it does not close: trimmed, with its angles worked out, or with these alone worked out. Assumes nothing.
use mathlib.Core.Path.{◌≡◌, refl, sym, ap, ◌∙◌}
use mathlib.Core.Bool.{Bool, true, false, not}
use mathlib.Core.List.{List}
use Prim.Native.Nat.{ℕ, ◌*◌}
use native.Mathlib.Omega.{arith}
use lib.Dec.{eqb}
use lib.ListN.{length, take, drop}
use lib.Seq.{take-take}
use borrow.Author.Tests.{eqb-true}
use Rattle.feed.specs.History.{History}
use Rattle.feed.specs.Kept.{phases_of}
use Rattle.bank.specs.Slot.{head_in, kept_bytes, worked_out_in, TrueIn}
use Rattle.bank.specs.Damage.{is_damaged, only_stray}
use Rattle.bank.proofs.Angles.{worked_front, worked_places, worked_part, worked_tail}
use Rattle.salvage.specs.declared.Fate.TheVariants.{Trimmed}
use Rattle.salvage.specs.Slots.{fate_by, trimmed, mended_slot, differing, told}
use Rattle.salvage.proofs.Fates.{is_none, stray_held}
use Rattle.salvage.proofs.Trims.{trimmed_length, numbers_stay, filled_stay, unfilled_zero, tail_zero, trimmed_open, trimmed_faultless, same_samples}
use Rattle.salvage.proofs.Counts.{none_differing}
use Rattle.salvage.proofs.Slots.{by_state, left_true, none_left, mended_length}
use Rattle.acceptance.specs.Salvage.{SetToZero, WorkedOut}

-- a slot that only stray bytes or flags over 1 damage
module _ (s : List ℕ) (size : length s ≡ 256) (e : only_stray s ≡ true) where
  abbrev t : List ℕ
  t = trimmed s

  abbrev filled : ℕ
  filled = 6 * (head_in s).held

  pub set_to_zero : SetToZero s (worked_out_in t)
  set_to_zero =
      let held = stray_held s e in
      let one = trimmed_open s size e in
      let fine = trimmed_faultless s size e in
      let whole = trimmed_length s size held in
      let places = worked_places t one fine whole in
      record {
        numbers =
            sym (take-take 11 197 (worked_out_in t) (omega arith))
            ∙ ap (λ (l : List ℕ). take 11 l) (worked_front t one fine whole)
            ∙ take-take 11 197 t (omega arith)
            ∙ numbers_stay s size held;
        filled = ap (λ (l : List ℕ). take filled l) places ∙ filled_stay s size held;
        unfilled = ap (λ (l : List ℕ). drop filled l) places ∙ unfilled_zero s size held;
        angles = worked_part t one fine whole ∙ ap (λ (h : History). kept_bytes (phases_of h)) (same_samples s size e);
        after_211 = worked_tail t one fine whole ∙ tail_zero s size held;
      }

-- a slot that is not damaged and has angles that are not true
module _ (s : List ℕ) (size : length s ≡ 256) (e : is_damaged s ≡ false) (untruth : TrueIn s → ⊥) where
  worked_so : WorkedOut s (worked_out_in s)
  worked_so =
      by_state s size e
      (λ shut. absurd (untruth (λ one. absurd (shut one))))
      (λ one fine. record {
        before_197 = worked_front s one fine size;
        angles_worked_out = worked_part s one fine size;
        rest = worked_tail s one fine size;
      })

  pub untrue : WorkedOut s (mended_slot s) × ((told s).fate ≡ Trimmed)
  unfolding told
  untrue = (rw (none_left s size e) worked_so, go (eqb (differing s (mended_slot s)) 0) refl)
    where
      go : (b : Bool) → eqb (differing s (mended_slot s)) 0 ≡ b → (told s).fate ≡ Trimmed
      go true d =
          let same = none_differing s (mended_slot s) (size ∙ sym (mended_length s size)) (eqb-true (differing s (mended_slot s)) 0 d) in
          absurd (untruth (left_true s size e (sym (same ∙ none_left s size e))))
      go false d = λ i. fate_by (is_none s e i) (not (d i))
