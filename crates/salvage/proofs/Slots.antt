-- What a slot becomes: it stays 256 bytes, it is not damaged, its angles are true, and one that is sound stays as it is. Assumes nothing.
use Rattle.std.proofs.Common.{◌≡◌, ℕ, Bool, true, false, cond, not, List, length, eqb, Option, Some, None, refl, sym, ap, ◌∙◌, arith, eqb-true}
use Rattle.feed.specs.Places.{zeros}
use Rattle.feed.specs.Ring.{faulty}
use Rattle.bank.specs.Slot.{state_in, head_in, feed_in, free_slot, worked_out_in, TrueIn}
use Rattle.bank.specs.declared.damage.Damage.{Damage}
use Rattle.bank.specs.declared.damage.Damage.TheVariants.{Stray, Other}
use Rattle.bank.specs.Damage.{is_free, is_damaged, only_stray, damage_of}
use Rattle.bank.proofs.Keeping.{free_undamaged, is_open_lem, open_kept}
use Rattle.bank.proofs.Angles.{shut_stays, true_stays, stays_true, worked_size, worked_true, worked_undamaged}
use Rattle.salvage.specs.declared.Fate.TheVariants.{Sound}
use Rattle.salvage.specs.Slots.{fate_by, fate_of, trimmed, left_by, mended_slot, differing, unaltered, told}
use Rattle.salvage.proofs.Fates.{is_none, stray_held}
use Rattle.salvage.proofs.Trims.{trimmed_length, trimmed_open, trimmed_faultless, trimmed_sound}
use Rattle.salvage.proofs.Counts.{differing_none}

-- ---- by the damage

pub left_by_lem : {damage : Option Damage} (s : List ℕ) → damage_of s ≡ damage → mended_slot s ≡ left_by damage s
unfolding mended_slot
left_by_lem s e = ap (λ (d : Option Damage). left_by d s) e

-- ---- a slot that is not damaged: free, or open with numbers that are not faulty

module _ (s : List ℕ) (size : length s ≡ 256) (sound : is_damaged s ≡ false) where
  -- whatever holds of it where it is not open, and where it is
  pub by_state : {P : Type 0} → ((state_in s ≡ 1 → ⊥) → P) → (state_in s ≡ 1 → faulty (head_in s) ≡ false → P) → P
  unfolding feed_in
  by_state {P} shut opened = go (is_free s) refl
    where
      go : (t : Bool) → is_free s ≡ t → P
      go true e = shut (λ one. omega (arith, one, eqb-true (state_in s) 0 e))
      go false e = opened (eqb-true (state_in s) 1 (is_open_lem s size sound e)) (open_kept s size sound e).faultless

  -- with true angles it stays
  pub sound_left : TrueIn s → worked_out_in s ≡ s
  sound_left t = by_state (λ shut. shut_stays s shut) (λ one e. true_stays s one e t)

  -- and where it stays, they are true
  pub left_true : worked_out_in s ≡ s → TrueIn s
  left_true e = by_state (λ shut one. absurd (shut one)) (λ one f. stays_true s one f size e)

  pub none_left : mended_slot s ≡ worked_out_in s
  unfolding left_by
  none_left = left_by_lem s (is_none s sound)

-- a sound slot is as it was, and is said to be
module _ (s : List ℕ) (size : length s ≡ 256) (sound : is_damaged s ≡ false) (t : TrueIn s) where
  pub sound_stays : mended_slot s ≡ s
  sound_stays = none_left s size sound ∙ sound_left s size sound t

  none_differ : differing s (mended_slot s) ≡ 0
  none_differ = ap (λ (r : List ℕ). differing s r) sound_stays ∙ differing_none s

  pub sound_told : told s ≡ unaltered
  unfolding told
  sound_told =
      let fate : fate_of s ≡ Sound = λ i. fate_by (is_none s sound i) (not (eqb (none_differ i) 0)) in
      λ i. record { fate = fate i; differing = none_differ i }

-- ---- whatever the damage

free_length : length free_slot ≡ 256
unfolding free_slot zeros
free_length = refl

free_shut : state_in free_slot ≡ 1 → ⊥
unfolding free_slot zeros
free_shut e = omega (arith, e)

-- a law of bytes that holds of a slot with its angles worked out, where it was sound or is trimmed, and of a free one holds of a mended one
module _ (Law : List ℕ → Type 0) (s : List ℕ)
    (sound : is_damaged s ≡ false → Law (worked_out_in s)) (stray : only_stray s ≡ true → Law (worked_out_in (trimmed s))) (free : Law free_slot) where
  mended_by : Law (mended_slot s)
  unfolding mended_slot damage_of left_by
  mended_by = go (is_damaged s) refl (only_stray s) refl
    where
      go : (t : Bool) → is_damaged s ≡ t → (u : Bool) → only_stray s ≡ u → Law (left_by (cond t (Some (cond u Stray Other)) None) s)
      go true e true d = stray d
      go true e false d = free
      go false e u d = sound e

module _ (s : List ℕ) (size : length s ≡ 256) where
  trimmed_size : only_stray s ≡ true → length (trimmed s) ≡ 256
  trimmed_size e = trimmed_length s size (stray_held s e)

  pub mended_length : length (mended_slot s) ≡ 256
  mended_length =
      mended_by (λ l. length l ≡ 256) s
      (λ e. by_state s size e (λ shut. ap length (shut_stays s shut) ∙ size) (λ one f. worked_size s one f size))
      (λ e. worked_size (trimmed s) (trimmed_open s size e) (trimmed_faultless s size e) (trimmed_size e))
      free_length

  pub mended_sound : is_damaged (mended_slot s) ≡ false
  mended_sound =
      mended_by (λ l. is_damaged l ≡ false) s
      (λ e. by_state s size e (λ shut. ap is_damaged (shut_stays s shut) ∙ e) (λ one f. worked_undamaged s size e (ap (λ (n : ℕ). eqb n 0) one)))
      (λ e. trimmed_sound s size e)
      free_undamaged

  pub mended_true : TrueIn (mended_slot s)
  mended_true =
      mended_by TrueIn s
      (λ e. by_state s size e (λ shut one. absurd (shut (ap state_in (sym (shut_stays s shut)) ∙ one))) (λ one f. worked_true s one f size))
      (λ e. worked_true (trimmed s) (trimmed_open s size e) (trimmed_faultless s size e) (trimmed_size e))
      (λ one. absurd (free_shut one))
