-- A trimmed slot: zeros after the filled places. Its numbers are as they were, and with its angles worked out it is not damaged. Assumes nothing.
use Rattle.std.proofs.Common.{◌≡◌, ℕ, ◌+◌, ◌-◌, ◌*◌, ◌≤◌, ◌<◌, true, false, List, ◌++◌, length, replicate, get_or, take, drop, sym, ◌∙◌, ap, arith, length-append, take_at, drop_at, drop-drop, length-take-le}
use Rattle.std.proofs.lemmas.Grind.{elements, pieces}
use borrow.Rule.Slice.PartMut.{put_mid}
use lib.ListN.{get_or-append}
use lib.Seq.{take-append-le, take-take, get_or-take}
use Rattle.feed.specs.Places.{zeros}
use Rattle.feed.specs.Ring.{faulty, next_number_of, history_of}
use Rattle.feed.proofs.Sound.{sound}
use Rattle.bank.specs.Slot.{state_in, head_in, places_in, tail_in, feed_in, free_slot, worked_out_in}
use Rattle.bank.specs.Damage.{is_damaged, only_stray}
use Rattle.bank.proofs.Blank.{zeros_blank, zeros_length, zeros_front, zeros_rest}
use Rattle.bank.proofs.Slots.{drop_take}
use Rattle.bank.proofs.Parts.{places_length, same_numbers}
use Rattle.bank.proofs.Held.{held_same}
use Rattle.bank.proofs.States.{only_stray_lem}
use Rattle.bank.proofs.Angles.{worked_sound}
use Rattle.salvage.specs.Slots.{filled_to, trimmed}
use Rattle.salvage.proofs.Fates.{stray_held}

-- bytes copied over a free slot stand before zeros
pub over_free : (l f : List ℕ) (n : ℕ) → n ≤ 256 → f ≡ free_slot → l ++ drop n f ≡ l ++ zeros (256 - n)
unfolding free_slot
over_free l f n h e = rw (e, zeros_rest n (256 - n) 256 (omega arith))

-- zeros put over all that stands from byte n on
pub zeroed_from : (s f : List ℕ) (m n : ℕ) → m ≡ n → n ≤ 256 → length s ≡ 256 → f ≡ replicate (length (take (256 - m) (drop m s))) 0
    → put_mid m (256 - m) s f ≡ take n s ++ zeros (256 - n)
unfolding zeros
zeroed_from s f m n e h size z = grind (arith, elements, pieces)

-- ---- a trimmed slot

module _ (s : List ℕ) (size : length s ≡ 256) (held : (head_in s).held ≤ 31) where
  abbrev kept : ℕ
  kept = filled_to s

  front : length (take kept s) ≡ kept
  front = length-take-le kept s (omega (arith, held))

  pub trimmed_length : length (trimmed s) ≡ 256
  unfolding trimmed
  trimmed_length = length-append (take kept s) (zeros (256 - kept)) ∙ omega (arith, front, zeros_length (256 - kept), held)

  low : (i : ℕ) → i < 11 → get_or (trimmed s) i 0 ≡ get_or s i 0
  unfolding trimmed
  low i h =
      get_or-append (take kept s) (zeros (256 - kept)) 0 i (omega (arith, front))
      ∙ get_or-take kept s i 0 (omega arith)

  same_head : head_in (trimmed s) ≡ head_in s
  same_head = same_numbers (trimmed s) s low

  rest : drop kept (trimmed s) ≡ zeros (256 - kept)
  unfolding trimmed
  rest = drop_at (take kept s) (zeros (256 - kept)) kept front

  pub numbers_stay : take 11 (trimmed s) ≡ take 11 s
  unfolding trimmed
  numbers_stay =
      take-append-le 11 (take kept s) (zeros (256 - kept)) (omega (arith, front))
      ∙ take-take 11 kept s (omega arith)

  pub filled_stay : take (6 * (head_in s).held) (places_in (trimmed s)) ≡ take (6 * (head_in s).held) (places_in s)
  unfolding places_in trimmed
  filled_stay =
      let h : ℕ = 6 * (head_in s).held in
      let first : (l : List ℕ) → take h (take 186 (drop 11 l)) ≡ drop 11 (take kept l) =
      λ l. take-take h 186 (drop 11 l) (omega (arith, held)) ∙ sym (drop_take 11 h l) in
      first (trimmed s)
      ∙ ap (λ (l : List ℕ). drop 11 l) (take_at (take kept s) (zeros (256 - kept)) kept front)
      ∙ sym (first s)

  pub unfilled_zero : drop (6 * (head_in s).held) (places_in (trimmed s)) ≡ zeros (186 - 6 * (head_in s).held)
  unfolding places_in
  unfilled_zero =
      let h : ℕ = 6 * (head_in s).held in
      let t : List ℕ = trimmed s in
      ap (λ (n : ℕ). drop h (take n (drop 11 t))) (let e : 186 ≡ h + (186 - h) = omega (arith, held) in e)
      ∙ drop_take h (186 - h) (drop 11 t)
      ∙ ap (λ (l : List ℕ). take (186 - h) l) (drop-drop h 11 t ∙ rest)
      ∙ zeros_front (186 - h) 59 (256 - kept) (omega (arith, held))

  pub tail_zero : tail_in (trimmed s) ≡ zeros 44
  unfolding tail_in
  tail_zero =
      let h : ℕ = 6 * (head_in s).held in
      let t : List ℕ = trimmed s in
      ap (λ (n : ℕ). drop n t) (let e : 212 ≡ kept + (201 - h) = omega (arith, held) in e)
      ∙ sym (drop-drop (201 - h) kept t)
      ∙ ap (λ (l : List ℕ). drop (201 - h) l) rest
      ∙ zeros_rest (201 - h) 44 (256 - kept) (omega (arith, held))

-- the samples held are the same, so what the rule gives for them is too
module _ (s : List ℕ) (size : length s ≡ 256) (e : only_stray s ≡ true) where
  held : (head_in s).held ≤ 31
  held = stray_held s e

  pub trimmed_open : state_in (trimmed s) ≡ 1
  trimmed_open = low s size held 0 (omega arith) ∙ (only_stray_lem s e).one

  pub trimmed_faultless : faulty (head_in (trimmed s)) ≡ false
  trimmed_faultless = ap faulty (same_head s size held) ∙ (only_stray_lem s e).faultless

  pub same_samples : history_of (feed_in (trimmed s)) ≡ history_of (feed_in s)
  unfolding history_of feed_in
  same_samples =
      let n = sound (head_in s) (only_stray_lem s e).faultless in
      rw (same_head s size held)
      (λ i. record {
        nominal = (head_in s).nominal;
        rate = (head_in s).rate;
        first = next_number_of (head_in s) - (head_in s).held;
        samples = held_same (head_in s) n (places_in (trimmed s)) (places_in s)
            (places_length (trimmed s) (trimmed_length s size held)) (places_length s size) (filled_stay s size held) i;
      })

  -- trimmed, and its angles worked out
  pub trimmed_sound : is_damaged (worked_out_in (trimmed s)) ≡ false
  trimmed_sound =
      worked_sound (trimmed s) trimmed_open trimmed_faultless (trimmed_length s size held)
      (rw (same_head s size held, unfilled_zero s size held) (zeros_blank (186 - 6 * (head_in s).held)))
      (rw (tail_zero s size held) (zeros_blank 44))
