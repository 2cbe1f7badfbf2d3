-- A slot's numbers go by its first eleven bytes; past them it is its places, its kept part and its tail; a part put over another leaves what stands
-- around it. Assumes nothing.
use mathlib.Core.Path.{◌≡◌, sym, ◌∙◌, ap}
use mathlib.Core.List.{List, ◌++◌}
use Prim.Native.Nat.{ℕ, ◌+◌, ◌<◌}
use native.Mathlib.Omega.{arith}
use lib.Dec.{lit<}
use lib.ListN.{length, get_or, take, drop, length-append, length-drop, take-append-drop, get_or-append}
use lib.Seq.{drop-drop, length-take-le, take_at, drop_at, get_or-take, get_or-drop}
use Rattle.bank.specs.Slot.{head_in, places_in, kept_part, tail_in, with_kept}
use Rattle.bank.proofs.Slots.{drop_take}

-- two slots with the same first eleven bytes have the same numbers
pub same_numbers : (s t : List ℕ) → ((i : ℕ) → i < 11 → get_or s i 0 ≡ get_or t i 0) → head_in s ≡ head_in t
unfolding head_in
same_numbers s t low =
    rw (
      low 1 (lit< tt),
      low 2 (lit< tt),
      low 3 (lit< tt),
      low 4 (lit< tt),
      low 5 (lit< tt),
      low 6 (lit< tt),
      low 7 (lit< tt),
      low 8 (lit< tt),
      low 9 (lit< tt),
      low 10 (lit< tt),
    )

pub places_length : (s : List ℕ) → length s ≡ 256 → length (places_in s) ≡ 186
unfolding places_in
places_length s size = length-take-le 186 (drop 11 s) (simp length-drop (omega arith))

pub kept_length : (s : List ℕ) → length s ≡ 256 → length (kept_part s) ≡ 15
unfolding kept_part
kept_length s size = length-take-le 15 (drop 197 s) (simp length-drop (omega arith))

past_places : (s : List ℕ) → drop 197 s ≡ kept_part s ++ tail_in s
unfolding kept_part tail_in
past_places s = sym (ap (λ (t : List ℕ). take 15 (drop 197 s) ++ t) (sym (drop-drop 15 197 s)) ∙ take-append-drop 15 (drop 197 s))

pub past_head : (s : List ℕ) → drop 11 s ≡ places_in s ++ (kept_part s ++ tail_in s)
unfolding places_in
past_head s =
    sym (ap (λ (t : List ℕ). take 186 (drop 11 s) ++ t) (sym (past_places s) ∙ sym (drop-drop 186 11 s)) ∙ take-append-drop 186 (drop 11 s))

-- three parts: the first, the middle one, and what follows it
module _ (first middle last : List ℕ) (n : ℕ) (size : length first ≡ n) where
  pub part_of_three : (k : ℕ) → length middle ≡ k → take k (drop n (first ++ (middle ++ last))) ≡ middle
  part_of_three k e = ap (λ (t : List ℕ). take k t) (drop_at first (middle ++ last) n size) ∙ take_at middle last k e

  pub last_of_three : (k m : ℕ) → length middle ≡ k → n + k ≡ m → drop m (first ++ (middle ++ last)) ≡ last
  last_of_three k m e f =
      ap (λ (i : ℕ). drop i (first ++ (middle ++ last))) (sym f)
      ∙ sym (drop-drop k n (first ++ (middle ++ last)))
      ∙ ap (λ (t : List ℕ). drop k t) (drop_at first (middle ++ last) n size)
      ∙ drop_at middle last k e

-- a slot with another kept part
module _ (s : List ℕ) (size : length s ≡ 256) (part : List ℕ) (fifteen : length part ≡ 15) where
  front : length (take 197 s) ≡ 197
  front = length-take-le 197 s (omega arith)

  pub with_size : length (with_kept part s) ≡ 256
  with_size = simp length-append (omega (arith, front, fifteen, length-drop 212 s))

  pub with_front : take 197 (with_kept part s) ≡ take 197 s
  with_front = take_at (take 197 s) (part ++ drop 212 s) 197 front

  pub with_part_lem : kept_part (with_kept part s) ≡ part
  unfolding kept_part
  with_part_lem = part_of_three (take 197 s) part (drop 212 s) 197 front 15 fifteen

  pub with_tail : tail_in (with_kept part s) ≡ tail_in s
  unfolding tail_in
  with_tail = last_of_three (take 197 s) part (drop 212 s) 197 front 15 212 fifteen (omega arith)

  -- the bytes before the kept part
  pub with_low : (i : ℕ) → i < 197 → get_or (with_kept part s) i 0 ≡ get_or s i 0
  with_low i h = get_or-append (take 197 s) (part ++ drop 212 s) 0 i (omega (arith, front)) ∙ get_or-take 197 s i 0 h

  pub with_places : places_in (with_kept part s) ≡ places_in s
  unfolding places_in
  with_places = sym (drop_take 11 186 (with_kept part s)) ∙ ap (λ (t : List ℕ). drop 11 t) with_front ∙ drop_take 11 186 s

-- put back, the same kept part makes the same slot
pub same_kept : (s : List ℕ) → with_kept (kept_part s) s ≡ s
unfolding kept_part
same_kept s =
    let e : drop 212 s ≡ drop 15 (drop 197 s) = sym (drop-drop 15 197 s) in
    ap (λ (t : List ℕ). take 197 s ++ (take 15 (drop 197 s) ++ t)) e
    ∙ ap (λ (t : List ℕ). take 197 s ++ t) (take-append-drop 15 (drop 197 s))
    ∙ take-append-drop 197 s

-- byte i of the kept part is byte 197 + i of the slot
pub kept_byte : (s : List ℕ) (i : ℕ) → i < 15 → get_or s (197 + i) 0 ≡ get_or (kept_part s) i 0
unfolding kept_part
kept_byte s i h = sym (get_or-take 15 (drop 197 s) i 0 h ∙ get_or-drop 197 s i 0)
