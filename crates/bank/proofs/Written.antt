-- What a push writes over an open slot, the new numbers, the sample's six bytes and the kept phases, makes the slot of the stored feed. Assumes nothing.
use mathlib.Core.Path.{◌≡◌, sym, ◌∙◌, ap}
use mathlib.Core.List.{List, ◌++◌, append_assoc}
use Prim.Native.Nat.{ℕ, ◌+◌, ◌-◌, ◌*◌, ◌≤◌}
use native.Mathlib.Nat.{add-sub_cancel_left}
use native.Mathlib.Omega.{arith}
use lib.ListN.{length, drop, length-append, length-drop}
use lib.Seq.{take_at, drop_at, take-append-le, drop-append-le, take-append-add, drop-append-add, drop-drop}
use borrow.Rule.Slice.PartMut.{put_mid}
use Rattle.model.specs.declared.filter.Sample.{Sample}
use Rattle.feed.specs.Places.{zeros, place_of, with_place}
use Rattle.feed.specs.Ring.{stored}
use Rattle.feed.proofs.Stored.{with_length}
use Rattle.feed.specs.declared.Feed.{Feed}
use Rattle.bank.specs.Slot.{head_in, head_bytes, places_in, kept_part, kept_bytes, tail_in, tail_of, feed_in, slot_of}
use Rattle.bank.specs.Inside.{with_part}
use Rattle.bank.proofs.Keeping.{head_length}
use Rattle.bank.proofs.Parts.{places_length, kept_length, past_head}

-- some bytes lent from one on: what comes back stands in their place
pub part_put : (from k : ℕ) (s part : List ℕ) → put_mid from (from + k - from) s part ≡ with_part from k part s
part_put from k s part = rw (add-sub_cancel_left from k)

-- a part put past the first bytes leaves them as they are, and so does one put before the last bytes
part_past : (first s part : List ℕ) (n k : ℕ) → with_part (length first + n) k part (first ++ s) ≡ first ++ with_part n k part s
part_past first s part n k = rw (take-append-add first s n, drop-append-add first s n) (append_assoc first _ _)

part_before : (s last part : List ℕ) (n k : ℕ) → n + k ≤ length s → with_part n k part (s ++ last) ≡ with_part n k part s ++ last
part_before s last part n k h =
    rw (
      take-append-le n s last (omega arith),
      drop-append-le n s last (omega arith),
      drop-append-le k (drop n s) last (omega (arith, length-drop n s)),
    )
    (simp append_assoc)

-- a part put over one that is as long
part_over : (first old last part : List ℕ) (n k : ℕ) → length first ≡ n → length old ≡ k → with_part n k part (first ++ (old ++ last)) ≡ first ++ (part ++ last)
part_over first old last part n k size same =
    rw (take_at first (old ++ last) n size, drop_at first (old ++ last) n size, drop_at old last k same)

module _ (s : List ℕ) (size : length s ≡ 256) (v : Sample) (within : (head_in s).place ≤ 30) where
  abbrev next : Feed
  next = stored (feed_in s) v

  abbrev at : ℕ
  at = 6 * (head_in s).place

  places_put : with_part at 6 (place_of v) (places_in s) ≡ next.places
  unfolding feed_in stored with_place
  places_put = rw (drop-drop 6 at (places_in s))

  places_whole : length next.places ≡ 186
  unfolding feed_in stored
  places_whole = with_length (places_in s) (head_in s).place v (omega (arith, places_length s size)) ∙ places_length s size

  -- the numbers and the sample
  two_put : with_part (11 + at) 6 (place_of v) (head_bytes next.head ++ drop 11 s) ≡ head_bytes next.head ++ (next.places ++ (kept_part s ++ tail_in s))
  two_put =
      let h = next.head in
      ap (λ (n : ℕ). with_part (n + at) 6 (place_of v) (head_bytes h ++ drop 11 s)) (sym (head_length h))
      ∙ part_past (head_bytes h) (drop 11 s) (place_of v) at 6
      ∙ rw (past_head s, part_before (places_in s) (kept_part s ++ tail_in s) (place_of v) at 6 (omega (arith, places_length s size)), places_put)

  -- and the kept phases
  pub stored_slot : tail_in s ≡ zeros 44
      → with_part 197 15 (kept_bytes next.kept) (with_part (11 + at) 6 (place_of v) (head_bytes next.head ++ drop 11 s)) ≡ slot_of next
  unfolding tail_of slot_of
  stored_slot tail =
      let h = head_bytes next.head in
      let front : length (h ++ next.places) ≡ 197 = simp (length-append, head_length) (omega (arith, places_whole)) in
      ap (with_part 197 15 (kept_bytes next.kept)) (two_put ∙ sym (append_assoc h next.places (kept_part s ++ tail_in s)))
      ∙ part_over (h ++ next.places) (kept_part s) (tail_in s) (kept_bytes next.kept) 197 15 front (kept_length s size)
      ∙ rw tail (append_assoc h next.places (kept_bytes next.kept ++ zeros 44))
