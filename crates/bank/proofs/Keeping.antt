-- A feed put into a slot is read from it again, and the slot is not damaged where the feed is kept well; an undamaged open slot keeps such a feed.
use mathlib.Core.Path.{◌≡◌, refl, sym, ap, ◌∙◌}
use mathlib.Core.Bool.{Bool, true, false, cond, not, ◌&&◌, ◌||◌}
use mathlib.Core.List.{List, ◌++◌, append_assoc}
use Prim.Native.Nat.{ℕ, ◌+◌, ◌*◌, ◌/◌, ◌%◌, ◌<◌}
use native.Mathlib.Omega.{arith}
use lib.Dec.{ltb, eqb, lit<}
use lib.ListN.{length, get_or, take, drop, length-append}
use borrow.Author.Tests.{eqb-false, eq-eqb, ltb-false}
use Rattle.model.specs.declared.angle.Phase.{Phase}
use Rattle.model.specs.declared.report.Phases.{Phases}
use Rattle.feed.specs.declared.Head.{Head}
use Rattle.feed.specs.declared.Feed.{Feed}
use Rattle.bits.specs.Bits.{be32}
use Rattle.model.specs.Angle.{angle_of}
use Rattle.bits.proofs.Bytes.{word_back, long_back}
use Rattle.feed.specs.Places.{zeros}
use Rattle.feed.specs.Ring.{faulty}
use Rattle.feed.proofs.Sound.{neither}
use Rattle.bank.specs.Slot.{state_in, head_in, head_bytes, places_in, kept_part, kept_in, flag_of, kept_bytes, tail_in, tail_of, feed_in, slot_of, free_slot}
use Rattle.bank.specs.Damage.{blank, is_free, is_open, flag_over, stray, is_damaged}
use Rattle.bank.proofs.Blank.{zeros_length, zeros_blank}
use Rattle.bank.proofs.Parts.{places_length, part_of_three, last_of_three, kept_byte}
use Rattle.bank.proofs.States.{open_damaged, Clean, no_stray}

-- what a slot that is open and not damaged keeps: numbers that are not faulty, whole places, and zeros in those not filled
pub record Kept (f : Feed) : Type 0 where
  pub faultless : faulty f.head ≡ false
  pub whole : length f.places ≡ 186
  pub unfilled : blank (drop (6 * f.head.held) f.places) ≡ true

-- ---- from a feed to its slot and back

pub head_length : (h : Head) → length (head_bytes h) ≡ 11
unfolding head_bytes
head_length h = refl

pub bytes_length : (k : Phases) → length (kept_bytes k) ≡ 15
unfolding kept_bytes
bytes_length k = refl

tail_length : (f : Feed) → length (tail_of f) ≡ 44
unfolding tail_of
tail_length f = zeros_length 44

head_back : (h : Head) (rest : List ℕ) → head_in (head_bytes h ++ rest) ≡ h
unfolding head_in head_bytes
head_back h rest =
    λ d. record { nominal = h.nominal; rate = h.rate; held = h.held; soc = long_back h.soc d; index = word_back h.index d; place = h.place }

head_in_lem : (f : Feed) → head_in (slot_of f) ≡ f.head
unfolding slot_of
head_in_lem f = head_back f.head (f.places ++ (kept_bytes f.kept ++ tail_of f))

-- a phase of its angle's four bytes and its flag; it is read again from its own
abbrev spelt : (a b c d flag : ℕ) → Phase
spelt a b c d flag = record { angle = angle_of (be32 a b c d); none = eqb flag 1 }

phase_back_lem : (p : Phase) → spelt (p.angle.parts / 16777216) (p.angle.parts / 65536 % 256) (p.angle.parts / 256 % 256) (p.angle.parts % 256) (flag_of p) ≡ p
phase_back_lem p = λ d. record { angle = record { parts = long_back p.angle.parts d }; none = flag_back p.none d }
  where
    flag_back : (b : Bool) → eqb (cond b 1 0) 1 ≡ b
    flag_back true = refl
    flag_back false = refl

-- where the kept part is the bytes of these phases, they are what is kept, and no flag is over 1
module _ (s : List ℕ) (k : Phases) (e : kept_part s ≡ kept_bytes k) where
  at : (i : ℕ) → i < 15 → get_or s (197 + i) 0 ≡ get_or (kept_bytes k) i 0
  at i h = kept_byte s i h ∙ ap (λ (t : List ℕ). get_or t i 0) e

  pub kept_of : kept_in s ≡ k
  unfolding kept_in kept_bytes
  kept_of = λ d. record {
    p = ((λ i. spelt (at 0 (lit< tt) i) (at 1 (lit< tt) i) (at 2 (lit< tt) i) (at 3 (lit< tt) i) (at 12 (lit< tt) i)) ∙ phase_back_lem k.p) d;
    q = ((λ i. spelt (at 4 (lit< tt) i) (at 5 (lit< tt) i) (at 6 (lit< tt) i) (at 7 (lit< tt) i) (at 13 (lit< tt) i)) ∙ phase_back_lem k.q) d;
    r = ((λ i. spelt (at 8 (lit< tt) i) (at 9 (lit< tt) i) (at 10 (lit< tt) i) (at 11 (lit< tt) i) (at 14 (lit< tt) i)) ∙ phase_back_lem k.r) d;
  }

  pub flags_within : flag_over s ≡ false
  unfolding flag_over kept_bytes
  flags_within = rw (at 12 (lit< tt), at 13 (lit< tt), at 14 (lit< tt), flag_within k.p.none, flag_within k.q.none, flag_within k.r.none)
    where
      flag_within : (b : Bool) → ltb 1 (cond b 1 0) ≡ false
      flag_within true = refl
      flag_within false = refl

module _ (f : Feed) (whole : length f.places ≡ 186) where
  places_back : places_in (slot_of f) ≡ f.places
  unfolding places_in slot_of
  places_back = part_of_three (head_bytes f.head) f.places (kept_bytes f.kept ++ tail_of f) 11 (head_length f.head) 186 whole

  -- the numbers and the places stand before the kept part
  front : length (head_bytes f.head ++ f.places) ≡ 197
  front = simp (length-append, head_length) (omega arith)

  in_three : slot_of f ≡ (head_bytes f.head ++ f.places) ++ (kept_bytes f.kept ++ tail_of f)
  unfolding slot_of
  in_three = sym (append_assoc (head_bytes f.head) f.places (kept_bytes f.kept ++ tail_of f))

  pub part_back : kept_part (slot_of f) ≡ kept_bytes f.kept
  unfolding kept_part
  part_back =
      ap (λ (t : List ℕ). take 15 (drop 197 t)) in_three
      ∙ part_of_three (head_bytes f.head ++ f.places) (kept_bytes f.kept) (tail_of f) 197 front 15 (bytes_length f.kept)

  tail_back : tail_in (slot_of f) ≡ tail_of f
  unfolding tail_in
  tail_back =
      ap (λ (t : List ℕ). drop 212 t) in_three
      ∙ last_of_three (head_bytes f.head ++ f.places) (kept_bytes f.kept) (tail_of f) 197 front 15 212 (bytes_length f.kept) (omega arith)

  pub feed_back : feed_in (slot_of f) ≡ f
  unfolding feed_in
  feed_back = λ d. record { head = head_in_lem f d; places = places_back d; kept = kept_of (slot_of f) f.kept part_back d }

  pub slot_whole : length (slot_of f) ≡ 256
  unfolding slot_of
  slot_whole = simp (length-append, head_length, bytes_length, tail_length) (omega arith)

pub slot_open : (f : Feed) → state_in (slot_of f) ≡ 1
unfolding slot_of head_bytes
slot_open f = refl

tail_blank : (f : Feed) → blank (tail_of f) ≡ true
unfolding tail_of
tail_blank f = zeros_blank 44

pub kept_undamaged : (f : Feed) → Kept f → is_damaged (slot_of f) ≡ false
unfolding stray
kept_undamaged f k =
    open_damaged (slot_of f) (slot_open f)
    ∙ rw (head_in_lem f, places_back f k.whole, tail_back f k.whole, k.faultless, k.unfilled, tail_blank f, flags_within (slot_of f) f.kept (part_back f k.whole))

pub free_undamaged : is_damaged free_slot ≡ false
unfolding is_damaged free_slot zeros
free_undamaged = rw (zeros_blank 256)

pub free_not_open : is_open free_slot ≡ false
unfolding free_slot zeros
free_not_open = refl

pub free_is_free : is_free free_slot ≡ true
unfolding free_slot zeros
free_is_free = refl

pub free_whole : length free_slot ≡ 256
unfolding free_slot
free_whole = zeros_length 256

-- ---- from a slot to its feed

module _ (s : List ℕ) (whole : length s ≡ 256) (undamaged : is_damaged s ≡ false) (not_Free : is_free s ≡ false) where
  is_one : state_in s ≡ 1
  unfolding is_damaged
  is_one =
      let n = neither (ltb 1 (state_in s) || (is_free s && not (blank s))) (is_open s && (faulty (head_in s) || stray s)) undamaged in
      let m = neither (ltb 1 (state_in s)) (is_free s && not (blank s)) n.0 in
      omega (arith, ltb-false 1 (state_in s) m.0, eqb-false (state_in s) 0 not_Free)

  pub is_open_lem : is_open s ≡ true
  is_open_lem = eq-eqb (state_in s) 1 is_one

  neither_fault : (faulty (head_in s) ≡ false) × (stray s ≡ false)
  neither_fault = neither (faulty (head_in s)) (stray s) (sym (open_damaged s is_one) ∙ undamaged)

  pub open_clean : Clean s
  open_clean = no_stray s neither_fault.1

  pub open_kept : Kept (feed_in s)
  unfolding feed_in
  open_kept = record { faultless = neither_fault.0; whole = places_length s whole; unfilled = open_clean.unfilled }
