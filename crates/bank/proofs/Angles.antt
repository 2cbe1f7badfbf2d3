-- True angles of a slot: working them out makes them so and changes nothing else, and a slot of which they are true stays. What a slot keeps is then
-- what the rule gives. Assumes nothing.
use mathlib.Core.Path.{◌≡◌, sym, ap, ◌∙◌}
use mathlib.Core.Bool.{true, false}
use mathlib.Core.List.{List}
use Prim.Native.Nat.{ℕ, ◌*◌, ◌<◌}
use native.Mathlib.Omega.{arith}
use lib.Dec.{lit<}
use lib.ListN.{length, get_or, take, drop}
use lib.Seq.{drop-drop}
use borrow.Author.Tests.{eq-eqb, ne_eqb, eqb-true}
use Rattle.feed.specs.declared.Feed.{Feed}
use Rattle.feed.specs.History.{History}
use Rattle.feed.specs.Kept.{phases_of}
use Rattle.feed.specs.Ring.{faulty, history_of, worked_out, True}
use Rattle.bank.specs.Slot.{state_in, head_in, places_in, kept_part, kept_bytes, tail_in, feed_in, slot_of, with_kept, worked_out_in, TrueIn}
use Rattle.bank.specs.Damage.{blank, is_free, stray, is_damaged}
use Rattle.bank.specs.Inside.{with_part}
use Rattle.bank.proofs.Parts.{with_size, with_front, with_part_lem, with_tail, with_low, with_places, same_kept, same_numbers}
use Rattle.bank.proofs.Keeping.{bytes_length, kept_of, flags_within, part_back, feed_back, is_open_lem, open_clean, open_kept}
use Rattle.bank.proofs.States.{open_damaged}

-- ---- from a slot to its feed and back

-- true of a slot, and so of the feed that it keeps
pub true_feed : (s : List ℕ) → state_in s ≡ 1 → TrueIn s → True (feed_in s)
unfolding feed_in
true_feed s one t = kept_of s (phases_of (history_of (feed_in s))) (t one)

-- true of a feed, and so of its slot
pub slot_true : (f : Feed) → length f.places ≡ 186 → True f → TrueIn (slot_of f)
slot_true f whole t one =
    part_back f whole ∙ ap kept_bytes t ∙ ap (λ (g : Feed). kept_bytes (phases_of (history_of g))) (sym (feed_back f whole))

-- ---- worked out

-- what the code puts
pub worked_open : (s : List ℕ) → state_in s ≡ 1 → with_part 197 15 (kept_bytes (worked_out (feed_in s)).kept) s ≡ worked_out_in s
unfolding worked_out_in
worked_open s one =
    let rest : drop 15 (drop 197 s) ≡ drop 212 s = drop-drop 15 197 s in
    rw (eq-eqb (state_in s) 1 one, rest)

-- a slot that is not open stays
pub shut_stays : (s : List ℕ) → (state_in s ≡ 1 → ⊥) → worked_out_in s ≡ s
unfolding worked_out_in
shut_stays s shut = rw (ne_eqb (state_in s) 1 shut)

pub ruleset worked = (worked_open, shut_stays)

module _ (s : List ℕ) (one : state_in s ≡ 1) (faultless : faulty (head_in s) ≡ false) where
  -- the phases that the rule gives, as bytes
  abbrev pub given : List ℕ
  given = kept_bytes (phases_of (history_of (feed_in s)))

  worked_is : worked_out_in s ≡ with_kept given s
  unfolding worked_out_in worked_out feed_in
  worked_is = rw (eq-eqb (state_in s) 1 one, faultless)

  -- where they are true, nothing changes; where nothing changes, they are true
  pub true_stays : TrueIn s → worked_out_in s ≡ s
  true_stays t = worked_is ∙ ap (λ (part : List ℕ). with_kept part s) (sym (t one)) ∙ same_kept s

  module _ (size : length s ≡ 256) where
    fifteen : length given ≡ 15
    fifteen = bytes_length (phases_of (history_of (feed_in s)))

    pub worked_size : length (worked_out_in s) ≡ 256
    worked_size = ap length worked_is ∙ with_size s size given fifteen

    worked_low : (i : ℕ) → i < 197 → get_or (worked_out_in s) i 0 ≡ get_or s i 0
    worked_low i h = ap (λ (t : List ℕ). get_or t i 0) worked_is ∙ with_low s size given fifteen i h

    worked_state : state_in (worked_out_in s) ≡ 1
    worked_state = worked_low 0 (lit< tt) ∙ one

    worked_head : head_in (worked_out_in s) ≡ head_in s
    worked_head = same_numbers (worked_out_in s) s (λ i h. worked_low i (omega arith))

    pub worked_places : places_in (worked_out_in s) ≡ places_in s
    worked_places = ap places_in worked_is ∙ with_places s size given fifteen

    pub worked_front : take 197 (worked_out_in s) ≡ take 197 s
    worked_front = ap (λ (t : List ℕ). take 197 t) worked_is ∙ with_front s size given fifteen

    pub worked_part : kept_part (worked_out_in s) ≡ given
    worked_part = ap kept_part worked_is ∙ with_part_lem s size given fifteen

    pub worked_tail : tail_in (worked_out_in s) ≡ tail_in s
    worked_tail = ap tail_in worked_is ∙ with_tail s size given fifteen

    -- the samples held are the same
    same_history : history_of (feed_in (worked_out_in s)) ≡ history_of (feed_in s)
    unfolding history_of feed_in
    same_history = rw (worked_head, worked_places)

    pub worked_true : TrueIn (worked_out_in s)
    worked_true e = worked_part ∙ ap (λ (h : History). kept_bytes (phases_of h)) (sym same_history)

    -- no flag is over 1, so no damage is left but what stands elsewhere
    pub worked_sound : blank (drop (6 * (head_in s).held) (places_in s)) ≡ true → blank (tail_in s) ≡ true → is_damaged (worked_out_in s) ≡ false
    unfolding stray
    worked_sound unfilled rest =
        open_damaged (worked_out_in s) worked_state
        ∙ rw (worked_head, worked_places, worked_tail, faultless, unfilled, rest, flags_within (worked_out_in s) (phases_of (history_of (feed_in s))) worked_part)

    -- where nothing changes, they are true
    pub stays_true : worked_out_in s ≡ s → TrueIn s
    stays_true e one = sym (ap kept_part e) ∙ worked_part

-- an open slot that is not damaged is not damaged with its angles worked out
pub worked_undamaged : (s : List ℕ) → length s ≡ 256 → is_damaged s ≡ false → is_free s ≡ false → is_damaged (worked_out_in s) ≡ false
unfolding feed_in
worked_undamaged s size e f =
    let clean = open_clean s size e f in
    worked_sound s (eqb-true (state_in s) 1 (is_open_lem s size e f)) (open_kept s size e f).faultless size clean.unfilled clean.tail
