-- What a call leaves of a slot: the slot as it was where it is refused, and what it grants where none is due. So it stays whole, and true angles stay
-- true, whatever the other bytes.
use mathlib.Core.Path.{◌≡◌, sym, subst}
use mathlib.Core.List.{List}
use Prim.Native.Nat.{ℕ}
use native.Mathlib.Omega.{arith}
use lib.ListN.{length}
use borrow.Author.Tests.{eqb-true}
use Rattle.feed.specs.Places.{zeros}
use Rattle.feed.specs.Ring.{opened, stored}
use Rattle.feed.proofs.Sound.{sound}
use Rattle.feed.proofs.Stored.{Fits16}
use Rattle.feed.proofs.Meeting.{opened_whole, opened_true, stored_whole, stored_true}
use Rattle.bank.specs.Slot.{state_in, feed_in, free_slot, TrueIn}
use Rattle.bank.proofs.Keeping.{slot_whole, free_whole, is_open_lem, open_kept}
use Rattle.bank.proofs.Angles.{true_feed, slot_true}
use Rattle.acceptance.specs.Runs.{Ask, opens, samples, closes, sample_by}
use Rattle.acceptance.proofs.Refusing.{given, granted, NoneDue, Through, met, passed, through}
use Rattle.acceptance.proofs.OnSlot.{Left, leaving, slot_refusals, slot_grant, on_slot}

-- a free slot keeps no angle
pub free_true : TrueIn free_slot
unfolding free_slot zeros
free_true one = absurd (omega (arith, one))

-- a law of bytes that holds of the slot, and of what is granted where no refusal is due, holds of what the call leaves
pub lasting : (Law : List ℕ → Type 0) (ask : Ask) (s : List ℕ) → Law s → (NoneDue (slot_refusals ask s) → Law (slot_grant ask s).slot) → Law (on_slot ask s).slot
unfolding on_slot
lasting Law ask s here grants = go (through (slot_refusals ask s))
  where
    go : Through (slot_refusals ask s) → Law (on_slot ask s).slot
    go (met n d) = subst (λ (l : Left). Law l.slot) (sym (given (leaving s) (slot_grant ask s) d)) here
    go (passed q) = subst (λ (l : Left). Law l.slot) (sym (granted (leaving s) (slot_grant ask s) (slot_refusals ask s) q)) (grants q)

module _ (s : List ℕ) (w : length s ≡ 256) where
  pub stays_whole : (ask : Ask) → length (on_slot ask s).slot ≡ 256
  stays_whole ask = lasting (λ l. length l ≡ 256) ask s w (granted_whole ask)
    where
      granted_whole : (ask : Ask) → NoneDue (slot_refusals ask s) → length (slot_grant ask s).slot ≡ 256
      granted_whole (opens nominal rate soc) q = slot_whole (opened nominal rate soc) (opened_whole nominal rate soc)
      granted_whole (samples a b c) q =
          let k = open_kept s w q.0 q.1.0 in
          slot_whole (stored (feed_in s) (sample_by a b c)) (stored_whole (feed_in s) (sample_by a b c) k.faultless k.whole)
      granted_whole closes q = free_whole

  pub stays_true : (ask : Ask) → TrueIn s → TrueIn (on_slot ask s).slot
  stays_true ask t = lasting TrueIn ask s t (granted_true ask)
    where
      granted_true : (ask : Ask) → NoneDue (slot_refusals ask s) → TrueIn (slot_grant ask s).slot
      granted_true (opens nominal rate soc) q = slot_true (opened nominal rate soc) (opened_whole nominal rate soc) (opened_true nominal rate soc)
      granted_true (samples a b c) q =
          let k = open_kept s w q.0 q.1.0 in
          let f = true_feed s (eqb-true (state_in s) 1 (is_open_lem s w q.0 q.1.0)) t in
          let fits : Fits16 (sample_by a b c) = record { a_fits = a.range; b_fits = b.range; c_fits = c.range } in
          slot_true (stored (feed_in s) (sample_by a b c)) (stored_whole (feed_in s) (sample_by a b c) k.faultless k.whole)
          (stored_true (feed_in s) (sample_by a b c) (sound (feed_in s).head k.faultless) k.whole fits k.faultless f)
      granted_true closes q = free_true
