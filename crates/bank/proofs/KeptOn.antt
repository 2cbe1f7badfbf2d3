-- Opening and pushing keep a feed well: its numbers are not faulty, its places are whole, and those not filled stay zero.
use mathlib.Core.Path.{◌≡◌, refl, sym, ◌∙◌}
use mathlib.Core.Bool.{Bool, true, false}
use mathlib.Core.List.{List, [], ◌∷◌}
use Prim.Native.Nat.{ℕ, zero, suc, ◌+◌, ◌*◌, ◌≤◌, ◌<◌, min}
use native.Mathlib.Omega.{arith}
use lib.Dec.{eqb, ltb}
use lib.ListN.{length, drop, drop_of_length-le}
use lib.Seq.{drop-drop}
use borrow.Author.Tests.{ltb-true, ltb-false}
use Rattle.model.specs.declared.filter.Sample.{Sample}
use Rattle.feed.specs.declared.Feed.{Feed}
use Rattle.sampling.specs.Tags.{served_nominal, served_rate, kept_rate}
use Rattle.feed.specs.Ring.{opened, stored}
use Rattle.feed.proofs.Sound.{Sound, sound}
use Rattle.feed.proofs.Due.{held_after}
use Rattle.feed.proofs.Faultless.{opened_sound}
use Rattle.feed.proofs.Stored.{with_past}
use Rattle.feed.proofs.Meeting.{stored_whole, stored_sound, opened_whole}
use Rattle.bank.specs.Damage.{blank}
use Rattle.bank.proofs.Blank.{zeros_blank, both_true}
use Rattle.bank.proofs.Keeping.{Kept}

blank_drop : (n : ℕ) (s : List ℕ) → blank s ≡ true → blank (drop n s) ≡ true
unfolding blank
blank_drop zero s e = e
blank_drop (suc n) [] e = refl
blank_drop (suc n) (b ∷ s) e = blank_drop n s (both_true (eqb b 0) (blank s) e).1

blank_past : (n : ℕ) (s : List ℕ) → length s ≤ n → blank (drop n s) ≡ true
unfolding blank
blank_past n s h = rw (drop_of_length-le s {i = n} h)

none_filled : (nominal rate soc : ℕ) → blank (drop (6 * (opened nominal rate soc).head.held) (opened nominal rate soc).places) ≡ true
unfolding opened
none_filled nominal rate soc = zeros_blank 186

pub opened_kept : (nominal rate soc : ℕ) → served_nominal nominal ≡ true → served_rate nominal (kept_rate nominal rate) ≡ true → Kept (opened nominal rate soc)
opened_kept nominal rate soc a b = record { faultless = opened_sound nominal rate soc a b; whole = opened_whole nominal rate soc; unfilled = none_filled nominal rate soc }

module _ (f : Feed) (s : Sample) (k : Kept f) where
  n : Sound f.head
  n = sound f.head k.faultless

  held_is : (stored f s).head.held ≡ suc (min 30 f.head.held)
  unfolding stored
  held_is = held_after f.head n

  past_is : f.head.place ≡ f.head.held → drop (6 * f.head.held + 6) (stored f s).places ≡ drop 6 (drop (6 * f.head.held) f.places)
  unfolding stored
  past_is e =
      rw (← e) (with_past f.places f.head.place s (omega (arith, n.place, k.whole)) ∙ sym (drop-drop 6 (6 * f.head.place) f.places))

  unfilled_on : blank (drop (6 * (stored f s).head.held) (stored f s).places) ≡ true
  unfilled_on = go (ltb f.head.held 31) refl
    where
      go : (b : Bool) → ltb f.head.held 31 ≡ b → blank (drop (6 * (stored f s).head.held) (stored f s).places) ≡ true
      go true e =
          let l : f.head.held < 31 = ltb-true f.head.held 31 e in
          let h : 6 * (stored f s).head.held ≡ 6 * f.head.held + 6 = omega (arith, held_is) in
          rw (h, past_is (n.even_place l)) (blank_drop 6 (drop (6 * f.head.held) f.places) k.unfilled)
      go false e =
          let h : 186 ≤ 6 * (stored f s).head.held = omega (arith, held_is, ltb-false f.head.held 31 e) in
          let l : length (stored f s).places ≡ 186 = stored_whole f s k.faultless k.whole in
          blank_past (6 * (stored f s).head.held) (stored f s).places (omega arith)

  pub stored_kept : Kept (stored f s)
  stored_kept = record { faultless = stored_sound f s k.faultless; whole = stored_whole f s k.faultless k.whole; unfilled = unfilled_on }
