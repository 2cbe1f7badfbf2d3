-- A head is not faulty where its facts hold: so of an opening, and so after a push of one that is not. Assumes nothing.
use mathlib.Core.Path.{◌≡◌, refl}
use mathlib.Core.Bool.{true, false}
use Prim.Native.Nat.{ℕ, ◌≤◌, ◌<◌}
use native.Mathlib.Omega.{arith}
use borrow.Author.Tests.{lt-ltb, le-ltb}
use Rattle.std.proofs.lemmas.Bool.Decides.{nat_tests}
use Rattle.feed.specs.declared.Head.{Head}
use Rattle.sampling.specs.Tags.{served_nominal, served_rate, kept_rate}
use Rattle.sampling.specs.Sampling.{sampling_of}
use Rattle.feed.specs.Ring.{unserved, uneven, early, faulty, opened, next_head}
use Rattle.feed.proofs.Sound.{Sound, sound, served}
use Rattle.feed.proofs.Due.{held_after, place_after}

even : (h : Head) → Sound h → uneven h ≡ false
unfolding uneven
even h s = grind (arith, nat_tests, s.even_place, s.even_index)

late : (h : Head) → Sound h → early h ≡ false
unfolding early
late h s = grind (arith, nat_tests, s.late)

pub faultless : (h : Head) → unserved h ≡ false → Sound h → faulty h ≡ false
unfolding faulty
faultless h e s =
    rw (
      e,
      lt-ltb h.index (sampling_of h.nominal) s.index,
      le-ltb 31 h.held s.held,
      le-ltb 30 h.place s.place,
      even h s,
    )
    (late h s)

-- ---- opening

pub opened_sound : (nominal rate soc : ℕ) → served_nominal nominal ≡ true → served_rate nominal (kept_rate nominal rate) ≡ true
    → faulty (opened nominal rate soc).head ≡ false
unfolding opened unserved
opened_sound nominal rate soc a b =
    let v = served nominal (kept_rate nominal rate) b in
    faultless _ (rw (a, b)) (record {
      rated = v;
      index = omega (arith, v.low);
      held = omega arith;
      place = omega arith;
      even_place = λ l. refl;
      even_index = λ l. refl;
      late = λ l z. absurd (omega arith);
    })

-- ---- pushing

is_served : (h : Head) → faulty h ≡ false → unserved h ≡ false
unfolding faulty
is_served h e = grind (arith, nat_tests)

module _ (h : Head) (s : Sound h) where
  index_stays_in : (next_head h).index < sampling_of h.nominal
  unfolding next_head
  index_stays_in = grind (arith, nat_tests, s.index, s.rated.low)

  place_goes_on : (next_head h).held < 31 → (next_head h).place ≡ (next_head h).held
  unfolding next_head
  place_goes_on l = grind (arith, nat_tests, s.held, s.even_place)

  index_goes_on : (next_head h).held < 31 → (next_head h).index ≡ (next_head h).held
  unfolding next_head
  index_goes_on l = grind (arith, nat_tests, s.held, s.even_index, s.rated.low)

  late_goes_on : (next_head h).held ≡ 31 → (next_head h).soc ≡ 0 → 31 ≤ (next_head h).index
  unfolding next_head
  late_goes_on l z = grind (arith, nat_tests, s.held, s.even_index, s.late)

  sound_next : Sound (next_head h)
  unfolding next_head
  sound_next = record {
    rated = s.rated;
    index = index_stays_in;
    held = omega (arith, held_after h s);
    place = place_after h s;
    even_place = place_goes_on;
    even_index = index_goes_on;
    late = late_goes_on;
  }

pub push_sound : (h : Head) → faulty h ≡ false → faulty (next_head h) ≡ false
unfolding next_head unserved
push_sound h e = faultless (next_head h) (is_served h e) (sound_next h (sound h e))
