-- Damage by the slot's state: over 1, free, open; what holds of a slot without stray bytes, and of one that only they damage. Assumes nothing.
use mathlib.Core.Path.{◌≡◌, refl, ◌∙◌, ap}
use mathlib.Core.Bool.{Bool, true, false, cond, not, ◌&&◌, ◌||◌, or-false, and-false}
use mathlib.Core.List.{List}
use Prim.Native.Nat.{ℕ, ◌*◌, ◌<◌}
use native.Mathlib.Omega.{arith}
use lib.Dec.{ltb}
use lib.ListN.{drop}
use borrow.Author.Tests.{eqb-true, ne_eqb, lt-ltb, ltb-true, not-true, not-false}
use Rattle.feed.specs.declared.Head.{Head}
use Rattle.sampling.specs.Sampling.{sampling_of}
use Rattle.feed.specs.Ring.{unserved, uneven, early, faulty}
use Rattle.feed.proofs.Sound.{neither}
use Rattle.std.specs.Prelude.{Some, None}
use Rattle.std.specs.Option.{is_some}
use Rattle.std.specs.Bool.{then_some}
use Rattle.bank.specs.declared.damage.Damage.TheVariants.{Stray, Other}
use Rattle.bank.specs.Slot.{state_in, head_in, places_in, tail_in}
use Rattle.bank.specs.Damage.{blank, is_open, flag_over, stray, is_damaged, only_stray, damage_of}
use Rattle.bank.proofs.Blank.{both_true}

pub or_so : {t : Bool} (u : Bool) → t ≡ true → (t || u) ≡ true
or_so u e = ap (λ (v : Bool). v || u) e

pub or_not : {t : Bool} (u : Bool) → t ≡ false → (t || u) ≡ u
or_not u e = ap (λ (v : Bool). v || u) e

or_either : (t : Bool) {u : Bool} → u ≡ true → (t || u) ≡ true
or_either true e = refl
or_either false e = e

module _ (s : List ℕ) where
  pub over_damaged : 1 < state_in s → is_damaged s ≡ true
  unfolding is_damaged
  over_damaged h = rw (lt-ltb 1 (state_in s) h)

  pub free_damaged : state_in s ≡ 0 → is_damaged s ≡ not (blank s)
  unfolding is_damaged
  free_damaged e = rw e (or-false (not (blank s)))

  pub open_damaged : state_in s ≡ 1 → is_damaged s ≡ (faulty (head_in s) || stray s)
  unfolding is_damaged
  open_damaged e = rw e

-- of a slot without stray bytes: its unfilled places and its tail are blank
pub record Clean (s : List ℕ) : Type 0 where
  pub unfilled : blank (drop (6 * (head_in s).held) (places_in s)) ≡ true
  pub tail : blank (tail_in s) ≡ true

pub no_stray : (s : List ℕ) → stray s ≡ false → Clean s
unfolding stray
no_stray s e =
    let unfilled = blank (drop (6 * (head_in s).held) (places_in s)) in
    let bytes = (neither (not unfilled || not (blank (tail_in s))) (flag_over s) e).0 in
    let both = neither (not unfilled) (not (blank (tail_in s))) bytes in
    record { unfilled = not-false unfilled both.0; tail = not-false (blank (tail_in s)) both.1 }

-- what holds of an open slot that only stray bytes damage
pub record StrayOnly (s : List ℕ) : Type 0 where
  pub one : state_in s ≡ 1
  pub some : stray s ≡ true
  pub faultless : faulty (head_in s) ≡ false

pub only_stray_lem : (s : List ℕ) → only_stray s ≡ true → StrayOnly s
unfolding only_stray
only_stray_lem s e =
    let h = both_true (is_open s && stray s) (not (faulty (head_in s))) e in
    let o = both_true (is_open s) (stray s) h.0 in
    record { one = eqb-true (state_in s) 1 o.0; some = o.1; faultless = not-true _ h.1 }

pub stray_damaged : (s : List ℕ) → only_stray s ≡ true → is_damaged s ≡ true
stray_damaged s e = let o = only_stray_lem s e in open_damaged s o.one ∙ or_either (faulty (head_in s)) o.some

-- how a slot is damaged, by its state
module _ (s : List ℕ) where
  pub blank_damage : state_in s ≡ 0 → blank s ≡ true → damage_of s ≡ None
  unfolding damage_of
  blank_damage e f = rw (free_damaged s e, f)

  pub unclean_damage : state_in s ≡ 0 → blank s ≡ false → damage_of s ≡ Some Other
  unfolding damage_of only_stray
  unclean_damage e f = rw (free_damaged s e, f, e)

  pub faulty_damage : state_in s ≡ 1 → faulty (head_in s) ≡ true → damage_of s ≡ Some Other
  unfolding damage_of is_damaged only_stray
  faulty_damage one e = rw (one, e, and-false)

  pub open_damage : state_in s ≡ 1 → faulty (head_in s) ≡ false → damage_of s ≡ then_some (stray s) Stray
  unfolding damage_of is_damaged only_stray
  open_damage one e = rw (one, e) (go (stray s))
    where
      go : (t : Bool) → cond t (Some (cond (t && true) Stray Other)) None ≡ then_some t Stray
      go true = refl
      go false = refl

  pub other_damage : (state_in s ≡ 0 → ⊥) → (state_in s ≡ 1 → ⊥) → damage_of s ≡ Some Other
  unfolding damage_of only_stray
  other_damage unfree shut =
      let over : 1 < state_in s = omega arith in
      rw (over_damaged s over, ne_eqb (state_in s) 1 shut)

  -- by the state, and then by the bytes, the numbers and the stray bytes
  pub ruleset damage_by_state = (blank_damage, unclean_damage, faulty_damage, open_damage, other_damage)

  pub some_damage : is_some (damage_of s) ≡ is_damaged s
  unfolding damage_of
  some_damage = go (is_damaged s)
    where
      go : (t : Bool) → is_some (cond t (Some (cond (only_stray s) Stray Other)) None) ≡ t
      go true = refl
      go false = refl

-- place over 30
place_over : (h : Head) → 30 < h.place → faulty h ≡ true
unfolding faulty
place_over h over =
    let others = unserved h || not (ltb h.index (sampling_of h.nominal)) || ltb 31 h.held in
    or_so (early h) (or_so (uneven h) (or_either others (lt-ltb 30 h.place over)))

-- stray bytes or a place over 30: an open slot is then damaged
module _ (s : List ℕ) where
  pub stray_or_over : state_in s ≡ 1 → (stray s || ltb 30 (head_in s).place) ≡ true → is_damaged s ≡ true
  stray_or_over one = go (stray s) refl
    where
      go : (t : Bool) → stray s ≡ t → (t || ltb 30 (head_in s).place) ≡ true → is_damaged s ≡ true
      go true p e = open_damaged s one ∙ or_either (faulty (head_in s)) p
      go false p e = open_damaged s one ∙ or_so _ (place_over (head_in s) (ltb-true 30 (head_in s).place e))
