-- The damage of a slot, by its kinds: none, only stray bytes, other. Assumes nothing.
use Rattle.std.proofs.Common.{◌≡◌, ℕ, ◌≤◌, Bool, true, false, cond, List, get_or, Option, Some, None, refl, sym, ap, ◌∙◌, arith}
use Rattle.feed.proofs.Sound.{sound}
use Rattle.bank.specs.declared.damage.Damage.{Damage}
use Rattle.bank.specs.declared.damage.Damage.TheVariants.{Stray, Other}
use Rattle.bank.specs.Slot.{head_in}
use Rattle.bank.specs.Damage.{is_damaged, only_stray, damage_of}
use Rattle.bank.proofs.States.{only_stray_lem, stray_damaged}

pub is_none : (s : List ℕ) → is_damaged s ≡ false → damage_of s ≡ None
unfolding damage_of
is_none s e = ap (λ (t : Bool). cond t (Some (cond (only_stray s) Stray Other)) None) e

pub is_other : (s : List ℕ) → is_damaged s ≡ true → only_stray s ≡ false → damage_of s ≡ Some Other
unfolding damage_of
is_other s e d = λ i. cond (e i) (Some (cond (d i) Stray Other)) None

pub is_stray : (s : List ℕ) → only_stray s ≡ true → damage_of s ≡ Some Stray
unfolding damage_of
is_stray s d = λ i. cond (stray_damaged s d i) (Some (cond (d i) Stray Other)) None

-- the kind is stray only where stray bytes alone damage a slot
pub stray_only : (s : List ℕ) → damage_of s ≡ Some Stray → only_stray s ≡ true
unfolding damage_of
stray_only s = go (is_damaged s) (only_stray s)
  where
    go : (t u : Bool) → cond t (Some (cond u Stray Other)) None ≡ Some Stray → u ≡ true
    go true true e = refl
    go true false e = absurd (let z : ◌≡◌ {A = ℕ} 0 1 = cc in omega arith)
    go false u e = absurd (let z : ◌≡◌ {A = ℕ} 0 1 = cc in omega arith)

pub stray_held : (s : List ℕ) → only_stray s ≡ true → (head_in s).held ≤ 31
stray_held s e = (sound (head_in s) (only_stray_lem s e).faultless).held

-- so where a slot is damaged by stray bytes alone, its places are filled to within its room
pub held_if_stray : (s : List ℕ) (damage : Option Damage) → damage ≡ damage_of s → damage ≡ Some Stray → get_or s 3 0 ≤ 31
unfolding head_in
held_if_stray s damage e d = stray_held s (stray_only s (sym e ∙ d))
