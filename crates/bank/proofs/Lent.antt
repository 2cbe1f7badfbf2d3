-- A call on a slot by itself, told of the bank: 1 and 2 are passed, and a slot left as it was leaves the bank as it was. Assumes nothing.
use mathlib.Core.Path.{◌≡◌, sym, ◌∙◌, ap}
use mathlib.Core.Bool.{Bool, true, false, not, cond}
use mathlib.Core.List.{List}
use Prim.Native.Nat.{ℕ}
use lib.Dec.{eqb, ltb}
use lib.ListN.{length}
use borrow.Author.Tests.{eq-eqb, le-ltb}
use Rattle.feed.specs.Answers.{Said}
use Rattle.bank.specs.Slot.{slot_at, with_slot}
use Rattle.bank.specs.Calls.{Outcome}
use Rattle.bank.specs.Inside.{StandsIn}
use Rattle.bank.proofs.Slots.{put_back, slot_length}

-- a refusal that is not due is passed, and one that is due is given
pub pass : {A : Type 0} {t : Bool} (x y : A) → t ≡ false → cond t x y ≡ y
pass x y e = ap (λ (u : Bool). cond u x y) e

pub stop : {A : Type 0} {t : Bool} (x y : A) → t ≡ true → cond t x y ≡ x
stop x y e = ap (λ (u : Bool). cond u x y) e

module _ {bank : List ℕ} {slot : ℕ} {s : List ℕ} (l : StandsIn bank slot s) where
  -- 1 and 2 are passed
  pub inside : {A : Type 0} (x y z : A) → cond (not (eqb (length bank) 4096)) x (cond (ltb 15 slot) y z) ≡ z
  inside x y z = pass x _ (ap not (eq-eqb _ _ l.whole)) ∙ pass y z (le-ltb _ _ l.named)

  -- what is seen of the bytes is seen of the slot
  pub seen : {A : Type 0} {v : A} (f : List ℕ → A) → f s ≡ v → f (slot_at bank slot) ≡ v
  seen f e = ap f l.there ∙ e

  pub size : length s ≡ 256
  size = ap length (sym l.there) ∙ slot_length bank slot l.whole l.named

  unmoved : with_slot bank slot s ≡ bank
  unmoved = ap (λ (t : List ℕ). with_slot bank slot t) (sym l.there) ∙ put_back bank slot

  pub unaltered : (answer : Said) → ◌≡◌ {A = Outcome} (record { answer = answer; bank = with_slot bank slot s }) (record { answer = answer; bank = bank })
  unaltered answer = λ i. record { answer = answer; bank = unmoved i }
