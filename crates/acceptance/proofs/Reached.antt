-- The kept angles of a reached bank are true: those of a cleared one are, every call keeps them so, and salvage makes them so.
use mathlib.Core.Path.{◌≡◌, refl, sym, ap, subst}
use mathlib.Core.Bool.{Bool, true, false, not, cond}
use mathlib.Core.List.{List}
use Prim.Native.Nat.{ℕ, ◌≤◌}
use lib.Dec.{eqb}
use lib.ListN.{length}
use borrow.Author.Tests.{eqb-true, eqb-false}
use Rattle.std.specs.Prelude.{Result, Ok}
use Rattle.refusals.specs.declared.Refused.{Refused}
use Rattle.feed.specs.Answers.{Said, done, refused}
use Rattle.feed.specs.Places.{zeros}
use Rattle.bank.specs.Slot.{slot_at, TrueIn}
use Rattle.bank.specs.Calls.{Outcome, refusing, settled, cleared as cleared_to, Clearing}
use Rattle.bank.proofs.Slots.{slot_length}
use Rattle.bank.proofs.Free.{zeros_slot}
use Rattle.salvage.specs.declared.MendedSlot.{MendedSlot}
use Rattle.acceptance.specs.Runs.{Ask, Call, Promised, Ran, ends, goes_on}
use Rattle.acceptance.specs.Salvage.{Mends}
use Rattle.acceptance.specs.Reached.{Reached, cleared, salvaged, run_on, AllTrue, KeptTrue}
use Rattle.acceptance.proofs.OnSlot.{outside}
use Rattle.acceptance.proofs.Order.{own_slot, other}
use Rattle.acceptance.proofs.Lasting.{free_true, stays_true}
use Rattle.acceptance.proofs.Salvage.{salvage_holds}

-- ---- a cleared bank

zeros_true : AllTrue (zeros 4096)
zeros_true k h = subst TrueIn (sym (zeros_slot k h)) free_true

-- clearing leaves zeros, or the bank as it was
clearing_leaves : (bank after : List ℕ) (r : Result (Unit {0}) Refused) → Clearing bank r after → (Law : List ℕ → Type 0) → Law (zeros 4096) → Law bank → Law after
unfolding cleared_to
clearing_leaves bank after r p Law zero same = go (not (eqb (length bank) 4096)) p
  where
    go : (t : Bool) → record { answer = settled r; bank = after } ≡ cond t (refusing bank 1) (record { answer = done; bank = zeros 4096 }) → Law after
    go true e = subst Law (sym (ap (λ (o : Outcome). o.bank) e)) same
    go false e = subst Law (sym (ap (λ (o : Outcome). o.bank) e)) zero

cleared_is : (bank after : List ℕ) → Clearing bank (Ok tt) after → after ≡ zeros 4096
unfolding cleared_to
cleared_is bank after p = go (not (eqb (length bank) 4096)) p
  where
    go : (t : Bool) → record { answer = done; bank = after } ≡ cond t (refusing bank 1) (record { answer = done; bank = zeros 4096 }) → after ≡ zeros 4096
    go true e = let d : done ≡ refused 1 = ap (λ (o : Outcome). o.answer) e in cc
    go false e = ap (λ (o : Outcome). o.bank) e

-- ---- a call

module _ (bank after : List ℕ) (slot : ℕ) (ask : Ask) (answer : Said) (p : Promised slot ask bank answer after) (k : ℕ) (h : k ≤ 15) (t : TrueIn (slot_at bank k)) where
  call_true : length bank ≡ 4096 → TrueIn (slot_at after k)
  call_true size = go (eqb slot k) refl
    where
      go : (b : Bool) → eqb slot k ≡ b → TrueIn (slot_at after k)
      go true e =
          subst TrueIn (sym (own_slot (record { slot = slot; ask = ask; answer = answer }) bank after size p k h (eqb-true slot k e)))
          (stays_true (slot_at bank k) (slot_length bank k size h) ask t)
      go false e = subst TrueIn (sym (other (record { slot = slot; ask = ask; answer = answer }) bank after size p k (eqb-false slot k e))) t

  each_call : TrueIn (slot_at after k)
  each_call = go (eqb (length bank) 4096) refl
    where
      go : (b : Bool) → eqb (length bank) 4096 ≡ b → TrueIn (slot_at after k)
      go true e = call_true (eqb-true (length bank) 4096 e)
      go false e = subst (λ (l : List ℕ). TrueIn (slot_at l k)) (sym (outside slot ask bank after answer (eqb-false (length bank) 4096 e) p)) t

-- ---- a run

run_true : {bank end : List ℕ} {calls : List Call} → Ran bank calls end → AllTrue bank → AllTrue end
run_true ends t = t
run_true (goes_on {bank} {next} {c = c} p ran) t = run_true ran (λ k h. each_call bank next c.slot c.ask c.answer p k h (t k h))

-- ---- reached

salvage_true : (image after : List ℕ) (slots : List MendedSlot) → Mends image slots after → AllTrue after
salvage_true image after slots m k h = salvage_holds.all_true image slots after m k h

cleared_true : (bank after : List ℕ) → Clearing bank (Ok tt) after → AllTrue after
cleared_true bank after p = subst AllTrue (sym (cleared_is bank after p)) zeros_true

reached_true : (bank : List ℕ) → Reached bank → AllTrue bank
reached_true after (cleared bank _ p) = cleared_true bank after p
reached_true after (salvaged image _ slots m) = salvage_true image after slots m
reached_true end (run_on bank _ calls r ran) = run_true ran (reached_true bank r)

pub kept_true : KeptTrue
kept_true = record {
  cleared_bank = cleared_true;
  clearing = λ bank after r p k h t. clearing_leaves bank after r p (λ l. TrueIn (slot_at l k)) (zeros_true k h) t;
  each_call = λ bank after slot ask answer p k h t. each_call bank after slot ask answer p k h t;
  salvage = salvage_true;
  reached = reached_true;
}
