-- What a slot that is found, or not found, says of its bank, by cases on the two tests; and how a call ends that runs a step on it. Assumes nothing.
use mathlib.Core.Path.{◌≡◌, refl, sym, ◌∙◌, ap, subst}
use mathlib.Core.Bool.{Bool, true, false, not, cond}
use mathlib.Core.List.{List, [], ◌∷◌, ◌++◌}
use lib.Seq.{drop-drop}
use Prim.Native.Nat.{ℕ, ◌*◌}
use lib.Dec.{eqb, ltb}
use lib.ListN.{length, take, drop}
use borrow.Author.Tests.{eqb-true, ltb-false, not-false}
use Rattle.refusals.specs.Refusals.{unless_refused, number_of}
use Rattle.std.specs.Borrow.{MutBor}
use Rattle.std.specs.Fn.{Once}
use Rattle.std.specs.Prelude.{Result, Ok, Err}
use Rattle.std.proofs.Common.{inl, inr}
use Rattle.refusals.specs.declared.Refused.{Refused}
use Rattle.feed.specs.Answers.{Said, refused}
use Rattle.bank.specs.Slot.{slot_at, with_slot}
use Rattle.bank.specs.Calls.{Outcome, refusing, wrong_length, no_slot}
use Rattle.bank.specs.Inside.{Finds, StandsIn, Steps, Lent}

-- not found: the call is refused, whatever comes after 1 and 2
pub not_found : {bank : List ℕ} {slot : ℕ} (e : Refused) (rest : Outcome) → Finds bank slot (Err e)
    → unless_refused (wrong_length bank ∷ no_slot slot ∷ []) (refusing bank) rest ≡ refusing bank (number_of e)
not_found {bank} {slot} e rest f = go (not (eqb (length bank) 4096)) (ltb 15 slot) (sym f.is)
  where
    go : (t u : Bool) → ◌≡◌ {A = Result ℕ ℕ} (cond t (Err 1) (cond u (Err 2) (Ok (256 * slot)))) (Err (number_of e))
        → cond t (refusing bank 1) (cond u (refusing bank 2) rest) ≡ refusing bank (number_of e)
    go true u q = let n : 1 ≡ number_of e = cc in ap (λ (k : ℕ). refusing bank k) n
    go false true q = let n : 2 ≡ number_of e = cc in ap (λ (k : ℕ). refusing bank k) n
    go false false q = absurd cc

-- found: these bytes of the bank are the slot, and others in their place are the slot's
pub record Standing (bank : List ℕ) (slot start : ℕ) : Type 0 where
  pub begins : start ≡ 256 * slot
  pub there : StandsIn bank slot (slot_at bank slot)
  pub bytes : take 256 (drop start bank) ≡ slot_at bank slot
  pub back : (s : List ℕ) → take start bank ++ (s ++ drop 256 (drop start bank)) ≡ with_slot bank slot s

pub stands : {bank : List ℕ} {slot start : ℕ} → Finds bank slot (Ok start) → Standing bank slot start
unfolding slot_at with_slot
stands {bank} {slot} {start} f = go (not (eqb (length bank) 4096)) (ltb 15 slot) refl refl (sym f.is)
  where
    go : (t u : Bool) → not (eqb (length bank) 4096) ≡ t → ltb 15 slot ≡ u → ◌≡◌ {A = Result ℕ ℕ} (cond t (Err 1) (cond u (Err 2) (Ok (256 * slot)))) (Ok start)
        → Standing bank slot start
    go true u p q e = absurd cc
    go false true p q e = absurd cc
    go false false p q e =
        let n : start ≡ 256 * slot = cc in
        record {
          begins = n;
          there = record { whole = eqb-true _ _ (not-false _ p); named = ltb-false 15 slot q; there = refl };
          bytes = rw n;
          back = λ s. rw (n, drop-drop 256 (256 * slot) bank);
        }

module _ {F T : Type 0} {g : Once F (MutBor (List ℕ) × Unit {0}) (Result T Refused × (MutBor (List ℕ) × Unit {0}))} {step : F} {bank after : List ℕ} {slot : ℕ} {r : Result T Refused} where
  -- a call of a step on a slot ends as is told of the bank: by 1 and 2, or else by what is told of the step wherever its bytes stand
  pub answered : (say : Result T Refused → Said) (whole : List ℕ → ℕ → Outcome) (rest : Outcome)
      → ((e : Refused) → say (Err e) ≡ refused (number_of e))
      → whole bank slot ≡ unless_refused (wrong_length bank ∷ no_slot slot ∷ []) (refusing bank) rest
      → Steps g step bank slot r after
      → ((p q : MutBor (List ℕ)) → g.post step (p, tt) (r, (q, tt)) → Lent (λ b n s. record { answer = say r; bank = s } ≡ whole b n) p.now q.now)
      → record { answer = say r; bank = after } ≡ whole bank slot
  answered say whole rest errs is steps says = elim steps [
    | inl h ↦ (λ i. record { answer = (ap say h.2 ∙ errs h.0) i; bank = h.3 i }) ∙ sym (is ∙ not_found h.0 rest h.1)
    | inr h ↦
        let ran = h.2 in
        let at : StandsIn bank slot ran.shown.now = subst (StandsIn bank slot) (sym ran.shows) h.1 in
        (λ i. record { answer = say r; bank = (h.3 ∙ ap (λ (s : List ℕ). with_slot bank slot s) (sym ran.leaves)) i }) ∙ says ran.shown ran.left ran.met bank slot at
  ]
