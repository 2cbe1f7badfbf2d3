-- A call on a bank of 4096 bytes is a call on the slot that it names: 1 and 2 are passed, and only that slot's bytes are read and changed.
use mathlib.Core.Path.{◌≡◌, refl, sym, ap, ◌∙◌}
use mathlib.Core.Bool.{Bool, true, false, not, cond}
use mathlib.Core.List.{List, [], ◌∷◌}
use Prim.Native.Nat.{ℕ, ◌≤◌, ◌<◌}
use lib.ListN.{length}
use borrow.Author.Tests.{eq-eqb, ne_eqb, le-ltb, lt-ltb}
use Rattle.refusals.specs.Refusals.{Refusal, unless_refused}
use Rattle.refusals.proofs.Passing.{pass, stop}
use Rattle.feed.specs.declared.Feed.{Feed}
use Rattle.feed.specs.Answers.{Said, refused, done}
use Rattle.feed.specs.Kept.{answered_from}
use Rattle.feed.specs.Ring.{opened, stored, history_of}
use Rattle.bank.specs.Slot.{slot_at, with_slot, feed_in, slot_of, free_slot}
use Rattle.bank.specs.Calls.{Outcome, refusing, wrong_length, no_slot, slot_damaged, open_of_open, on_free, end_of_time_in, opened_at, pushed_at, closed_at}
use Rattle.sampling.specs.Tags.{no_nominal, no_rate}
use Rattle.bank.proofs.Slots.{put_back}
use Rattle.acceptance.specs.Runs.{Ask, opens, samples, closes, sample_by, Promised}

-- what a call on a slot answers, and the slot's bytes after it
pub record Left : Type 0 where
  pub answer : Said
  pub slot : List ℕ

abbrev pub leaving : List ℕ → ℕ → Left
leaving s number = record { answer = refused number; slot = s }

-- the refusals of a call that are left past 1 and 2, in their order, and what it does where none is due
abbrev pub slot_refusals : Ask → List ℕ → List Refusal
slot_refusals (opens nominal rate soc) s = slot_damaged s ∷ open_of_open s ∷ no_nominal nominal ∷ no_rate nominal rate ∷ []
slot_refusals (samples a b c) s = slot_damaged s ∷ on_free s ∷ end_of_time_in s ∷ []
slot_refusals closes s = slot_damaged s ∷ on_free s ∷ []

abbrev pub slot_grant : Ask → List ℕ → Left
slot_grant (opens nominal rate soc) s = record { answer = done; slot = slot_of (opened nominal rate soc) }
slot_grant (samples a b c) s =
    let next : Feed = stored (feed_in s) (sample_by a b c) in
    record { answer = answered_from (history_of next) next.kept; slot = slot_of next }
slot_grant closes s = record { answer = done; slot = free_slot }

unfoldable pub on_slot : Ask → List ℕ → Left
on_slot ask s = unless_refused (slot_refusals ask s) (leaving s) (slot_grant ask s)

-- the bank's outcome of what a call left of slot k
abbrev pub put : List ℕ → ℕ → Left → Outcome
put bank k l = record { answer = l.answer; bank = with_slot bank k l.slot }

put_judged : (bank : List ℕ) (k : ℕ) (rs : List Refusal) (grant : Left)
    → unless_refused rs (refusing bank) (put bank k grant) ≡ put bank k (unless_refused rs (leaving (slot_at bank k)) grant)
put_judged bank k [] grant = refl
put_judged bank k (r ∷ rs) grant = go r.due (put_judged bank k rs grant)
  where
    go : (b : Bool) → unless_refused rs (refusing bank) (put bank k grant) ≡ put bank k (unless_refused rs (leaving (slot_at bank k)) grant)
        → cond b (refusing bank r.number) (unless_refused rs (refusing bank) (put bank k grant))
        ≡ put bank k (cond b (leaving (slot_at bank k) r.number) (unless_refused rs (leaving (slot_at bank k)) grant))
    go true e = ap (λ (l : List ℕ). record { answer = refused r.number; bank = l }) (sym (put_back bank k))
    go false e = e

-- a call's outcome by its function's definition
abbrev outcome_of : ℕ → Ask → List ℕ → Outcome
outcome_of slot ask bank =
    unless_refused (wrong_length bank ∷ no_slot slot ∷ slot_refusals ask (slot_at bank slot)) (refusing bank) (put bank slot (slot_grant ask (slot_at bank slot)))

said_so : (a : Said) (next : List ℕ) {b : Said} → a ≡ b → ◌≡◌ {A = Outcome} (record { answer = b; bank = next }) (record { answer = a; bank = next })
said_so a next e = ap (λ (x : Said). record { answer = x; bank = next }) (sym e)

promised_is : (slot : ℕ) (ask : Ask) (bank next : List ℕ) (answer : Said) → Promised slot ask bank answer next
    → record { answer = answer; bank = next } ≡ outcome_of slot ask bank
unfolding opened_at pushed_at closed_at
promised_is slot (opens nominal rate soc) bank next answer p = said_so _ next p.2 ∙ p.1
promised_is slot (samples a b c) bank next answer p = said_so _ next p.2 ∙ p.1
promised_is slot closes bank next answer p = said_so _ next p.2 ∙ p.1

-- a bank of another length is refused 1, and nothing changes
pub outside : (slot : ℕ) (ask : Ask) (bank next : List ℕ) (answer : Said) → (length bank ≡ 4096 → ⊥) → Promised slot ask bank answer next → next ≡ bank
outside slot ask bank next answer d p =
    ap (λ (o : Outcome). o.bank)
    (promised_is slot ask bank next answer p
    ∙ stop (wrong_length bank) (no_slot slot ∷ slot_refusals ask (slot_at bank slot)) (refusing bank) (put bank slot (slot_grant ask (slot_at bank slot)))
    (ap not (ne_eqb (length bank) 4096 d)))

module _ (slot : ℕ) (ask : Ask) (bank next : List ℕ) (answer : Said) (size : length bank ≡ 4096) (p : Promised slot ask bank answer next) where
  abbrev rest : List Refusal
  rest = slot_refusals ask (slot_at bank slot)

  abbrev grant : Left
  grant = slot_grant ask (slot_at bank slot)

  -- 1 is passed
  past_one : record { answer = answer; bank = next } ≡ unless_refused (no_slot slot ∷ rest) (refusing bank) (put bank slot grant)
  past_one =
      promised_is slot ask bank next answer p
      ∙ pass (wrong_length bank) (no_slot slot ∷ rest) (refusing bank) (put bank slot grant) (ap not (eq-eqb (length bank) 4096 size))

  -- a call that names no slot is refused 2, and changes nothing
  pub unnamed : 15 < slot → record { answer = answer; bank = next } ≡ refusing bank 2
  unnamed h = past_one ∙ stop (no_slot slot) rest (refusing bank) (put bank slot grant) (lt-ltb 15 slot h)

  -- a call that names a slot answers what the slot answers, and puts there what it leaves
  pub named : slot ≤ 15 → record { answer = answer; bank = next } ≡ put bank slot (on_slot ask (slot_at bank slot))
  unfolding on_slot
  named h =
      past_one
      ∙ pass (no_slot slot) rest (refusing bank) (put bank slot grant) (le-ltb 15 slot h)
      ∙ put_judged bank slot rest grant
