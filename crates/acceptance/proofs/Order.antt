-- In any run a slot goes as it would go alone: a call that names it does to it what the slot's own rule says, and any other leaves it.
use mathlib.Core.Path.{◌≡◌, refl, sym, ap, ap₂, ◌∙◌}
use mathlib.Core.Bool.{Bool, true, false, cond}
use mathlib.Core.List.{List, [], ◌∷◌}
use Prim.Native.Nat.{ℕ, ◌≤◌, ◌<◌}
use lib.Dec.{eqb, leb}
use lib.ListN.{length}
use borrow.Author.Tests.{eqb-true, eqb-false, leb-true, leb-false}
use Rattle.feed.specs.Answers.{Said}
use Rattle.bank.specs.Slot.{slot_at, with_slot}
use Rattle.bank.specs.Calls.{Outcome}
use Rattle.bank.proofs.Slots.{slot_length, length_kept, same_slot, other_slot}
use Rattle.acceptance.specs.Runs.{Ask, Call, Promised, Ran, ends, goes_on, asks_of, answers_of}
use Rattle.acceptance.specs.Alone.{State, stepped, answers_alone}
use Rattle.acceptance.proofs.OnSlot.{Left, on_slot, put, unnamed, named}
use Rattle.acceptance.proofs.Lasting.{stays_whole}
use Rattle.acceptance.proofs.Shows.{Shows, step_goes}

-- one slot by itself: what it is answered, and its bytes at the end
unfoldable pub said_alone : List ℕ → List Ask → List Said
said_alone s [] = []
said_alone s (ask ∷ asks) = (on_slot ask s).answer ∷ said_alone (on_slot ask s).slot asks

unfoldable pub slot_alone : List ℕ → List Ask → List ℕ
slot_alone s [] = s
slot_alone s (ask ∷ asks) = slot_alone (on_slot ask s).slot asks

-- ---- one call

module _ (c : Call) (bank next : List ℕ) (size : length bank ≡ 4096) (p : Promised c.slot c.ask bank c.answer next) where
  abbrev left : Left
  left = on_slot c.ask (slot_at bank c.slot)

  left_whole : c.slot ≤ 15 → length left.slot ≡ 256
  left_whole h = stays_whole (slot_at bank c.slot) (slot_length bank c.slot size h) c.ask

  is_named : c.slot ≤ 15 → record { answer = c.answer; bank = next } ≡ put bank c.slot left
  is_named h = named c.slot c.ask bank next c.answer size p h

  next_is : c.slot ≤ 15 → next ≡ with_slot bank c.slot left.slot
  next_is h = ap (λ (o : Outcome). o.bank) (is_named h)

  next_was : 15 < c.slot → next ≡ bank
  next_was h = ap (λ (o : Outcome). o.bank) (unnamed c.slot c.ask bank next c.answer size p h)

  pub stays_long : length next ≡ 4096
  stays_long = go (leb c.slot 15) refl
    where
      go : (b : Bool) → leb c.slot 15 ≡ b → length next ≡ 4096
      go true e = let h = leb-true c.slot 15 e in ap length (next_is h) ∙ length_kept bank c.slot size h left.slot (left_whole h)
      go false e = ap length (next_was (leb-false c.slot 15 e)) ∙ size

  -- of the slot that it names
  pub own_answer : (k : ℕ) → k ≤ 15 → c.slot ≡ k → c.answer ≡ (on_slot c.ask (slot_at bank k)).answer
  own_answer k h e = rw (← e) (ap (λ (o : Outcome). o.answer) (is_named (rw e h)))

  pub own_slot : (k : ℕ) → k ≤ 15 → c.slot ≡ k → slot_at next k ≡ (on_slot c.ask (slot_at bank k)).slot
  own_slot k h e =
      let l : c.slot ≤ 15 = rw e h in
      rw (← e, next_is l) (same_slot bank c.slot size l left.slot (left_whole l))

  -- of any other
  pub other : (k : ℕ) → (c.slot ≡ k → ⊥) → slot_at next k ≡ slot_at bank k
  other k d = go (leb c.slot 15) refl
    where
      go : (b : Bool) → leb c.slot 15 ≡ b → slot_at next k ≡ slot_at bank k
      go true e =
          let l = leb-true c.slot 15 e in
          rw (next_is l) (other_slot bank c.slot size l left.slot (left_whole l) k (λ q. d (sym q)))
      go false e = rw (next_was (leb-false c.slot 15 e))

-- ---- a run

pub length_after : {bank end : List ℕ} {cs : List Call} → Ran bank cs end → length bank ≡ 4096 → length end ≡ 4096
length_after ends size = size
length_after (goes_on {bank} {next} {c = c} p ran) size = length_after ran (stays_long c bank next size p)

module _ (k : ℕ) (h : k ≤ 15) where
  pub slot_goes_alone : {bank end : List ℕ} {cs : List Call} → Ran bank cs end → length bank ≡ 4096 → slot_at end k ≡ slot_alone (slot_at bank k) (asks_of k cs)
  unfolding slot_alone asks_of
  slot_goes_alone ends size = refl
  slot_goes_alone (goes_on {bank} {next} {c = c} {cs} p ran) size = slot_goes_alone ran (stays_long c bank next size p) ∙ go (eqb c.slot k) refl
    where
      go : (b : Bool) → eqb c.slot k ≡ b → slot_alone (slot_at next k) (asks_of k cs) ≡ slot_alone (slot_at bank k) (cond b (c.ask ∷ asks_of k cs) (asks_of k cs))
      go true e = ap (λ (s : List ℕ). slot_alone s (asks_of k cs)) (own_slot c bank next size p k h (eqb-true c.slot k e))
      go false e = ap (λ (s : List ℕ). slot_alone s (asks_of k cs)) (other c bank next size p k (eqb-false c.slot k e))

  pub answers_go_alone : {bank end : List ℕ} {cs : List Call} → Ran bank cs end → length bank ≡ 4096 → answers_of k cs ≡ said_alone (slot_at bank k) (asks_of k cs)
  unfolding said_alone asks_of answers_of
  answers_go_alone ends size = refl
  answers_go_alone (goes_on {bank} {next} {c = c} {cs} p ran) size = go (eqb c.slot k) refl (answers_go_alone ran (stays_long c bank next size p))
    where
      go : (b : Bool) → eqb c.slot k ≡ b → answers_of k cs ≡ said_alone (slot_at next k) (asks_of k cs)
          → cond b (c.answer ∷ answers_of k cs) (answers_of k cs) ≡ said_alone (slot_at bank k) (cond b (c.ask ∷ asks_of k cs) (asks_of k cs))
      go true e ih =
          let i = eqb-true c.slot k e in
          ap₂ (λ (a : Said) (rest : List Said). a ∷ rest) (own_answer c bank next size p k h i)
          (ih ∙ ap (λ (s : List ℕ). said_alone s (asks_of k cs)) (own_slot c bank next size p k h i))
      go false e ih = ih ∙ ap (λ (s : List ℕ). said_alone s (asks_of k cs)) (other c bank next size p k (eqb-false c.slot k e))

-- ---- a slot alone, told by condition B's rule

pub alone_as_told : (asks : List Ask) (s : List ℕ) (st : State) → length s ≡ 256 → Shows s st → said_alone s asks ≡ answers_alone st asks
unfolding said_alone answers_alone
alone_as_told [] s st w h = refl
alone_as_told (ask ∷ asks) s st w h =
    let g = step_goes ask s st w h in
    ap₂ (λ (a : Said) (rest : List Said). a ∷ rest) g.answer_same
    (alone_as_told asks (on_slot ask s).slot (stepped ask st).next g.whole g.shows)
