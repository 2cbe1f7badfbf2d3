-- What a call answers and leaves, by what is known of the bank or of the slot: each refusal in its order, and the outcome where none is due. Where it is
-- refused on a slot, the slot is as it was. Assumes nothing.
use mathlib.Core.Path.{◌≡◌, sym, ◌∙◌, ap}
use mathlib.Core.Bool.{true, false, not, ◌||◌}
use mathlib.Core.List.{List}
use Prim.Native.Nat.{ℕ}
use lib.Dec.{eqb}
use lib.ListN.{length}
use borrow.Author.Tests.{eq-eqb, ne_eqb}
use Rattle.model.specs.declared.filter.Sample.{Sample}
use Rattle.sampling.specs.Tags.{served_nominal, served_rate}
use Rattle.feed.specs.Answers.{refused, done}
use Rattle.feed.specs.Places.{zeros}
use Rattle.feed.specs.Ring.{opened}
use Rattle.bank.specs.Slot.{with_slot, state_in, free_slot, slot_of}
use Rattle.bank.specs.Damage.{is_free, is_open, is_damaged}
use Rattle.bank.specs.Calls.{Outcome, refusing, cleared, opened_at, pushed_at, closed_at}
use Rattle.bank.specs.Inside.{StandsIn}
use Rattle.bank.proofs.Free.{free_state}
use Rattle.bank.proofs.Lent.{pass, stop, inside, seen, unaltered}

module _ (bank : List ℕ) where
  pub clear_refused : (length bank ≡ 4096 → ⊥) → cleared bank ≡ refusing bank 1
  unfolding cleared
  clear_refused e = stop _ _ (ap not (ne_eqb _ _ e))

  pub clear_whole : length bank ≡ 4096 → cleared bank ≡ record { answer = done; bank = zeros (length bank) }
  unfolding cleared
  clear_whole e = pass _ _ (ap not (eq-eqb _ _ e)) ∙ ap (λ (n : ℕ). record { answer = done; bank = zeros n }) (sym e)

  pub ruleset clearings = (clear_refused, clear_whole)

module _ {bank : List ℕ} {slot : ℕ} {s : List ℕ} (l : StandsIn bank slot s) where
  -- a refusal, with the slot as it was
  abbrev refusing_here : ℕ → Outcome
  refusing_here number = record { answer = refused number; bank = with_slot bank slot s }

  module _ (nominal rate soc : ℕ) where
    pub open_damaged : is_damaged s ≡ true → opened_at bank slot nominal rate soc ≡ refusing_here 3
    unfolding opened_at
    open_damaged e = inside l _ _ _ ∙ stop _ _ (seen l is_damaged e) ∙ sym (unaltered l _)

    pub open_again : is_damaged s ≡ false → state_in s ≡ 1 → opened_at bank slot nominal rate soc ≡ refusing_here 4
    unfolding opened_at
    open_again e f = inside l _ _ _ ∙ pass _ _ (seen l is_damaged e) ∙ stop _ _ (seen l is_open (eq-eqb _ _ f)) ∙ sym (unaltered l _)

    pub open_no_nominal : is_damaged s ≡ false → (state_in s ≡ 1 → ⊥) → served_nominal nominal ≡ false → opened_at bank slot nominal rate soc ≡ refusing_here 6
    unfolding opened_at
    open_no_nominal e f n =
        inside l _ _ _
        ∙ pass _ _ (seen l is_damaged e)
        ∙ pass _ _ (seen l is_open (ne_eqb _ _ f))
        ∙ stop _ _ (ap not n)
        ∙ sym (unaltered l _)

    pub open_no_rate : is_damaged s ≡ false → (state_in s ≡ 1 → ⊥) → served_nominal nominal ≡ true → (served_rate nominal rate || eqb rate 0) ≡ false
        → opened_at bank slot nominal rate soc ≡ refusing_here 7
    unfolding opened_at
    open_no_rate e f n r =
        inside l _ _ _
        ∙ pass _ _ (seen l is_damaged e)
        ∙ pass _ _ (seen l is_open (ne_eqb _ _ f))
        ∙ pass _ _ (ap not n)
        ∙ stop _ _ (ap not r)
        ∙ sym (unaltered l _)

    pub open_served : is_damaged s ≡ false → (state_in s ≡ 1 → ⊥) → served_nominal nominal ≡ true → (served_rate nominal rate || eqb rate 0) ≡ true
        → opened_at bank slot nominal rate soc ≡ record { answer = done; bank = with_slot bank slot (slot_of (opened nominal rate soc)) }
    unfolding opened_at
    open_served e f n r =
        inside l _ _ _
        ∙ pass _ _ (seen l is_damaged e)
        ∙ pass _ _ (seen l is_open (ne_eqb _ _ f))
        ∙ pass _ _ (ap not n)
        ∙ pass _ _ (ap not r)

    pub ruleset openings = (open_damaged, open_again, open_no_nominal, open_no_rate, open_served)

  module _ (v : Sample) where
    pub push_damaged : is_damaged s ≡ true → pushed_at bank slot v ≡ refusing_here 3
    unfolding pushed_at
    push_damaged e = inside l _ _ _ ∙ stop _ _ (seen l is_damaged e) ∙ sym (unaltered l _)

    pub push_free : is_damaged s ≡ false → (state_in s ≡ 1 → ⊥) → pushed_at bank slot v ≡ refusing_here 5
    unfolding pushed_at
    push_free e f =
        inside l _ _ _ ∙ pass _ _ (seen l is_damaged e) ∙ stop _ _ (seen l is_free (eq-eqb _ _ (free_state s e f))) ∙ sym (unaltered l _)

    pub ruleset shut_pushes = (push_damaged, push_free)

  pub close_damaged : is_damaged s ≡ true → closed_at bank slot ≡ refusing_here 3
  unfolding closed_at
  close_damaged e = inside l _ _ _ ∙ stop _ _ (seen l is_damaged e) ∙ sym (unaltered l _)

  pub close_free : is_damaged s ≡ false → state_in s ≡ 0 → closed_at bank slot ≡ refusing_here 5
  unfolding closed_at
  close_free e f = inside l _ _ _ ∙ pass _ _ (seen l is_damaged e) ∙ stop _ _ (seen l is_free (eq-eqb _ _ f)) ∙ sym (unaltered l _)

  pub close_open : is_damaged s ≡ false → (state_in s ≡ 0 → ⊥) → closed_at bank slot ≡ record { answer = done; bank = with_slot bank slot free_slot }
  unfolding closed_at
  close_open e f = inside l _ _ _ ∙ pass _ _ (seen l is_damaged e) ∙ pass _ _ (seen l is_free (ne_eqb _ _ f))

  pub ruleset closings = (close_damaged, close_free, close_open)
