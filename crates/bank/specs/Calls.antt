-- Document 01, "The bank" and "Refusal numbers": what each call answers and leaves.
use Rattle.std.specs.Prelude.{Result, Ok, Err, Option, ◌≡◌, not, List, [], ◌∷◌, ℕ, eqb, ltb, length}
use Rattle.model.specs.declared.filter.Sample.{Sample}
use Rattle.refusals.specs.declared.Refused.{Refused}
use Rattle.refusals.specs.Refusals.{Refusal, unless_refused, number_of}
use Rattle.feed.specs.declared.Feed.{Feed}
use Rattle.feed.specs.declared.Report.{Report}
use Rattle.sampling.specs.Tags.{no_nominal, no_rate}
use Rattle.feed.specs.Answers.{Said, refused, done, said}
use Rattle.feed.specs.Kept.{answered_from}
use Rattle.feed.specs.Places.{zeros}
use Rattle.feed.specs.Ring.{opened, stored, history_of, end_of_time_of}
use Rattle.bank.specs.Slot.{slot_at, with_slot, head_in, feed_in, slot_of, free_slot}
use Rattle.bank.specs.Damage.{is_free, is_open, is_damaged}

-- what a call answers, and the bytes of the bank when it ends
pub record Outcome : Type 0 where
  pub answer : Said
  pub bank : List ℕ

-- A refusal answers its number alone and alters no lent byte
abbrev pub refusing : List ℕ → ℕ → Outcome
refusing bank number = record { answer = refused number; bank = bank }

-- Clearing, opening and closing, not refused, answer "done"
abbrev pub settled : Result (Unit {0}) Refused → Said
settled (Err r) = refused (number_of r)
settled (Ok u) = done

-- ---- the refusals

-- 1: bank not 4096 bytes
abbrev pub wrong_length : List ℕ → Refusal
wrong_length bank = record { number = 1; due = not (eqb (length bank) 4096) }

-- 2: slot over 15
abbrev pub no_slot : ℕ → Refusal
no_slot slot = record { number = 2; due = ltb 15 slot }

-- Only the named slot is looked at: the four below are of its 256 bytes

-- 3: slot damaged
abbrev pub slot_damaged : List ℕ → Refusal
slot_damaged s = record { number = 3; due = is_damaged s }

-- 4: open of an open slot
abbrev pub open_of_open : List ℕ → Refusal
open_of_open s = record { number = 4; due = is_open s }

-- 5: push or close on a free slot
abbrev pub on_free : List ℕ → Refusal
on_free s = record { number = 5; due = is_free s }

-- 8: SOC 4294967295 and the sample is the last index of the second
abbrev pub end_of_time_in : List ℕ → Refusal
end_of_time_in s = end_of_time_of (head_in s)

-- ---- the calls, each with its refusals in their order

-- clear 1
abbrev pub clear_refusals : List ℕ → List Refusal
clear_refusals bank = wrong_length bank ∷ []

-- Clearing zeroes the bank
unfoldable pub cleared : List ℕ → Outcome
cleared bank = unless_refused (clear_refusals bank) (refusing bank) (record { answer = done; bank = zeros 4096 })

-- open 1, 2, 3, 4, 6, 7
abbrev pub open_refusals : List ℕ → ℕ → ℕ → ℕ → List Refusal
open_refusals bank slot nominal rate =
    let s : List ℕ = slot_at bank slot in
    wrong_length bank ∷ no_slot slot ∷ slot_damaged s ∷ open_of_open s ∷ no_nominal nominal ∷ no_rate nominal rate ∷ []

-- Opening sets state 1 and what a feed has that is opened
unfoldable pub opened_at : List ℕ → ℕ → ℕ → ℕ → ℕ → Outcome
opened_at bank slot nominal rate soc =
    unless_refused (open_refusals bank slot nominal rate) (refusing bank)
    (record { answer = done; bank = with_slot bank slot (slot_of (opened nominal rate soc)) })

-- push 1, 2, 3, 5, 8
abbrev pub push_refusals : List ℕ → ℕ → List Refusal
push_refusals bank slot =
    let s : List ℕ = slot_at bank slot in
    wrong_length bank ∷ no_slot slot ∷ slot_damaged s ∷ on_free s ∷ end_of_time_in s ∷ []

-- A feed taken out of its slot passes through a push as one value and goes back
unfoldable pub pushed_at : List ℕ → ℕ → Sample → Outcome
pushed_at bank slot s =
    let next : Feed = stored (feed_in (slot_at bank slot)) s in
    unless_refused (push_refusals bank slot) (refusing bank)
    (record { answer = answered_from (history_of next) next.kept; bank = with_slot bank slot (slot_of next) })

-- close 1, 2, 3, 5
abbrev pub close_refusals : List ℕ → ℕ → List Refusal
close_refusals bank slot =
    let s : List ℕ = slot_at bank slot in
    wrong_length bank ∷ no_slot slot ∷ slot_damaged s ∷ on_free s ∷ []

-- Closing zeroes the slot
unfoldable pub closed_at : List ℕ → ℕ → Outcome
closed_at bank slot = unless_refused (close_refusals bank slot) (refusing bank) (record { answer = done; bank = with_slot bank slot free_slot })

-- ---- what the functions promise: the answer, and the bytes of the bank when they end

-- `clear`
abbrev pub Clearing : List ℕ → Result (Unit {0}) Refused → List ℕ → Type 0
Clearing before r after = record { answer = settled r; bank = after } ≡ cleared before

-- `open`
abbrev pub Opening : List ℕ → ℕ → ℕ → ℕ → ℕ → Result (Unit {0}) Refused → List ℕ → Type 0
Opening before slot nominal rate soc r after = record { answer = settled r; bank = after } ≡ opened_at before slot nominal rate soc

-- `push`
abbrev pub Pushing : List ℕ → ℕ → Sample → Result (Option Report) Refused → List ℕ → Type 0
Pushing before slot s r after = record { answer = said r; bank = after } ≡ pushed_at before slot s

-- `close`
abbrev pub Closing : List ℕ → ℕ → Result (Unit {0}) Refused → List ℕ → Type 0
Closing before slot r after = record { answer = settled r; bank = after } ≡ closed_at before slot
