-- Condition B holds: a push is a run of one call, a report is given only past every refusal, and a whole run that is not refused answers the rule's
-- figures.
use mathlib.Core.Path.{◌≡◌, refl, sym, ap, ◌∙◌}
use mathlib.Core.Bool.{true, false, cond}
use mathlib.Core.List.{List, [], ◌∷◌}
use Prim.Native.Nat.{ℕ, ◌≤◌}
use native.Mathlib.Omega.{arith}
use borrow.Author.Tests.{eq-eqb, eqb-true, ne_eqb, ltb-false, not-false}
use lib.Dec.{eqb}
use lib.IntN.{ℤ}
use lib.ListN.{length, get_or}
use Rattle.std.specs.Prelude.{Option, Some, Result, Ok}
use Rattle.ints.proofs.Cases.{when_true, when_false}
use Rattle.refusals.specs.declared.Refused.{Refused}
use Rattle.model.specs.declared.report.Figures.{Figures}
use Rattle.model.specs.Report.{figures_at, three_phase}
use Rattle.feed.specs.declared.Report.{Report}
use Rattle.sampling.specs.Tags.{nominal_of}
use Rattle.feed.specs.Answers.{Said, refused as refused_with, said_report, said}
use Rattle.feed.specs.History.{told}
use Rattle.feed.specs.Ring.{history_of}
use Rattle.bank.specs.Slot.{slot_at, state_in, feed_in}
use Rattle.bank.specs.Damage.{is_free, is_open, is_damaged}
use Rattle.bank.specs.Calls.{Outcome, refusing, push_refusals, pushed_at, Pushing}
use Rattle.bank.proofs.Slots.{slot_length}
use Rattle.bank.proofs.Keeping.{is_open_lem}
use Rattle.runs.specs.Runs.{refused, said_figures, sample_at, run_refusals, measured, RunMeasuring}
use Rattle.runs.proofs.Unique.{unsaid}
use Rattle.runs.proofs.Feeds.{due_held, same_measurement}
use Rattle.phs.proofs.Whole.{every_cut}
use Rattle.acceptance.specs.Runs.{I16, samples, sample_by, Call, Ran, ends, goes_on, asks_of, answers_of}
use Rattle.acceptance.specs.Alone.{open_with, stepped, start_of, answers_alone}
use Rattle.acceptance.specs.Reached.{Reached}
use Rattle.acceptance.specs.ConditionB.{ConditionB}
use Rattle.acceptance.proofs.ConditionC.{condition_c}
use Rattle.acceptance.proofs.Within.{within_exactly_when}
use Rattle.acceptance.proofs.Refusing.{given, granted, Through, met, passed, through}

-- an open slot is not free
not_free : (s : List ℕ) → is_open s ≡ true → is_free s ≡ false
not_free s e = ne_eqb (state_in s) 0 (λ z. omega (arith, z, eqb-true (state_in s) 1 e))

each_push : (bank after : List ℕ) (slot : ℕ) (a b c : I16) (r : Result (Option Report) Refused) → Reached bank → length bank ≡ 4096 → slot ≤ 15
    → is_damaged (slot_at bank slot) ≡ false → is_open (slot_at bank slot) ≡ true → Pushing bank slot (sample_by a b c) r after
    → said r ≡ (told (history_of (feed_in (slot_at bank slot))) (sample_by a b c)).answer
unfolding answers_of asks_of answers_alone stepped start_of
each_push bank after slot a b c r from size named sound opened p =
    let s = slot_at bank slot in
    let named_so = eq-eqb slot slot refl in
    let start : start_of s ≡ open_with (history_of (feed_in s)) = when_false (is_damaged s) _ _ sound ∙ when_false (is_free s) _ _ (not_free s opened) in
    let call : Call = record { slot = slot; ask = samples a b c; answer = said r } in
    let ran : Ran bank (call ∷ []) after = goes_on {c = call} (r, p, refl) ends in
    let rule = condition_c.as_the_rule_gives bank after _ from size ran slot named in
    ap (λ (answers : List Said). get_or answers 0 (said r)) (
    sym (when_true (eqb slot slot) (said r ∷ []) [] named_so)
    ∙ rule
    ∙ (λ i. answers_alone (start i) (cond (named_so i) (samples a b c ∷ []) []))
    )

each_report : (bank after : List ℕ) (slot : ℕ) (a b c : I16) (r : Report) → Reached bank → Pushing bank slot (sample_by a b c) (Ok (Some r)) after
    → said_report r ≡ (told (history_of (feed_in (slot_at bank slot))) (sample_by a b c)).answer
unfolding pushed_at
each_report bank after slot a b c r from p = go (through (push_refusals bank slot))
  where
    go : Through (push_refusals bank slot) → said_report r ≡ (told (history_of (feed_in (slot_at bank slot))) (sample_by a b c)).answer
    go (met n d) =
        let e : said_report r ≡ refused_with n = ap (λ (o : Outcome). o.answer) (p ∙ given (refusing bank) _ d) in
        cc
    go (passed q) =
        let size = eqb-true (length bank) 4096 (not-false _ q.0) in
        let named = ltb-false 15 slot q.1.0 in
        let opened = is_open_lem (slot_at bank slot) (slot_length bank slot size named) q.1.1.0 q.1.1.1.0 in
        each_push bank after slot a b c (Ok (Some r)) from size named q.1.1.0 opened p

each_run : (a b c : List ℤ) (centre nominal : ℕ) (f : Figures) → RunMeasuring a b c centre nominal (Ok f) → f ≡ figures_at three_phase (nominal_of nominal) (sample_at a b c) centre
unfolding measured
each_run a b c centre nominal f p = go (through (run_refusals a b c centre nominal))
  where
    rule : Figures
    rule = figures_at three_phase (nominal_of nominal) (sample_at a b c) centre

    go : Through (run_refusals a b c centre nominal) → f ≡ rule
    go (met n d) =
        let e : said_figures f ≡ refused n = p ∙ given refused (said_figures rule) d in
        cc
    go (passed q) = let e : ◌≡◌ {A = Result Figures Refused} (Ok f) (Ok rule) = ap unsaid (p ∙ granted refused (said_figures rule) (run_refusals a b c centre nominal) q) in cc

pub condition_b : ConditionB
condition_b = record {
  each_report = each_report;
  each_push = each_push;
  never_the_first = λ h e. let l : 31 ≤ length h.samples = due_held h e in omega arith;
  each_run = each_run;
  same_figures = same_measurement;
  each_listing = every_cut;
  within = within_exactly_when;
}
