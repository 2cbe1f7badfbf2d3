-- Condition A holds: each call's contract judges its list of refusals in order, and where none is due its answer is no refusal.
use mathlib.Core.Path.{◌≡◌, refl, sym, ◌∙◌}
use mathlib.Core.Bool.{Bool, true, false, cond}
use mathlib.Core.List.{List}
use Prim.Native.Nat.{ℕ}
use Rattle.std.specs.Prelude.{Some, None, Result, Ok}
use Rattle.refusals.specs.declared.Refused.{Refused}
use Rattle.model.specs.declared.report.Figures.{Figures}
use Rattle.model.specs.declared.report.Phases.{Phases}
use Rattle.feed.specs.Answers.{Said, refused, done, taken, said, tagged}
use Rattle.feed.specs.History.{History, centre_of, is_due}
use Rattle.feed.specs.Kept.{report_from, answered_from}
use Rattle.feed.specs.declared.Feed.{Feed}
use Rattle.feed.specs.Ring.{stored, history_of, Next, pushed}
use Rattle.bank.specs.Slot.{slot_at, with_slot, feed_in, slot_of}
use Rattle.bank.specs.Calls.{Outcome, refusing, settled, cleared, opened_at, pushed_at, closed_at}
use Rattle.salvage.specs.Image.{told_of, Outcome as Salvage, Said as SalvageSaid, salvaged, refused as salvage_refused, said as salvage_said}
use Rattle.model.specs.Report.{figures_at, three_phase}
use Rattle.sampling.specs.Tags.{nominal_of}
use Rattle.runs.specs.Runs.{sample_at, measured, refused as run_refused, said as run_said}
use Rattle.header.specs.Header.{version_in, nominal_in, rate_in, soc_in, meant_rate, headed, refused as header_refused, said as header_said}
use Rattle.verdict.specs.declared.judging.Verdict.{Verdict}
use Rattle.verdict.specs.Errors.{errors_of}
use Rattle.verdict.specs.Limits.{limits_for}
use Rattle.verdict.specs.Judging.{left_out, is_left_out, verdict_on, judgement, said_verdict, refused as verdict_refused, said as verdict_said}
use Rattle.frames.specs.Fields.{device_in, quality_in}
use Rattle.frames.specs.Reading.{reading, refused as frame_refused, said as frame_said}
use Rattle.refusals.specs.Refusals.{Refusal, unless_refused}
use Rattle.acceptance.specs.ConditionA.{Refuses, ConditionA}
use Rattle.acceptance.proofs.Refusing.{are_numbers, Joins, alone, refuses}

-- a call can answer so that this is said, and it is no refusal
record Grants {A S : Type 0} (saying : Result A Refused → S) (refused_as : ℕ → S) (s : S) : Type 0 where
  answer : Result A Refused
  says : saying answer ≡ s
  no_refusal : (n : ℕ) → s ≡ refused_as n → ⊥

tagged_granted : (soc frame : ℕ) (f : Figures) → Grants said refused (tagged soc frame f)
unfolding tagged
tagged_granted soc frame f = record {
  answer = Ok (Some (record {
    soc = soc;
    frame = frame;
    re = f.re;
    im = f.im;
    d1 = f.d1;
    d2 = f.d2;
    mark = f.mark;
    re_peak = f.re_peak;
    im_peak = f.im_peak;
    deviation = f.deviation;
    rocof = f.rocof;
  }));
  says = refl;
  no_refusal = λ n e. cc;
}

answered_granted : (h : History) (k : Phases) → Grants said refused (answered_from h k)
unfolding answered_from report_from
answered_granted h k = go (is_due h)
  where
    go : (b : Bool) → Grants said refused (cond b (report_from h (centre_of h) k) taken)
    go true = tagged_granted _ _ _
    go false = record { answer = Ok None; says = refl; no_refusal = λ n e. cc }

judged_granted : (out : Bool) (v : Verdict) → Grants verdict_said verdict_refused (cond out left_out (said_verdict v))
judged_granted true v = record { answer = Ok None; says = refl; no_refusal = λ n e. cc }
judged_granted false v = record { answer = Ok (Some v); says = refl; no_refusal = λ n e. cc }

-- the outcomes of a call on a bank, of a feed's own push, and of a salvage
abbrev on_bank : Joins Said (List ℕ) Outcome
on_bank = record {
  join = λ s b. record { answer = s; bank = b };
  says = λ o. o.answer;
  lent = λ o. o.bank;
  says_joined = λ s b. refl;
  lent_joined = λ s b. refl;
}

abbrev on_feed : Joins Said Feed Next
on_feed = record {
  join = λ s f. record { answer = s; feed = f };
  says = λ o. o.answer;
  lent = λ o. o.feed;
  says_joined = λ s f. refl;
  lent_joined = λ s f. refl;
}

abbrev on_image : Joins SalvageSaid (List ℕ) Salvage
on_image = record {
  join = λ s b. record { answer = s; image = b };
  says = λ o. o.answer;
  lent = λ o. o.image;
  says_joined = λ s b. refl;
  lent_joined = λ s b. refl;
}

-- clearing, opening and closing: 1 and others, or done
settles : (list : List Refusal) → are_numbers list ≡ true → (before after : List ℕ)
    → Refuses settled refused list before (λ r b. record { answer = settled r; bank = b } ≡ unless_refused list (refusing before) (record { answer = done; bank = after }))
settles list numbered before after =
    refuses settled on_bank refused (λ m n e. cc) (λ r. refl) list numbered before after _ (Ok tt) refl (λ n e. cc)

pub condition_a : ConditionA
unfolding cleared opened_at pushed_at closed_at salvaged pushed judgement reading measured headed
condition_a = record {
  clearing = λ bank. settles _ refl bank _;
  opening = λ bank slot nominal rate soc. settles _ refl bank _;
  pushing = λ bank slot s.
      let next : Feed = stored (feed_in (slot_at bank slot)) s in
      let g = answered_granted (history_of next) next.kept in
      refuses said on_bank refused (λ m n e. cc) (λ r. refl) _ refl bank _ _ g.answer
      (λ i. record { answer = g.says i; bank = with_slot bank slot (slot_of next) }) (λ n e. g.no_refusal n (sym g.says ∙ e));
  closing = λ bank slot. settles _ refl bank _;
  salvaging = λ image.
      refuses salvage_said on_image salvage_refused (λ m n e. cc) (λ r. refl) _ refl image _ _ (Ok (told_of image)) refl (λ n e. cc);
  feeding = λ f s.
      let g = answered_granted (history_of (stored f s)) (stored f s).kept in
      refuses said on_feed refused (λ m n e. cc) (λ r. refl) _ refl f _ _ g.answer
      (λ i. record { answer = g.says i; feed = stored f s }) (λ n e. g.no_refusal n (sym g.says ∙ e));
  judging = λ class test m device reference.
      let g = judged_granted (is_left_out test m) (verdict_on (errors_of device reference) (limits_for class test)) in
      alone verdict_said verdict_refused (λ m n e. cc) (λ r. refl) _ refl _ g.no_refusal g.answer g.says;
  reading = λ frame configured tag.
      alone frame_said frame_refused (λ m n e. cc) (λ r. refl) _ refl _ (λ n e. cc)
      (Ok (record { device = device_in frame; quality = quality_in frame })) refl;
  measuring = λ a b c centre nominal.
      let f = figures_at three_phase (nominal_of nominal) (sample_at a b c) centre in
      alone run_said run_refused (λ m n e. cc) (λ r. refl) _ refl _ (λ n e. cc) (Ok f) refl;
  heading = λ header.
      alone header_said header_refused (λ m n e. cc) (λ r. refl) _ refl _ (λ n e. cc)
      (Ok (record {
        version = version_in header;
        nominal = nominal_in header;
        rate = meant_rate (version_in header) (nominal_in header) (rate_in header);
        soc = soc_in header;
      }))
      refl;
}
