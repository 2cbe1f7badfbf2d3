-- Each public function's contract admits one outcome: two that equal the same are equal, and an answer is found again from what is said of it.
-- Assumes nothing.
use mathlib.Core.Path.{◌≡◌, refl, sym, ap, ◌∙◌}
use mathlib.Core.Bool.{Bool}
use mathlib.Core.List.{List}
use Prim.Native.Nat.{ℕ}
use Rattle.std.specs.Prelude.{Result, Ok, Err, Option, Some, None}
use Rattle.model.specs.declared.filter.Sample.{Sample}
use Rattle.refusals.specs.declared.Refused.{Refused}
use Rattle.refusals.specs.Refusals.{by_number}
use Rattle.refusals.proofs.Numbers.{by_number_injective}
use Rattle.feed.specs.declared.Head.{Head}
use Rattle.feed.specs.declared.Feed.{Feed}
use Rattle.feed.specs.declared.Pushed.{Pushed}
use Rattle.feed.specs.declared.Report.{Report}
use Rattle.feed.specs.Answers.{Said, refused, done, taken, taken_with, said}
use Rattle.feed.specs.Places.{sample_of, place_of}
use Rattle.feed.specs.Ring.{Next, faulty, opened, worked_out, Pushing}

-- the answer of which this is said, by the number of its refusal; no push answers "done"
abbrev pub unsaid : Said → Result (Option Report) ℕ
unsaid (refused number) = Err number
unsaid done = Ok None
unsaid taken = Ok None
unsaid (taken_with soc frame re im d1 d2 mark re_peak im_peak deviation rocof) = Ok (Some (record {
  soc = soc;
  frame = frame;
  re = re;
  im = im;
  d1 = d1;
  d2 = d2;
  mark = mark;
  re_peak = re_peak;
  im_peak = im_peak;
  deviation = deviation;
  rocof = rocof;
}))

pub unsaid_said : (a : Result (Option Report) Refused) → unsaid (said a) ≡ by_number a
unsaid_said (Err r) = refl
unsaid_said (Ok None) = refl
unsaid_said (Ok (Some r)) = refl

-- two answers of which the same is said are one
pub said_injective : (a b : Result (Option Report) Refused) → said a ≡ said b → a ≡ b
said_injective a b e = by_number_injective a b (sym (unsaid_said a) ∙ ap unsaid e ∙ unsaid_said b)

pub head_is_faulty_unique : (h : Head) (r q : Bool) → r ≡ faulty h → q ≡ faulty h → r ≡ q
head_is_faulty_unique h r q e d = e ∙ sym d

pub feed_open_unique : (nominal rate soc : ℕ) (r q : Feed) → r ≡ opened nominal rate soc → q ≡ opened nominal rate soc → r ≡ q
feed_open_unique nominal rate soc r q e d = e ∙ sym d

pub feed_push_unique : (f : Feed) (s : Sample) (r q : Pushed) → Pushing f s r → Pushing f s q → r ≡ q
feed_push_unique f s r q e d =
    let n : ◌≡◌ {A = Next} (record { answer = said r.answer; feed = r.feed }) (record { answer = said q.answer; feed = q.feed }) = e ∙ sym d in
    let a : r.answer ≡ q.answer = said_injective r.answer q.answer (ap (λ (x : Next). x.answer) n) in
    λ i. record { feed = (n i).feed; answer = a i }

pub feed_worked_out_unique : (f r q : Feed) → r ≡ worked_out f → q ≡ worked_out f → r ≡ q
feed_worked_out_unique f r q e d = e ∙ sym d

pub sample_of_unique : (bytes : List ℕ) (r q : Sample) → r ≡ sample_of bytes → q ≡ sample_of bytes → r ≡ q
sample_of_unique bytes r q e d = e ∙ sym d

pub place_of_unique : (s : Sample) (r q : List ℕ) → r ≡ place_of s → q ≡ place_of s → r ≡ q
place_of_unique s r q e d = e ∙ sym d
