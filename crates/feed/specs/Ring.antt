-- Document 01, "The bank", with CR 6: a feed as its slot keeps it, and what opening and pushing do to it.
use Rattle.std.specs.Prelude.{◌≡◌, Bool, cond, not, ◌&&◌, ◌||◌, List, [], ◌∷◌, ◌++◌, ℕ, ◌+◌, ◌-◌, ◌*◌, ltb, eqb, length, take, drop}
use Rattle.model.specs.declared.filter.Sample.{Sample}
use Rattle.refusals.specs.Refusals.{Refusal, unless_refused}
use Rattle.feed.specs.declared.Head.{Head}
use Rattle.feed.specs.declared.Feed.{Feed}
use Rattle.feed.specs.declared.Pushed.{Pushed}
use Rattle.sampling.specs.Tags.{served_nominal, served_rate, kept_rate}
use Rattle.sampling.specs.Sampling.{sampling_of}
use Rattle.feed.specs.Answers.{Said, refused, said}
use Rattle.feed.specs.History.{History, last_index, end_of_time}
use Rattle.feed.specs.Kept.{phase_back, phases_of, zero_phases, moved_on, answered_from}
use Rattle.feed.specs.Places.{zeros, samples_of, with_place}

-- ---- the numbers

-- an unserved nominal or rate (a kept 0 included)
unfoldable pub unserved : Head → Bool
unserved h = not (served_nominal h.nominal) || not (served_rate h.nominal h.rate)

-- fewer than 31 held where place or index differs from held
unfoldable pub uneven : Head → Bool
uneven h = ltb h.held 31 && (not (eqb h.place h.held) || not (eqb h.index h.held))

-- 31 held with SOC 0 and index under 31
unfoldable pub early : Head → Bool
early h = eqb h.held 31 && (eqb h.soc 0 && ltb h.index 31)

-- faulty numbers: these three, index not below the sampling, held over 31, place over 30
unfoldable pub faulty : Head → Bool
faulty h = unserved h || not (ltb h.index (sampling_of h.nominal)) || ltb 31 h.held || ltb 30 h.place || uneven h || early h

-- the number of the next sample, from index 0 of SOC 0
abbrev pub next_number_of : Head → ℕ
next_number_of h = h.soc * sampling_of h.nominal + h.index

-- ---- opening

-- Opening sets the nominal, the kept rate, the SOC, index 0, none held, place 0, all places zero; it sets the three phases to zero (CR 6);
-- an unserved nominal or rate makes the numbers faulty
unfoldable pub opened : ℕ → ℕ → ℕ → Feed
opened nominal rate soc = record {
  head = record { nominal = nominal; rate = kept_rate nominal rate; held = 0; soc = soc; index = 0; place = 0 };
  places = zeros 186;
  kept = zero_phases;
}

-- ---- pushing

-- one more held, to 31; the next sample stands one index on, or at the next second's index 0; the next place moves on one, 30 to 0
unfoldable pub next_head : Head → Head
next_head h = record {
  nominal = h.nominal;
  rate = h.rate;
  held = cond (ltb h.held 31) (h.held + 1) h.held;
  soc = cond (last_index h.nominal h.index) (h.soc + 1) h.soc;
  index = cond (last_index h.nominal h.index) 0 (h.index + 1);
  place = cond (eqb h.place 30) 0 (h.place + 1);
}

-- a list read round from a place: the samples of the places from the next one on, where all are filled, are then the oldest first
abbrev pub oldest_first : {S : Type 0} → ℕ → List S → List S
oldest_first place l = drop place l ++ take place l

-- the last n
abbrev pub last_of : {S : Type 0} → ℕ → List S → List S
last_of n l = drop (length l - n) l

-- the samples that a feed holds, as a history: read round from the next place the newest is last, so those held are the last ones
unfoldable pub history_of : Feed → History
history_of f = record {
  nominal = f.head.nominal;
  rate = f.head.rate;
  first = next_number_of f.head - f.head.held;
  samples = last_of f.head.held (oldest_first f.head.place (samples_of 31 f.places));
}

-- A sample goes in the next place, which then moves on one
abbrev pub placed : Feed → Sample → Feed
placed f s = record { head = next_head f.head; places = with_place f.places f.head.place s; kept = f.kept }

-- and the three phases move on by one place: the newest centre's comes last, of the samples then held (CR 6)
unfoldable pub stored : Feed → Sample → Feed
stored f s =
    let next : Feed = placed f s in
    record { head = next.head; places = next.places; kept = moved_on f.kept (phase_back (history_of next) 0) }

-- 3: slot damaged, as far as its numbers show it; stray bytes are the bank's to find
abbrev pub faulty_head : Head → Refusal
faulty_head h = record { number = 3; due = faulty h }

-- 8: SOC 4294967295 and the next sample is the last index of the second
abbrev pub end_of_time_of : Head → Refusal
end_of_time_of h = end_of_time h.nominal h.soc h.index

-- a feed by itself: 3, 8
abbrev pub feed_refusals : Head → List Refusal
feed_refusals h = faulty_head h ∷ end_of_time_of h ∷ []

-- an answer, and the next feed
pub record Next : Type 0 where
  pub answer : Said
  pub feed : Feed

-- one sample: refused, and then the feed stays; else it is stored, and answered of the samples and the phases that the feed then holds
unfoldable pub pushed : Feed → Sample → Next
pushed f s =
    unless_refused (feed_refusals f.head)
    (λ n. record { answer = refused n; feed = f })
    (record { answer = answered_from (history_of (stored f s)) (stored f s).kept; feed = stored f s })

-- what `Feed::push` promises
abbrev pub Pushing : Feed → Sample → Pushed → Type 0
Pushing f s r = record { answer = said r.answer; feed = r.feed } ≡ pushed f s

-- ---- CR 6: true phases

-- kept phases are true of a feed when they are those that the rule gives for the samples held
abbrev pub True : Feed → Type 0
True f = f.kept ≡ phases_of (history_of f)

-- the feed with its phases worked out from the samples that it holds; one with faulty numbers stays
unfoldable pub worked_out : Feed → Feed
worked_out f = cond (faulty f.head) f (record { head = f.head; places = f.places; kept = phases_of (history_of f) })
