-- Condition D holds: what is sent passes every test, and what has passed them all was sent. Assumes nothing.
use mathlib.Core.Path.{◌≡◌, refl, sym, ap, ap₂, ◌∙◌, subst}
use mathlib.Core.Bool.{Bool, true, false, not, ◌||◌}
use mathlib.Core.List.{List}
use Prim.Native.Nat.{ℕ, ◌+◌, ◌*◌, ◌/◌, ◌^◌, ◌≤◌, ◌<◌}
use native.Mathlib.Nat.{div-eq_of_lt}
use native.Mathlib.Omega.{arith}
use borrow.Author.Tests.{eq-eqb, ne_eqb, eqb-true, eqb-false, lt-ltb, le-ltb, ltb-true, ltb-false, not-false}
use lib.Arith.{digits_mod}
use lib.Dec.{eqb}
use lib.IntN.{pos}
use lib.ListN.{length, get_or, set, take}
use lib.Seq.{get_or-set_same, get_or-set_other, take-set-le, take-set-lt, get_or-take, length-take-le}
use Rattle.bits.specs.Bits.{be16, signed_in}
use Rattle.bits.proofs.Bytes.{word_back, long_back, number_back}
use Rattle.sampling.specs.Tags.{served_rate}
use Rattle.ints.proofs.Cases.{both_true}
use Rattle.feed.proofs.Sound.{neither}
use Rattle.bank.proofs.Blank.{both_true as both_of}
use Rattle.refusals.specs.Refusals.{unless_refused}
use Rattle.verdict.specs.declared.errors.Device.{Device}
use Rattle.verdict.proofs.Unique.{judge_unique}
use Rattle.verdict.specs.Judging.{Judging}
use Rattle.frames.specs.declared.bench.Configured.{Configured}
use Rattle.frames.specs.declared.bench.Tag.{Tag}
use Rattle.frames.specs.Checksum.{checksum, divided, after_byte}
use Rattle.frames.specs.Fields.{soc_in, low24, fracsec_in, stat_in, top_bits_set, figure_at, device_in, sent_checksum, before_checksum}
use Rattle.frames.specs.Tags.{apart, agrees}
use Rattle.frames.specs.Reading.{Said, refused, figures, reading, read_refusals, figures_in}
use Rattle.frames.proofs.Apart.{apart_lt, lt_apart}
use Rattle.frames.proofs.OneByte.{checksum_tells}
use Rattle.phs.specs.Cut.{Bytes}
use Rattle.phs.proofs.Flow.{bytes_take}
use Rattle.acceptance.specs.ConditionD.{Sent, frame_of, bytes_before, figures_of, Expected, Accepted, FromDevice, ConditionD}
use Rattle.acceptance.proofs.SentBack.{sent_in, is_sent}
use Rattle.acceptance.proofs.Refusing.{NoneDue, Through, met, passed, through, given, granted}

-- ---- what is accepted has passed every test

record Passed (frame : List ℕ) (configured : Configured) (tag : Tag) (said_of_it : Said) : Type 0 where
  none_due : NoneDue (read_refusals frame configured tag)
  says : figures_in frame ≡ said_of_it

passes : {frame : List ℕ} {configured : Configured} {tag : Tag} (a : Accepted frame configured tag)
    → Passed frame configured tag (figures a.device a.quality)
unfolding reading
passes {frame} {configured} {tag} a = go (through (read_refusals frame configured tag))
  where
    answered : unless_refused (read_refusals frame configured tag) refused (figures_in frame) ≡ figures a.device a.quality
    answered = sym a.promised ∙ a.says

    go : Through (read_refusals frame configured tag) → Passed frame configured tag (figures a.device a.quality)
    go (met n f) =
        let other : refused n ≡ figures a.device a.quality = sym (given refused (figures_in frame) f) ∙ answered in
        cc
    go (passed p) = record { none_due = p; says = sym (granted refused (figures_in frame) (read_refusals frame configured tag) p) ∙ answered }

-- a field that has passed is what it should be
is : {field due : ℕ} → not (eqb field due) ≡ false → field ≡ due
is e = eqb-true _ _ (not-false _ e)

-- ---- the tag's sentence

agreeing : (s : Sent) {configured : Configured} {tag : Tag} → Expected s configured tag → agrees s.soc s.fracsec configured tag ≡ true
unfolding agrees
agreeing s {configured} {tag} e =
    both_true _ _ (eq-eqb _ _ e.soc) (lt-ltb _ _ (apart_lt (s.fracsec * configured.rate) (tag.frame * configured.time_base) _ e.not_late e.not_early))

-- ---- whatever a device sends is read

or_false : {a b : Bool} → a ≡ false → b ≡ false → (a || b) ≡ false
or_false p q = ap₂ (λ (x y : Bool). x || y) p q

-- FRACSEC's 32 bits: the time quality, and the low 24
module _ (s : Sent) where
  abbrev fraction : ℕ
  fraction = s.quality * 2 ^ 24 + s.fracsec

  high_byte : fraction / 16777216 ≡ s.quality
  high_byte = omega (arith, s.fracsec_range)

  -- each field of the frame is what was sent
  soc_sent : soc_in (frame_of s) ≡ s.soc
  soc_sent = long_back s.soc

  fracsec_sent : fracsec_in (frame_of s) ≡ s.fracsec
  fracsec_sent = ap low24 (long_back fraction) ∙ digits_mod s.quality s.fracsec_range

  figures_sent : figures_in (frame_of s) ≡ figures (figures_of s) s.quality
  unfolding device_in figure_at
  figures_sent i =
      figures
      (record {
        re = number_back s.re.number s.re.range i;
        im = number_back s.im.number s.im.range i;
        deviation = number_back s.freq.number s.freq.range i;
        rocof = number_back s.dfreq.number s.dfreq.range i;
      })
      (high_byte i)

  module _ (configured : Configured) (tag : Tag) (e : Expected s configured tag) where
    none_refused : NoneDue (read_refusals (frame_of s) configured tag)
    none_refused =
        let base = or_false (ne_eqb configured.time_base 0 (λ z. omega (arith, e.time_base_from, z))) (le-ltb 16777215 _ e.time_base_to) in
        let checked = ap not (eq-eqb _ _ (word_back (checksum (bytes_before s)))) in
        let named = ap not (eq-eqb _ _ (word_back s.id ∙ e.id)) in
        let stat = ap top_bits_set (word_back s.stat) ∙ ap not (eq-eqb _ _ (div-eq_of_lt s.stat_range)) in
        let tagged = ap not (ap₂ (λ (m n : ℕ). agrees m n configured tag) soc_sent fracsec_sent ∙ agreeing s e) in
        (ap not e.nominal, (ap not e.rate, (base, (refl, (refl, (refl, (checked, (named, (stat, (tagged, tt))))))))))

-- ---- what is accepted was sent

-- what an accepted frame has of length and of checksum
record Sealed (frame : List ℕ) : Type 0 where
  whole : length frame ≡ 26
  checked : sent_checksum frame ≡ checksum (before_checksum frame)

sealed : {frame : List ℕ} {configured : Configured} {tag : Tag} → Accepted frame configured tag → Sealed frame
sealed a =
    let due = (passes a).none_due in
    record { whole = is due.1.1.1.0; checked = is due.1.1.1.1.1.1.0 }

below_top : (stat : ℕ) → top_bits_set stat ≡ false → stat < 2 ^ 14
below_top stat e = let none : stat / 16384 ≡ 0 = is e in omega (arith, none)

from_1 : {n : ℕ} → (n ≡ 0 → ⊥) → 1 ≤ n
from_1 h = omega (arith, h)

abbrev device_of : Said → Device
device_of (refused n) = record { re = pos 0; im = pos 0; deviation = pos 0; rocof = pos 0 }
device_of (figures d q) = d

device_in_lem : {frame : List ℕ} {configured : Configured} {tag : Tag} (a : Accepted frame configured tag) → a.device ≡ device_in frame
device_in_lem a = sym (ap device_of (passes a).says)

abbrev quality_of : Said → ℕ
quality_of (refused n) = 0
quality_of (figures d q) = q

sent_to : {frame : List ℕ} {configured : Configured} {tag : Tag} (bytes : Bytes frame) (a : Accepted frame configured tag)
    → FromDevice frame configured tag a.device a.quality
unfolding agrees figure_at device_in
sent_to {frame} {configured} {tag} bytes a =
    let due = (passes a).none_due in
    let base = neither _ _ due.1.1.0 in
    let stat : stat_in frame < 2 ^ 14 = below_top (stat_in frame) due.1.1.1.1.1.1.1.1.0 in
    let parts = both_of _ _ (not-false _ due.1.1.1.1.1.1.1.1.1.0) in
    let near = lt_apart (fracsec_in frame * configured.rate) (tag.frame * configured.time_base) _ (ltb-true _ _ parts.1) in
    record {
      sent = sent_in frame bytes stat;
      bytes = is_sent frame bytes (sealed a).whole (is due.1.1.1.1.0) (is due.1.1.1.1.1.0) stat (sealed a).checked;
      expected = record {
        nominal = not-false _ due.0;
        rate = not-false _ due.1.0;
        time_base_from = from_1 (eqb-false _ _ base.0);
        time_base_to = ltb-false _ _ base.1;
        id = is due.1.1.1.1.1.1.1.0;
        soc = eqb-true _ _ parts.0;
        not_late = near.0;
        not_early = near.1;
      };
      same_figures = device_in_lem a;
      same_quality = sym (ap quality_of (passes a).says);
    }

-- ---- one byte off

-- one byte of a sealed frame is told by the others
module _ (frame : List ℕ) (f : Sealed frame) (b : ℕ) where
  -- a byte of the checksum: what is before it stays, and so does its sum
  stays : (k : ℕ) → 24 ≤ k → Sealed (set frame k b) → sent_checksum (set frame k b) ≡ sent_checksum frame
  stays k l g = g.checked ∙ ap checksum (take-set-le 24 frame k b l) ∙ sym f.checked

  told_24 : Sealed (set frame 24 b) → b ≡ get_or frame 24 0
  told_24 g =
      omega (arith, stays 24 (omega arith) g, get_or-set_same frame 24 b 0 (omega (arith, f.whole)), get_or-set_other frame 24 25 b 0 (λ z. omega (arith, z)))

  told_25 : Sealed (set frame 25 b) → b ≡ get_or frame 25 0
  told_25 g =
      omega (arith, stays 25 (omega arith) g, get_or-set_same frame 25 b 0 (omega (arith, f.whole)), get_or-set_other frame 25 24 b 0 (λ z. omega (arith, z)))

  -- a byte before it: the checksum that is sent stays, and tells
  told_before : (k : ℕ) → k < 24 → Bytes frame → b < 256 → Sealed (set frame k b) → b ≡ get_or frame k 0
  told_before k h p q g =
      let high = get_or-set_other frame k 24 b 0 (λ z. omega (arith, h, z)) in
      let low = get_or-set_other frame k 25 b 0 (λ z. omega (arith, h, z)) in
      let l : length (take 24 frame) ≡ 24 = length-take-le 24 frame (omega (arith, f.whole)) in
      checksum_tells (take 24 frame) (bytes_take 24 frame p) k b (omega (arith, l, h)) q
      (ap checksum (sym (take-set-lt 24 frame k b h)) ∙ sym g.checked ∙ ap₂ be16 high low ∙ f.checked)
      ∙ get_or-take 24 frame k 0 h

  told : (k : ℕ) → k ≤ 25 → Bytes frame → b < 256 → Sealed (set frame k b) → b ≡ get_or frame k 0
  told k h p q g = go (eqb k 24) refl (eqb k 25) refl
    where
      go : (t : Bool) → eqb k 24 ≡ t → (u : Bool) → eqb k 25 ≡ u → b ≡ get_or frame k 0
      go true e u d = subst (λ (j : ℕ). Sealed (set frame j b) → b ≡ get_or frame j 0) (sym (eqb-true k 24 e)) told_24 g
      go false e true d = subst (λ (j : ℕ). Sealed (set frame j b) → b ≡ get_or frame j 0) (sym (eqb-true k 25 d)) told_25 g
      go false e false d = told_before k (omega (arith, h, eqb-false k 24 e, eqb-false k 25 d)) p q g

-- ---- the condition

pub condition_d : ConditionD
unfolding checksum after_byte divided figure_at device_in apart agrees reading served_rate signed_in
condition_d = record {
  check_value = refl;
  one_frame_read = refl;
  rate_0_too = refl;
  checksum_first = refl;
  sent_read = λ s configured tag e r p.
      p ∙ granted refused (figures_in (frame_of s)) (read_refusals (frame_of s) configured tag) (none_refused s configured tag e) ∙ figures_sent s;
  read_sent = λ frame configured tag bytes a. sent_to bytes a;
  typed_or_read = λ frame configured tag read typed t class test m reference r q j k.
      judge_unique class test m read.device reference r q j (subst (λ (d : Device). Judging class test m d reference q) (t ∙ sym (device_in_lem read)) k);
  whole_second = λ soc nominal id. rw (eq-eqb soc soc refl);
  one_byte_off = λ frame configured tag p a k b h q d configured' tag' a'. d (told frame (sealed a) b k h p q (sealed a'));
}
