-- A call that goes on from place to place: places follow one another, a byte or a sample goes on, and at the end the call leaves what it promises. Assumes nothing.
use Rattle.std.proofs.Common.{◌≡◌, ℕ, ◌+◌, ◌-◌, ◌<◌, ◌≤◌, Bool, true, false, ◌&&◌, eqb, leb, List, [], ◌++◌, length, get_or, take, drop, sym, refl, ap, ◌∙◌, subst, ap₂, append-nil, append_assoc, ltb, le_refl, add-zero, zero-add, arith, lit≤, length-append, length-drop, take-append-drop, drop_of_length-le, length-take-le, drop-drop, take_at, drop_at, eqb-true, leb-true, leb-false, ltb-false}
use Rattle.bank.proofs.Blank.{both_true}
use lib.Seq.{sets, sets-eq, length-sets, take-append-add, drop-append-add}
use Rattle.std.proofs.lemmas.List.{drop_all, take_rest, drop-append-le}
use borrow.Rule.Slice.PartMut.{put_mid}
use Rattle.std.specs.Array.{IsFirstChunk}
use Rattle.text.specs.Put.{Leads, Wrote}
use Rattle.model.specs.declared.filter.Sample.{Sample}
use Rattle.feed.specs.Places.{sample_of}
use Rattle.bank.specs.Calls.{pushed_at}
use Rattle.phs.specs.declared.Stage.{Stage}
use Rattle.phs.specs.declared.Stage.TheVariants.{InHeader, InSamples, Over}
use Rattle.phs.specs.declared.byte.Step.{Step}
use Rattle.phs.specs.declared.Reader.{Reader}
use Rattle.phs.specs.Lines.{line_room}
use Rattle.phs.specs.Stream.{Left, reader_at, sampled, after_byte, Fed, unread, onto, fed, outcome, Reading}
use Rattle.phs.specs.Inside.{Steps, begins_in, Place, whole_from, Onward}
use Rattle.phs.proofs.Counts.{clash}
use Rattle.phs.proofs.Room.{onto_onto, Takes, takes_byte, takes_sample, six_first, no_room, none_left}

pub onward_self : (part : List ℕ) (p : Place) → p.read ≤ length part → p.written ≤ length p.out → Onward part p p
onward_self part p l m = record {
  same = refl;
  long = refl;
  further = le_refl p.read;
  within = l;
  grown = le_refl p.written;
  fits = m;
  beyond = refl;
}

pub onward_then : {part : List ℕ} {p q s : Place} → Onward part p q → Onward part q s → Onward part p s
onward_then {part} {p} {q} {s} a b =
    let d : ℕ = s.written - q.written in
    let e : q.written + d ≡ s.written = omega (arith, b.grown) in
    record {
      same = b.same ∙ a.same;
      long = b.long ∙ a.long;
      further = omega (arith, a.further, b.further);
      within = b.within;
      grown = omega (arith, a.grown, b.grown);
      fits = b.fits;
      beyond = b.beyond
          ∙ ap (λ (n : ℕ). drop n q.out) (sym e) ∙ sym (drop-drop d q.written q.out)
          ∙ ap (drop d) a.beyond
          ∙ drop-drop d q.written p.out ∙ ap (λ (n : ℕ). drop n p.out) e;
    }

-- a call begins at the start
at_start : (part out : List ℕ) (r : Reader) (bank : List ℕ) → onto 0 [] (fed (length out - 0) r bank part) ≡ fed (length out) r bank part
at_start part out r bank =
    let f : Fed = fed (length out) r bank part in
    ap (λ (k : ℕ). onto 0 [] (fed k r bank part)) (less (length out))
    ∙ (λ x. record { reader = f.reader; bank = f.bank; read = zero-add f.read x; text = f.text })
  where
    less : (n : ℕ) → n - 0 ≡ n
    less n = omega arith

-- a call on what follows a place goes on from there
module _ (part : List ℕ) {r q : Reader} {bank bank' : List ℕ} (out : List ℕ) {new : List ℕ} (i at : ℕ) {j k : ℕ} (l : i ≤ length part) (m : at ≤ length out)
    (on : Onward (take (length part - i) (drop i part)) (record { reader = r; bank = bank; out = take (length out - at) (drop at out); read = 0; written = 0 })
    (record { reader = q; bank = bank'; out = new; read = j; written = k })) where
  onward_rest : Onward (drop i part) (record { reader = r; bank = bank; out = take (length out - at) (drop at out); read = 0; written = 0 })
      (record { reader = q; bank = bank'; out = new; read = j; written = k })
  onward_rest = subst (λ (p : List ℕ). Onward p (record { reader = r; bank = bank; out = take (length out - at) (drop at out); read = 0; written = 0 })
      (record { reader = q; bank = bank'; out = new; read = j; written = k })) (take_rest part i) on

  rest_is : take (length out - at) (drop at out) ≡ drop at out
  rest_is = take_rest out at

  front_is : length (take at out) ≡ at
  front_is = length-take-le at out m

  out_is_both : put_mid at (length out - at) out new ≡ take at out ++ new
  out_is_both = rw (drop_all (length out - at) (drop at out) (omega (arith, length-drop at out)), append-nil new)

  same_length : length new ≡ length out - at
  same_length = omega (arith, onward_rest.long, ap length rest_is, length-drop at out)

  out_length : length (put_mid at (length out - at) out new) ≡ length out
  out_length = omega (arith, ap length out_is_both, length-append (take at out) new, front_is, same_length)

  pub onward_from : Onward part (record { reader = r; bank = bank; out = out; read = i; written = at })
      (record { reader = q; bank = bank'; out = put_mid at (length out - at) out new; read = i + j; written = at + k })
  unfolding whole_from
  onward_from =
      let text : take (at + k) (put_mid at (length out - at) out new) ≡ take at out ++ take k new =
      ap (take (at + k)) out_is_both ∙ ap (λ (n : ℕ). take (n + k) (take at out ++ new)) (sym front_is) ∙ take-append-add (take at out) new k in
      let left : length (put_mid at (length out - at) out new) - (at + k) ≡ length new - k = omega (arith, out_length, same_length, onward_rest.fits) in
      record {
        same =
            (λ x. onto (i + j) (text x) (fed (left x) q bank' (sym (drop-drop j i part) x)))
            ∙ sym (onto_onto i j (take at out) (take k new) (fed (length new - k) q bank' (drop j (drop i part))))
            ∙ ap (onto i (take at out))
            (onward_rest.same ∙ at_start (drop i part) (take (length out - at) (drop at out)) r bank
            ∙ ap (λ (n : ℕ). fed n r bank (drop i part)) (omega (arith, ap length rest_is, length-drop at out)));
        long = out_length;
        further = omega arith;
        within = omega (arith, onward_rest.within, length-drop i part);
        grown = omega arith;
        fits = omega (arith, out_length, same_length, onward_rest.fits);
        beyond =
            ap (drop (at + k)) out_is_both ∙ ap (λ (n : ℕ). drop (n + k) (take at out ++ new)) (sym front_is) ∙ drop-append-add (take at out) new k
            ∙ onward_rest.beyond ∙ ap (drop k) rest_is ∙ drop-drop k at out;
      }

-- ---- text that is written at a place

module _ {text out out' : List ℕ} {at end : ℕ} (w : Wrote line_room text out at end out') (room : at + line_room ≤ length out) where
  fit : at + length text ≤ length out
  fit = omega (arith, w.short)

  bytes_are : out' ≡ (take at out ++ text) ++ drop end out
  bytes_are =
      w.bytes ∙ sets-eq text out at fit ∙ ap (λ (n : ℕ). (take at out ++ text) ++ drop n out) (sym w.ends)

  front : length (take at out ++ text) ≡ end
  front = length-append (take at out) text ∙ ap (λ (n : ℕ). n + length text) (length-take-le at out (omega arith)) ∙ sym w.ends

  pub text_written : take end out' ≡ take at out ++ text
  text_written = ap (take end) bytes_are ∙ take_at (take at out ++ text) (drop end out) end front

  pub rest_kept : drop end out' ≡ drop end out
  rest_kept = ap (drop end) bytes_are ∙ drop_at (take at out ++ text) (drop end out) end front

  pub length_same : length out' ≡ length out
  length_same = ap length w.bytes ∙ length-sets out at text

  pub written_fits : end ≤ length out'
  written_fits = omega (arith, w.ends, w.short, length_same)

-- a line that is written in its room, from a place on
pub wrote_in : {text line' : List ℕ} {r : ℕ} (out : List ℕ) (at : ℕ) → at + line_room ≤ length out → Leads line_room text (take line_room (drop at out)) r line'
    → Wrote line_room text out at (at + r) (take at out ++ (line' ++ drop line_room (drop at out)))
wrote_in {text} {line'} {r} out at room w =
    let d : List ℕ = drop at out in
    let long : line_room ≤ length d = omega (arith, length-drop at out) in
    let end : at + r ≡ at + length text = omega (arith, w.ends) in
    let rest : drop r (take line_room d) ++ drop line_room d ≡ drop (at + length text) out =
    sym (drop-append-le r (take line_room d) (drop line_room d) (omega (arith, w.short, length-take-le line_room d long)))
    ∙ ap (drop r) (take-append-drop line_room d)
    ∙ drop-drop r at out ∙ ap (λ (n : ℕ). drop n out) end in
    record {
      ends = end;
      bytes =
          ap (λ (l : List ℕ). take at out ++ (l ++ drop line_room d)) w.bytes
          ∙ ap (λ (l : List ℕ). take at out ++ l) (append_assoc text (drop r (take line_room d)) (drop line_room d) ∙ ap (λ (l : List ℕ). text ++ l) rest)
          ∙ sym (append_assoc (take at out) text (drop (at + length text) out))
          ∙ sym (sets-eq text out at (omega (arith, w.ends, w.short)));
      short = omega (arith, w.ends, w.short);
    }

-- and from the start on
pub wrote_first : {text line line' : List ℕ} {r : ℕ} (out : List ℕ) → IsFirstChunk out line line_room → Leads line_room text line r line'
    → Wrote line_room text out 0 r (line' ++ drop line_room out)
wrote_first {text} {line} {line'} {r} out line_is w =
    subst (λ (n : ℕ). Wrote line_room text out 0 n (line' ++ drop line_room out)) (zero-add r)
    (wrote_in out 0 (omega (arith, line_is.enough)) (subst (λ (x : List ℕ). Leads line_room text x r line') line_is.same w))

-- ---- some bytes more

pub onward_by : {part : List ℕ} {r q : Reader} {bank bank' out out' : List ℕ} {i at end : ℕ} (n : Left) (more : ℕ)
    → Takes r bank (drop i part) more n → i + more ≤ length part → at + line_room ≤ length out
    → q ≡ n.reader → bank' ≡ n.bank → Wrote line_room n.text out at end out'
    → Onward part
    (record { reader = r; bank = bank; out = out; read = i; written = at })
    (record { reader = q; bank = bank'; out = out'; read = i + more; written = end })
unfolding whole_from
onward_by {part} {r} {q} {bank} {bank'} {out} {out'} {i} {at} {end} n more t l room eq eb w =
    let left : length out - at - length n.text ≡ length out - end = omega (arith, w.ends) in
    let rest : Fed = fed (length out - end) n.reader n.bank (drop (i + more) part) in
    record {
      same = sym (
          ap (onto i (take at out)) (t (length out - at) (omega arith))
          ∙ onto_onto i more (take at out) n.text _
          ∙ ap₂ (λ (k : ℕ) (x : List ℕ). onto (i + more) (take at out ++ n.text) (fed k n.reader n.bank x)) left (drop-drop more i part)
          ∙ ap (λ (x : List ℕ). onto (i + more) x rest) (sym (text_written w room))
          ∙ (λ x. onto (i + more) (take end out') (fed (sym (length_same w room) x - end) (sym eq x) (sym eb x) (drop (i + more) part)))
          );
      long = length_same w room;
      further = omega arith;
      within = l;
      grown = omega (arith, w.ends);
      fits = written_fits w room;
      beyond = rest_kept w room;
    }

-- where a sample begins that is whole in what is left
pub record Beginning (r : Reader) (left : ℕ) : Type 0 where
  pub in_samples : r.stage ≡ InSamples
  pub none_held : r.held ≡ 0
  pub is_whole : 6 ≤ left

pub begins_is : (r : Reader) (left : ℕ) → begins_in r.stage r left ≡ true → Beginning r left
begins_is r left e = go r.stage refl e
  where
    go : (s : Stage) → r.stage ≡ s → begins_in s r left ≡ true → Beginning r left
    go InHeader q t = absurd (clash (sym t))
    go InSamples q t =
        let both = both_true (eqb r.held 0) (leb 6 left) t in
        record { in_samples = q; none_held = eqb-true r.held 0 both.0; is_whole = leb-true 6 left both.1 }
    go Over q t = absurd (clash (sym t))

-- a sample that begins here, its line written in its room
pub onward_sample : {part : List ℕ} (r : Reader) {bank bank' front rest line line' six : List ℕ} (out : List ℕ) (i at : ℕ) {s : Sample} {q : Step}
    → r.stage ≡ InSamples → r.held ≡ 0 → 6 ≤ length r.kept → i ≤ length part → IsFirstChunk (take (length part - i) (drop i part)) six 6 → s ≡ sample_of six
    → at ≤ length out → (front ≡ take at out) × (rest ≡ drop at out) → IsFirstChunk rest line line_room
    → Steps (sampled r.reports r.samples (pushed_at bank 0 s)) line q bank' line'
    → Onward part
    (record { reader = r; bank = bank; out = out; read = i; written = at })
    (record { reader = q.reader; bank = bank'; out = front ++ (line' ++ drop line_room rest); read = i + 6; written = at + q.written })
onward_sample {part} r {bank} {bank'} {front} {rest} {line} {line'} {six} out i at {s} {q} e h k l six_is s_is m parts line_is w =
    let n : Left = sampled r.reports r.samples (pushed_at bank 0 s) in
    let here : take (length part - i) (drop i part) ≡ drop i part = take_rest part i in
    let left : 6 ≤ length (drop i part) = omega (arith, six_is.enough, ap length here) in
    let room : at + line_room ≤ length out = omega (arith, line_is.enough, ap length parts.1, length-drop at out) in
    let sample : s ≡ sample_of (drop i part) = s_is ∙ ap sample_of (six_is.same ∙ ap (take 6) here) ∙ six_first (drop i part) in
    let text : Leads line_room n.text (take line_room (drop at out)) q.written line' =
    subst (λ (x : List ℕ). Leads line_room n.text x q.written line') (line_is.same ∙ ap (take line_room) parts.1) w.text in
    subst (λ (o : List ℕ). Onward part (record { reader = r; bank = bank; out = out; read = i; written = at })
    (record { reader = q.reader; bank = bank'; out = o; read = i + 6; written = at + q.written }))
    (λ x. sym parts.0 x ++ (line' ++ drop line_room (sym parts.1 x)))
    (onward_by n 6 (subst (λ (x : Sample). Takes r bank (drop i part) 6 (sampled r.reports r.samples (pushed_at bank 0 x))) (sym sample) (takes_sample r bank (drop i part) e h k left))
    (omega (arith, length-drop i part)) room w.reader w.bank (wrote_in out at room text))

-- bytes that are kept of no sample don't count where a sample begins
pub onward_fresh : {part : List ℕ} (r : Reader) {bank out : List ℕ} {i at : ℕ}
    → r.stage ≡ InSamples → r.held ≡ 0 → 6 ≤ length r.kept → 6 ≤ length part - i → at + line_room ≤ length out
    → Onward part
    (record { reader = r; bank = bank; out = out; read = i; written = at })
    (record { reader = reader_at InSamples r.reports r.samples; bank = bank; out = out; read = i; written = at })
unfolding whole_from
onward_fresh {part} r {bank} {out} {i} {at} p q k l room =
    let left : 6 ≤ length (drop i part) = omega (arith, length-drop i part) in
    let fresh : Reader = reader_at InSamples r.reports r.samples in
    record {
      same = ap (onto i (take at out))
          (takes_sample fresh bank (drop i part) refl refl (lit≤ tt) left (length out - at) (omega arith)
          ∙ sym (takes_sample r bank (drop i part) p q k left (length out - at) (omega arith)));
      long = refl;
      further = le_refl i;
      within = omega arith;
      grown = le_refl at;
      fits = omega arith;
      beyond = refl;
    }

-- the first byte
pub onward_byte : {part : List ℕ} (r : Reader) {bank bank' line line' : List ℕ} (out : List ℕ) {s : Step}
    → 0 < length part → IsFirstChunk out line line_room → Steps (after_byte r bank (get_or part 0 0)) line s bank' line'
    → Onward part
    (record { reader = r; bank = bank; out = out; read = 0; written = 0 })
    (record { reader = s.reader; bank = bank'; out = line' ++ drop line_room out; read = 1; written = s.written })
onward_byte {part} r {bank} out l line_is w =
    onward_by (after_byte r bank (get_or part 0 0)) 1 (takes_byte r bank part l) l line_is.enough w.reader w.bank (wrote_first out line_is w.text)

-- ---- the end of a call

module _ {part : List ℕ} {r q : Reader} {bank bank' out out' : List ℕ} {i at : ℕ}
    (o : Onward part (record { reader = r; bank = bank; out = out; read = 0; written = 0 }) (record { reader = q; bank = bank'; out = out'; read = i; written = at }))
    (stopped : fed (length out' - at) q bank' (drop i part) ≡ unread q bank') where
  whole_is : fed (length out) r bank part ≡ record { reader = q; bank = bank'; read = i; text = take at out' }
  unfolding whole_from
  whole_is =
      sym (at_start part out r bank) ∙ sym o.same ∙ ap (onto i (take at out')) stopped
      ∙ (λ x. record { reader = q; bank = bank'; read = add-zero i x; text = append-nil (take at out') x })

  text_length : length (take at out') ≡ at
  text_length = length-take-le at out' o.fits

  out_is : out' ≡ sets out 0 (take at out')
  out_is =
      sym (
      sets-eq (take at out') out 0 (omega (arith, text_length, o.fits, o.long))
      ∙ ap (λ (n : ℕ). take at out' ++ drop n out) (zero-add (length (take at out')) ∙ text_length)
      ∙ ap (λ (l : List ℕ). take at out' ++ l) (sym o.beyond)
      ∙ take-append-drop at out'
      )

  pub call_ends : Reading r bank part out (record { reader = q; read = i; written = at }) bank' out'
  unfolding outcome
  call_ends = record {
    ends =
        (λ x. record { moved = record { reader = q; read = i; written = sym text_length x }; bank = bank'; out = out_is x })
        ∙ sym (ap (λ (f : Fed). outcome f out) whole_is);
    fits = omega (arith, o.fits, o.long);
  }

-- a call ends where the part is read, or where a line has no room
pub call_stops : {part : List ℕ} {r q : Reader} {bank bank' out out' : List ℕ} {i at : ℕ}
    → Onward part (record { reader = r; bank = bank; out = out; read = 0; written = 0 }) (record { reader = q; bank = bank'; out = out'; read = i; written = at })
    → ltb i (length part) && leb line_room (length out' - at) ≡ false → Reading r bank part out (record { reader = q; read = i; written = at }) bank' out'
call_stops {part} {r} {q} {bank} {bank'} {out} {out'} {i} {at} w e = by (ltb i (length part)) refl e
  where
    by : (t : Bool) → ltb i (length part) ≡ t → t && leb line_room (length out' - at) ≡ false
        → Reading r bank part out (record { reader = q; read = i; written = at }) bank' out'
    by true l f = call_ends w (no_room (length out' - at) q bank' (drop i part) (leb-false _ _ f))
    by false l f = call_ends w (ap (fed (length out' - at) q bank') (drop_of_length-le part (ltb-false _ _ l)) ∙ none_left (length out' - at) q bank')
