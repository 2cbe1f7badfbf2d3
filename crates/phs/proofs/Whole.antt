-- However a file is cut, its listing comes out: byte by byte the header opens a feed, each six bytes are a push that answers as the history rule tells, and the counts are those of the answers.
use Rattle.std.proofs.Common.{◌≡◌, ℕ, suc, ◌+◌, ◌%◌, ◌^◌, ◌<◌, ◌≤◌, false, cond, List, [], ◌∷◌, ◌++◌, length, take, drop, sym, refl, ap, ◌∙◌, subst, ap₂, append_assoc, append-nil, add-zero, add_assoc, zero-add, arith, w16, SFits, le-ltb}
use lib.Seq.{sets, sets-eq, take-append_seam}
use mir.Facts.{sfits_to_z}
use Rattle.model.specs.declared.filter.Sample.{Sample}
use Rattle.feed.specs.Answers.{Said, refused, done, taken, taken_with}
use Rattle.feed.specs.History.{History, opening, told}
use Rattle.bits.specs.Bits.{be16, signed16}
use Rattle.feed.specs.Places.{sample_of}
use Rattle.bits.proofs.Reading.{reads_16}
use Rattle.feed.proofs.Stored.{Fits16}
use Rattle.bank.specs.Calls.{Outcome, pushed_at}
use Rattle.phs.specs.declared.Stage.TheVariants.{InSamples, Over}
use Rattle.phs.specs.declared.Reader.{Reader}
use Rattle.header.specs.Header.{headed, opens, Said as HeaderSaid, refused as refused_header}
use Rattle.phs.specs.Lines.{head_line, report_line, last_line, refused_line, line_room}
use Rattle.phs.specs.Listing.{is_refusal, sample_in, report_in, line_of, answers, reports_in, samples_in, ends_refused, lines_of, printed, listed, listing}
use Rattle.phs.specs.Stream.{Left, reader_at, started, keeping, sampled, begun, stage_after, header_byte, sample_byte, after_byte, after, stream, last, last_with, Finishing}
use Rattle.phs.specs.Cut.{Bytes, EveryCut}
use Rattle.phs.proofs.Flow.{bytes_take, cut_stream, cut_bytes}
use Rattle.phs.proofs.Counts.{Within, from_opening, unwrapped, still_within}
use Rattle.phs.proofs.Headers.{Known, is_read, header_known}
use Rattle.phs.proofs.Held.{Holds, opening_is, opening_holds, Answers, push_holds}

-- all that comes: the text, and what is said at the end
abbrev all : Left → List ℕ
all n = n.text ++ last n.reader

-- ---- after a refusal nothing more is said

still : (reports samples : ℕ) (bank l : List ℕ) → stream (reader_at Over reports samples) bank l ≡ record { reader = reader_at Over reports samples; bank = bank; text = [] }
unfolding stream after_byte
still reports samples bank [] = refl
still reports samples bank (b ∷ bs) = ap (after (record { reader = reader_at Over reports samples; bank = bank; text = [] })) (still reports samples bank bs)

silence : (line : List ℕ) (reports samples : ℕ) (bank l : List ℕ) → (line ++ (stream (reader_at Over reports samples) bank l).text) ++ last (stream (reader_at Over reports samples) bank l).reader ≡ line
unfolding last
silence line reports samples bank l =
    ap (λ (m : Left). (line ++ m.text) ++ last m.reader) (still reports samples bank l)
    ∙ append-nil (line ++ []) ∙ append-nil line

-- ---- the samples

-- what is printed of answers after R reports and S samples
abbrev printed_after : (reports samples : ℕ) → List Said → List ℕ
printed_after reports samples rest = lines_of rest ++ cond (ends_refused rest) [] (last_line (reports + reports_in rest) (samples + samples_in rest))

-- the six bytes are signed 16-bit numbers
word_fits : (x y : ℕ) → x < 256 → y < 256 → SFits w16 (signed16 (be16 x y))
word_fits x y p q = let n : be16 x y < 2 ^ 16 = omega arith in subst (SFits w16) (reads_16 (be16 x y) n) (sfits_to_z (record { fits = n }))

six_fit : (a b c d e f : ℕ) (rest : List ℕ) → Bytes (a ∷ b ∷ c ∷ d ∷ e ∷ f ∷ rest) → Fits16 (sample_of (a ∷ b ∷ c ∷ d ∷ e ∷ f ∷ []))
unfolding sample_of
six_fit a b c d e f rest h = record { a_fits = word_fits a b (h 0) (h 1); b_fits = word_fits c d (h 2) (h 3); c_fits = word_fits e f (h 4) (h 5) }

-- an answer that is no refusal, and what comes after it
module _ (line : List ℕ) (r s reports samples : ℕ) (n : Left) (rest : List Said) where
  onward : all n ≡ printed_after (reports + r) (samples + s) rest
      → (line ++ n.text) ++ last n.reader
      ≡ (line ++ lines_of rest) ++ cond (ends_refused rest) [] (last_line (reports + (r + reports_in rest)) (samples + (s + samples_in rest)))
  onward e =
      append_assoc line n.text (last n.reader)
      ∙ ap (λ (t : List ℕ). line ++ t) e
      ∙ ap₂ (λ (x y : ℕ). line ++ (lines_of rest ++ cond (ends_refused rest) [] (last_line x y))) (add_assoc reports r (reports_in rest)) (add_assoc samples s (samples_in rest))
      ∙ sym (append_assoc line (lines_of rest) _)

refusal_printed : (reports samples number : ℕ) → refused_line number ≡ printed_after reports samples (refused number ∷ [])
refusal_printed reports samples number = sym (append-nil (refused_line number ++ []) ∙ append-nil (refused_line number))

-- the counts stay below 2^64, and the rest of the file prints the rest of the answers
record GoesOn (reports samples : ℕ) (bank rest : List ℕ) (more : List Said) : Type 0 where
  reports_fit : reports % 2 ^ 64 ≡ reports
  samples_fit : samples % 2 ^ 64 ≡ samples
  then : all (stream (reader_at InSamples reports samples) bank rest) ≡ printed_after reports samples more

module _ (reports samples : ℕ) (bank rest : List ℕ) (more : List Said) where
  on : (line : List ℕ) (r s : ℕ) → GoesOn (reports + r) (samples + s) bank rest more
      → (line ++ (stream (reader_at InSamples ((reports + r) % 2 ^ 64) ((samples + s) % 2 ^ 64)) bank rest).text)
      ++ last (stream (reader_at InSamples ((reports + r) % 2 ^ 64) ((samples + s) % 2 ^ 64)) bank rest).reader
      ≡ (line ++ lines_of more) ++ cond (ends_refused more) [] (last_line (reports + (r + reports_in more)) (samples + (s + samples_in more)))
  on line r s g =
      ap₂ (λ (i j : ℕ). (line ++ (stream (reader_at InSamples i j) bank rest).text) ++ last (stream (reader_at InSamples i j) bank rest).reader) g.reports_fit g.samples_fit
      ∙ onward line r s reports samples (stream (reader_at InSamples (reports + r) (samples + s)) bank rest) more g.then

  -- a whole sample, by its answer, and what comes after it
  by_answer : (a : Said) → (is_refusal a ≡ false → GoesOn (reports + report_in a) (samples + sample_in a) bank rest more)
      → (let n : Left = sampled reports samples (record { answer = a; bank = bank }) in all (after n (stream n.reader n.bank rest)))
      ≡ printed_after reports samples (a ∷ cond (is_refusal a) [] more)
  unfolding sampled
  by_answer (refused number) g = silence (refused_line number) _ _ bank rest ∙ refusal_printed reports samples number
  by_answer done g = on [] 0 0 (g refl)
  by_answer taken g = on [] 0 1 (g refl)
  by_answer (taken_with soc frame re im d1 d2 mark re_peak im_peak deviation rocof) g = on (report_line soc frame re im d1 d2 mark) 1 1 (g refl)

-- a whole sample of the history, and the rest of the file
module _ (h : History) (s : Sample) (bank : List ℕ) (reports samples : ℕ) (rest : List ℕ) (w : Within h reports samples) (p : Answers (pushed_at bank 0 s) (told h s)) where
  sample_listed : ((bank' : List ℕ) (h' : History) (reports' samples' : ℕ) → Holds bank' h' → Within h' reports' samples'
      → all (stream (reader_at InSamples reports' samples') bank' rest) ≡ printed_after reports' samples' (answers h' rest))
      → (let n : Left = sampled reports samples (pushed_at bank 0 s) in all (after n (stream n.reader n.bank rest)))
      ≡ printed_after reports samples ((told h s).answer ∷ cond (is_refusal (told h s).answer) [] (answers (told h s).history rest))
  sample_listed onwards =
      let a = (told h s).answer in
      let bank' = (pushed_at bank 0 s).bank in
      ap (λ (x : Said). let n : Left = sampled reports samples (record { answer = x; bank = bank' }) in all (after n (stream n.reader n.bank rest))) p.answer_is
      ∙ by_answer reports samples bank' rest (answers (told h s).history rest) a
      (λ e.
      let v = still_within h s reports samples w e in
      let u = unwrapped (told h s).history (reports + report_in a) (samples + sample_in a) v in
      record { reports_fit = u.0; samples_fit = u.1; then = onwards bank' (told h s).history (reports + report_in a) (samples + sample_in a) p.holds v })

samples_listed : (l : List ℕ) → Bytes l → (bank : List ℕ) (h : History) (reports samples : ℕ) → Holds bank h → Within h reports samples
    → all (stream (reader_at InSamples reports samples) bank l) ≡ printed_after reports samples (answers h l)
unfolding stream after_byte sample_byte keeping answers last sample_of
samples_listed [] b bank h reports samples k w = ap₂ last_line (sym (add-zero reports)) (sym (add-zero samples))
samples_listed (x ∷ []) b bank h reports samples k w = refusal_printed reports samples 15
samples_listed (x ∷ x₁ ∷ []) b bank h reports samples k w = refusal_printed reports samples 15
samples_listed (x ∷ x₁ ∷ x₂ ∷ []) b bank h reports samples k w = refusal_printed reports samples 15
samples_listed (x ∷ x₁ ∷ x₂ ∷ x₃ ∷ []) b bank h reports samples k w = refusal_printed reports samples 15
samples_listed (x ∷ x₁ ∷ x₂ ∷ x₃ ∷ x₄ ∷ []) b bank h reports samples k w = refusal_printed reports samples 15
samples_listed (x ∷ x₁ ∷ x₂ ∷ x₃ ∷ x₄ ∷ x₅ ∷ rest) b bank h reports samples k w =
    sample_listed h (sample_of (x ∷ x₁ ∷ x₂ ∷ x₃ ∷ x₄ ∷ x₅ ∷ [])) bank reports samples rest w
    (push_holds bank h (sample_of (x ∷ x₁ ∷ x₂ ∷ x₃ ∷ x₄ ∷ x₅ ∷ [])) k (six_fit x x₁ x₂ x₃ x₄ x₅ rest b))
    (λ bank' h' reports' samples' k' w'. samples_listed rest (λ i. b (suc (suc (suc (suc (suc (suc i))))))) bank' h' reports' samples' k' w')

-- ---- the header

printed_whole : (rest : List Said) → printed_after 0 0 rest ≡ printed rest
unfolding printed
printed_whole rest = ap₂ (λ (i j : ℕ). lines_of rest ++ cond (ends_refused rest) [] (last_line i j)) (zero-add (reports_in rest)) (zero-add (samples_in rest))

header_listed : (said : HeaderSaid) → Known said → (bank rest : List ℕ) → length bank ≡ 4096 → Bytes rest
    → (let n : Left = begun bank said in all (after n (stream n.reader n.bank rest))) ≡ listed said rest
unfolding begun
header_listed (refused_header number) known bank rest e b = silence (refused_line number) 0 0 bank rest
header_listed (opens version nominal rate soc) (is_read p q l) bank rest e b =
    let h : History = opening nominal rate soc in
    let line : List ℕ = head_line version nominal rate in
    ap (λ (o : Outcome).
    (cond (is_refusal o.answer) (line_of o.answer) line ++ (stream (reader_at (stage_after o.answer) 0 0) o.bank rest).text)
    ++ last (stream (reader_at (stage_after o.answer) 0 0) o.bank rest).reader)
    (opening_is bank e nominal rate soc p q)
    ∙ append_assoc line _ _
    ∙ ap (λ (t : List ℕ). line ++ t)
    (samples_listed rest b _ h 0 0 (opening_holds bank e nominal rate soc p q) (from_opening nominal rate soc p l) ∙ printed_whole (answers h rest))

file_listed : (file bank : List ℕ) → Bytes file → length bank ≡ 4096 → all (stream started bank file) ≡ listing file
unfolding stream after_byte header_byte keeping last listing headed
file_listed [] bank b e = refl
file_listed (x ∷ []) bank b e = refl
file_listed (x ∷ x₁ ∷ []) bank b e = refl
file_listed (x ∷ x₁ ∷ x₂ ∷ []) bank b e = refl
file_listed (x ∷ x₁ ∷ x₂ ∷ x₃ ∷ []) bank b e = refl
file_listed (x ∷ x₁ ∷ x₂ ∷ x₃ ∷ x₄ ∷ []) bank b e = refl
file_listed (x ∷ x₁ ∷ x₂ ∷ x₃ ∷ x₄ ∷ x₅ ∷ []) bank b e = refl
file_listed (x ∷ x₁ ∷ x₂ ∷ x₃ ∷ x₄ ∷ x₅ ∷ x₆ ∷ []) bank b e = refl
file_listed (x ∷ x₁ ∷ x₂ ∷ x₃ ∷ x₄ ∷ x₅ ∷ x₆ ∷ x₇ ∷ []) bank b e = refl
file_listed (x ∷ x₁ ∷ x₂ ∷ x₃ ∷ x₄ ∷ x₅ ∷ x₆ ∷ x₇ ∷ x₈ ∷ []) bank b e = refl
file_listed (x ∷ x₁ ∷ x₂ ∷ x₃ ∷ x₄ ∷ x₅ ∷ x₆ ∷ x₇ ∷ x₈ ∷ x₉ ∷ []) bank b e = refl
file_listed (x ∷ x₁ ∷ x₂ ∷ x₃ ∷ x₄ ∷ x₅ ∷ x₆ ∷ x₇ ∷ x₈ ∷ x₉ ∷ x₁₀ ∷ rest) bank b e =
    let head : List ℕ = x ∷ x₁ ∷ x₂ ∷ x₃ ∷ x₄ ∷ x₅ ∷ x₆ ∷ x₇ ∷ x₈ ∷ x₉ ∷ x₁₀ ∷ [] in
    header_listed (headed head) (header_known head (bytes_take 11 (x ∷ x₁ ∷ x₂ ∷ x₃ ∷ x₄ ∷ x₅ ∷ x₆ ∷ x₇ ∷ x₈ ∷ x₉ ∷ x₁₀ ∷ rest) b)) bank rest e
    (λ i. b (suc (suc (suc (suc (suc (suc (suc (suc (suc (suc (suc i))))))))))))

-- ---- every cut

-- the last line stands at the buffer's start
pub last_text : (q : Reader) (out : List ℕ) (n : ℕ) (out' : List ℕ) → line_room ≤ length out → Finishing q out n out' → take n out' ≡ last q
unfolding last_with
last_text q out n out' room f =
    let t : List ℕ = last q in
    let e : last_with (length out) q ≡ t = rw (le-ltb (length out) line_room room) in
    let p : n ≡ length t = ap (λ (x : ℕ × List ℕ). x.0) f.ends ∙ ap length e in
    let o : out' ≡ sets out 0 t = ap (λ (x : ℕ × List ℕ). x.1) f.ends ∙ ap (sets out 0) e in
    ap₂ take p (o ∙ sets-eq t out 0 (omega (arith, f.fits))) ∙ take-append_seam t (drop (0 + length t) out)

-- whatever 4096 bytes are lent for a bank, the texts of the calls and the last line are the listing of the whole file
pub every_cut : EveryCut
every_cut = record {
  whatever_the_cut = λ {bank} {file} {text} {q} e c out n out' room f.
      let s = cut_stream c in
      ap₂ (λ (t u : List ℕ). t ++ u) (sym s.text_is) (last_text q out n out' room f ∙ ap last (sym s.reader_is))
      ∙ file_listed file bank (cut_bytes c) e;
}
