-- A row of calls reads its file byte by byte: every cut of a file follows `stream`. By induction on the part and on the cut.
use Rattle.std.proofs.Common.{◌≡◌, ℕ, zero, suc, ◌+◌, ◌-◌, Bool, true, false, ltb, List, [], ◌∷◌, ◌++◌, length, take, drop, sym, refl, ap, ◌∙◌, ap₂, append_assoc, one-add, arith}
use lib.Seq.{sets, sets-eq, take-append_seam}
use Rattle.phs.specs.declared.Reader.{Reader}
use Rattle.phs.specs.declared.Moved.{Moved}
use Rattle.phs.specs.Lines.{line_room}
use Rattle.phs.specs.Stream.{Left, after_byte, after, stream, Fed, fed, Read, outcome, Reading}
use Rattle.phs.specs.Cut.{Bytes, Cut, none, call}

pub stream_append : (r : Reader) (bank x y : List ℕ) → stream r bank (x ++ y) ≡ after (stream r bank x) (stream (stream r bank x).reader (stream r bank x).bank y)
unfolding stream
stream_append r bank [] y = refl
stream_append r bank (b ∷ x) y =
    let n = after_byte r bank b in
    let m = stream n.reader n.bank x in
    let l = stream m.reader m.bank y in
    ap (after n) (stream_append n.reader n.bank x y)
    ∙ (λ i. record { reader = l.reader; bank = l.bank; text = sym (append_assoc n.text m.text l.text) i })

-- ---- a call reads what the stream reads

abbrev flowed : Fed → Left
flowed f = record { reader = f.reader; bank = f.bank; text = f.text }

fed_stream : (room : ℕ) (r : Reader) (bank part : List ℕ) → stream r bank (take (fed room r bank part).read part) ≡ flowed (fed room r bank part)
unfolding fed stream
fed_stream room r bank [] = refl
fed_stream room r bank (b ∷ bs) = by (ltb room line_room) refl (fed_stream (room - length n.text) n.reader n.bank bs)
  where
    n : Left
    n = after_byte r bank b

    f : Fed
    f = fed (room - length n.text) n.reader n.bank bs

    by : (t : Bool) → ltb room line_room ≡ t → stream n.reader n.bank (take f.read bs) ≡ flowed f
        → stream r bank (take (fed room r bank (b ∷ bs)).read (b ∷ bs)) ≡ flowed (fed room r bank (b ∷ bs))
    by true e h = rw e
    by false e h = rw (e, one-add) (ap (after n) h)

-- ---- what a call promises, and what the stream does

module _ {r : Reader} {bank part out bank' out' : List ℕ} {m : Moved} (p : Reading r bank part out m bank' out') where
  abbrev f : Fed
  f = fed (length out) r bank part

  read_is : m.read ≡ f.read
  unfolding outcome
  read_is = ap (λ (x : Read). x.moved.read) p.ends

  written_is : m.written ≡ length f.text
  unfolding outcome
  written_is = ap (λ (x : Read). x.moved.written) p.ends

  out_is : out' ≡ sets out 0 f.text
  unfolding outcome
  out_is = ap (λ (x : Read). x.out) p.ends

  text_is : take m.written out' ≡ f.text
  text_is =
      ap₂ take written_is (out_is ∙ sets-eq f.text out 0 (omega (arith, p.fits, written_is)))
      ∙ take-append_seam f.text (drop (0 + length f.text) out)

  pub call_stream : stream r bank (take m.read part) ≡ record { reader = m.reader; bank = bank'; text = take m.written out' }
  unfolding outcome
  call_stream =
      ap (λ (n : ℕ). stream r bank (take n part)) read_is
      ∙ fed_stream (length out) r bank part
      ∙ (λ i. record { reader = (sym p.ends i).moved.reader; bank = (sym p.ends i).bank; text = sym text_is i })

pub record Flows (n : Left) (text : List ℕ) (q : Reader) : Type 0 where
  pub reader_is : n.reader ≡ q
  pub text_is : n.text ≡ text

pub cut_stream : {r q : Reader} {bank file text : List ℕ} → Cut r bank file text q → Flows (stream r bank file) text q
unfolding stream
cut_stream none = record { reader_is = refl; text_is = refl }
cut_stream {r} {q} {bank} (call {file = file} {text = text} part out m bank' out' bytes p c) =
    let rest = cut_stream c in
    let e = stream_append r bank (take m.read part) file
    ∙ ap (λ (n : Left). after n (stream n.reader n.bank file)) (call_stream p) in
    record {
      reader_is = ap (λ (n : Left). n.reader) e ∙ rest.reader_is;
      text_is = ap (λ (n : Left). n.text) e ∙ ap (λ (t : List ℕ). take m.written out' ++ t) rest.text_is;
    }

-- ---- a file in parts is made of bytes

pub bytes_take : (n : ℕ) (l : List ℕ) → Bytes l → Bytes (take n l)
bytes_take zero l h i = omega arith
bytes_take (suc n) [] h i = omega arith
bytes_take (suc n) (b ∷ l) h zero = h 0
bytes_take (suc n) (b ∷ l) h (suc i) = bytes_take n l (λ j. h (suc j)) i

bytes_append : (l m : List ℕ) → Bytes l → Bytes m → Bytes (l ++ m)
bytes_append [] m h k i = k i
bytes_append (b ∷ l) m h k zero = h 0
bytes_append (b ∷ l) m h k (suc i) = bytes_append l m (λ j. h (suc j)) k i

pub cut_bytes : {r q : Reader} {bank file text : List ℕ} → Cut r bank file text q → Bytes file
cut_bytes none = λ i. omega arith
cut_bytes (call {file = file} part out m bank' out' bytes p c) = bytes_append (take m.read part) file (bytes_take m.read part bytes) (cut_bytes c)
