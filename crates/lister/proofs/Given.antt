-- Calls in a row read a part byte by byte, with no byte left out. Assumes nothing.
use Rattle.std.proofs.Common.{◌≡◌, ◌<◌, refl, sym, ap, ◌∙◌, List, [], ℕ, ◌+◌, ◌-◌, ◌≤◌, ◌++◌, arith, length, get_or, take, drop, length-drop, length-take, ap₂, append_assoc, subst, get_or-drop, take-append-drop}
use Rattle.std.proofs.lemmas.List.{take_all}
use Rattle.std.proofs.Math.Seq.{drop-append_seam}
use Rattle.phs.specs.declared.Reader.{Reader}
use Rattle.phs.specs.declared.Moved.{Moved}
use Rattle.phs.specs.Stream.{Left, stream, Reading}
use Rattle.phs.specs.Cut.{Cut, call, Bytes}
use Rattle.phs.proofs.Flow.{stream_append, call_stream}
use Rattle.lister.specs.Inside.{Flowed}

-- before the first call nothing is read
pub nothing_yet : (r : Reader) (bank : List ℕ) → Flowed r bank [] [] r bank
unfolding stream
nothing_yet r bank = record { reader_is = refl; bank_is = refl; text_is = refl; cut = λ c. c }

-- a call on a part
pub called : {r : Reader} {bank part out : List ℕ} {m : Moved} {bank' out' : List ℕ} → Bytes part → Reading r bank part out m bank' out'
    → Flowed r bank (take m.read part) (take m.written out') m.reader bank'
called {part = part} {out = out} {m = m} {bank' = bank'} {out' = out'} b p =
    let e = call_stream p in
    record { reader_is = ap (λ (n : Left). n.reader) e; bank_is = ap (λ (n : Left). n.bank) e; text_is = ap (λ (n : Left). n.text) e; cut = λ c. call part out m bank' out' b p c }

-- some bytes, and more after them
pub joined : {r q p : Reader} {bank x text between y more bank' : List ℕ} → Flowed r bank x text q between → Flowed q between y more p bank'
    → Flowed r bank (x ++ y) (text ++ more) p bank'
joined {r} {q} {p} {bank} {x} {text} {between} {y} {more} {bank'} f g =
    let e = stream_append r bank x y in
    record {
      reader_is = ap (λ (n : Left). n.reader) e ∙ ap₂ (λ (k : Reader) (b : List ℕ). (stream k b y).reader) f.reader_is f.bank_is ∙ g.reader_is;
      bank_is = ap (λ (n : Left). n.bank) e ∙ ap₂ (λ (k : Reader) (b : List ℕ). (stream k b y).bank) f.reader_is f.bank_is ∙ g.bank_is;
      text_is =
          ap (λ (n : Left). n.text) e
          ∙ ap₂ (λ (k : Reader) (b : List ℕ). (stream r bank x).text ++ (stream k b y).text) f.reader_is f.bank_is
          ∙ ap₂ (λ (k l : List ℕ). k ++ l) f.text_is g.text_is;
      cut = λ {file} {more = after} {p = k} c.
          subst (λ (l : List ℕ). Cut r bank l ((text ++ more) ++ after) k) (sym (append_assoc x y file))
          (subst (λ (l : List ℕ). Cut r bank (x ++ (y ++ file)) l k) (sym (append_assoc text more after)) (f.cut (g.cut c)));
    }

-- what is left of a part is made of bytes
pub bytes_after : (done rest : List ℕ) {part : List ℕ} → done ++ rest ≡ part → Bytes part → Bytes rest
bytes_after done rest {part} e b k =
    subst (λ (n : ℕ). n < 256) (sym (get_or-drop (length done) part k 0) ∙ ap (λ (l : List ℕ). get_or (drop (length done) l) k 0) (sym e) ∙ ap (λ (l : List ℕ). get_or l k 0) (drop-append_seam done rest))
    (b (length done + k))

-- what a call leaves of the rest of a part
pub rest_after : (done rest : List ℕ) {part : List ℕ} (n : ℕ) → done ++ rest ≡ part → (done ++ take n rest) ++ take (length rest - n) (drop n rest) ≡ part
rest_after done rest n e =
    ap (λ (l : List ℕ). (done ++ take n rest) ++ l) (take_all (length rest - n) (drop n rest) (omega (arith, length-drop n rest)))
    ∙ append_assoc done (take n rest) (drop n rest)
    ∙ ap (λ (l : List ℕ). done ++ l) (take-append-drop n rest)
    ∙ e

pub less_after : (rest : List ℕ) (n : ℕ) → 1 ≤ n → n ≤ length rest → length (take (length rest - n) (drop n rest)) < length rest
less_after rest n some within = omega (arith, length-take (length rest - n) (drop n rest), length-drop n rest)
