-- The last line, by whether it has room. Assumes nothing.
use Rattle.std.proofs.Common.{◌≡◌, ℕ, ◌<◌, ◌≤◌, List, length, drop, ◌++◌, sym, ap, ◌∙◌, zero-add, arith, le-ltb, lt-ltb}
use lib.Seq.{sets}
use Rattle.std.specs.Array.{IsFirstChunk}
use Rattle.text.specs.Put.{Leads, Wrote}
use Rattle.text.proofs.Writing.{nothing}
use Rattle.phs.specs.declared.Reader.{Reader}
use Rattle.phs.specs.Lines.{line_room}
use Rattle.phs.specs.Stream.{last, last_with, Finishing}
use Rattle.phs.proofs.Onwards.{wrote_first}

module _ (r : Reader) (out : List ℕ) where
  -- what is written is the last line
  wrote_last : {out' text : List ℕ} {n : ℕ} → last_with (length out) r ≡ text → Wrote line_room text out 0 n out' → n ≤ length out → Finishing r out n out'
  wrote_last {out'} {text} {n} e w l =
      let ends : ◌≡◌ {A = ℕ × List ℕ} (n, out') (length text, sets out 0 text) = λ i. ((w.ends ∙ zero-add (length text)) i, w.bytes i) in
      record { ends = ends ∙ ap (λ (t : List ℕ). (length t, sets out 0 t)) (sym e); fits = l }

  pub no_room_left : length out < line_room → Finishing r out 0 out
  unfolding last_with
  no_room_left h = wrote_last (rw (lt-ltb (length out) line_room h)) nothing (omega arith)

  pub line_last : {line line' : List ℕ} {n : ℕ} → IsFirstChunk out line line_room → Leads line_room (last r) line n line'
      → Finishing r out n (line' ++ drop line_room out)
  unfolding last_with
  line_last line_is w =
      wrote_last (rw (le-ltb (length out) line_room line_is.enough)) (wrote_first out line_is w) (omega (arith, w.short, line_is.enough))
