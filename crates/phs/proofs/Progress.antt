-- What a caller needs: a call reads no more than its part, and with room for a line at least one byte of a part that has one; its text lies in
-- the buffer. Assumes nothing.
use Rattle.std.proofs.Common.{◌≡◌, ℕ, ◌-◌, ◌≤◌, Bool, true, false, cond, ltb, List, [], ◌∷◌, length, ap, arith}
use Rattle.phs.specs.declared.Reader.{Reader}
use Rattle.phs.specs.declared.Moved.{Moved}
use Rattle.phs.specs.Lines.{line_room}
use Rattle.phs.specs.Stream.{Left, after_byte, Fed, unread, onto, fed, Read, outcome, Reading}
use Rattle.phs.proofs.Room.{takes_byte}

pub reads_some : (r : Reader) (bank part out : List ℕ) (m : Moved) (bank' out' : List ℕ) → Reading r bank part out m bank' out'
    → line_room ≤ length out → 1 ≤ length part → 1 ≤ m.read
unfolding outcome
reads_some r bank part out m bank' out' p room some =
    let read : m.read ≡ (fed (length out) r bank part).read = ap (λ (x : Read). x.moved.read) p.ends in
    let more = ap (λ (f : Fed). f.read) (takes_byte r bank part some (length out) room) in
    omega (arith, read, more)

-- no more is read than the part has
fed_within : (room : ℕ) (r : Reader) (bank part : List ℕ) → (fed room r bank part).read ≤ length part
unfolding fed
fed_within room r bank [] = omega arith
fed_within room r bank (b ∷ bs) = go (ltb room line_room) (fed_within (room - length n.text) n.reader n.bank bs)
  where
    n : Left
    n = after_byte r bank b

    go : (t : Bool) → (fed (room - length n.text) n.reader n.bank bs).read ≤ length bs
        → (cond t (unread r bank) (onto 1 n.text (fed (room - length n.text) n.reader n.bank bs))).read ≤ length (b ∷ bs)
    go true l = omega arith
    go false l = omega arith

pub reads_within : (r : Reader) (bank part out : List ℕ) (m : Moved) (bank' out' : List ℕ) → Reading r bank part out m bank' out' → m.read ≤ length part
unfolding outcome
reads_within r bank part out m bank' out' p =
    let read : m.read ≡ (fed (length out) r bank part).read = ap (λ (x : Read). x.moved.read) p.ends in
    omega (arith, read, fed_within (length out) r bank part)
