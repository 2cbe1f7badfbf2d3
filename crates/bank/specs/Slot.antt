-- Document 01, "The bank", with CR 6: 4096 bytes, 16 slots of 256, and what stands where in a slot. `.._in` reads a slot's
-- bytes; `head_bytes`, `kept_bytes`, `tail_of` and `slot_of` make them, and `with_kept` and `worked_out_in` make a slot of a slot.
use Rattle.std.specs.Prelude.{◌≡◌, cond, List, [], ◌∷◌, ◌++◌, ℕ, ◌+◌, ◌*◌, eqb, get_or, take, drop}
use Rattle.model.specs.declared.angle.Phase.{Phase}
use Rattle.model.specs.declared.report.Phases.{Phases}
use Rattle.model.specs.Angle.{angle_of}
use Rattle.feed.specs.declared.Head.{Head}
use Rattle.feed.specs.declared.Feed.{Feed}
use Rattle.bits.specs.Bits.{be16, bytes16, be32, bytes32}
use Rattle.feed.specs.Places.{zeros}
use Rattle.feed.specs.Kept.{phases_of}
use Rattle.feed.specs.Ring.{history_of, worked_out}

-- slot k: bytes 256·k to 256·k + 255
unfoldable pub slot_at : List ℕ → ℕ → List ℕ
slot_at bank k = take 256 (drop (256 * k) bank)

-- the bank with s in slot k, and every other byte as it was
unfoldable pub with_slot : List ℕ → ℕ → List ℕ → List ℕ
with_slot bank k s = take (256 * k) bank ++ (s ++ drop (256 * k + 256) bank)

-- byte 0 state (0 free, 1 open)
abbrev pub state_in : List ℕ → ℕ
state_in s = get_or s 0 0

-- the numbers of an open slot: 1 nominal; 2 rate; 3 samples held; 4-7 SOC of the next sample; 8-9 its index in the second; 10 next place
unfoldable pub head_in : List ℕ → Head
head_in s = record {
  nominal = get_or s 1 0;
  rate = get_or s 2 0;
  held = get_or s 3 0;
  soc = be32 (get_or s 4 0) (get_or s 5 0) (get_or s 6 0) (get_or s 7 0);
  index = be16 (get_or s 8 0) (get_or s 9 0);
  place = get_or s 10 0;
}

-- bytes 0-10 of an open slot: state 1, then the same numbers
unfoldable pub head_bytes : Head → List ℕ
head_bytes h = 1 ∷ h.nominal ∷ h.rate ∷ h.held ∷ (bytes32 h.soc ++ (bytes16 h.index ++ (h.place ∷ [])))

-- 11-196 thirty-one places of three samples
unfoldable pub places_in : List ℕ → List ℕ
places_in s = take 186 (drop 11 s)

-- a phase whose angle stands in four bytes from one on, and whose no-phase flag in another
abbrev pub phase_in : List ℕ → (at flag : ℕ) → Phase
phase_in s at flag = record {
  angle = angle_of (be32 (get_or s at 0) (get_or s (at + 1) 0) (get_or s (at + 2) 0) (get_or s (at + 3) 0));
  none = eqb (get_or s flag 0) 1;
}

-- 197-208 the angles of the three newest centres, oldest first, four bytes each; 209-211 their no-phase flags (CR 6)
unfoldable pub kept_in : List ℕ → Phases
kept_in s = record { p = phase_in s 197 209; q = phase_in s 201 210; r = phase_in s 205 211 }

-- flag 1 where there is no phase, else 0
abbrev pub flag_of : Phase → ℕ
flag_of p = cond p.none 1 0

-- bytes 197-211 of an open slot: the same phases
unfoldable pub kept_bytes : Phases → List ℕ
kept_bytes k =
    bytes32 k.p.angle.parts ++ (bytes32 k.q.angle.parts ++ (bytes32 k.r.angle.parts ++ (flag_of k.p ∷ flag_of k.q ∷ flag_of k.r ∷ [])))

-- the bytes after byte 211 (CR 6)
unfoldable pub tail_in : List ℕ → List ℕ
tail_in s = drop 212 s

-- then zeros: what stands there, whatever the feed
unfoldable pub tail_of : Feed → List ℕ
tail_of f = zeros 44

-- the feed that an open slot keeps
unfoldable pub feed_in : List ℕ → Feed
feed_in s = record { head = head_in s; places = places_in s; kept = kept_in s }

-- the open slot that keeps a feed
unfoldable pub slot_of : Feed → List ℕ
slot_of f = head_bytes f.head ++ (f.places ++ (kept_bytes f.kept ++ tail_of f))

-- A free slot is all zero
unfoldable pub free_slot : List ℕ
free_slot = zeros 256

-- ---- CR 6: true angles

-- bytes 197 to 211
unfoldable pub kept_part : List ℕ → List ℕ
kept_part s = take 15 (drop 197 s)

-- a slot with other bytes 197 to 211
abbrev pub with_kept : List ℕ → List ℕ → List ℕ
with_kept part s = take 197 s ++ (part ++ drop 212 s)

-- an open slot with its kept angles and flags worked out from the samples that it holds, or with those that it keeps where its numbers are faulty;
-- any other slot as it is
unfoldable pub worked_out_in : List ℕ → List ℕ
worked_out_in s = cond (eqb (state_in s) 1) (with_kept (kept_bytes (worked_out (feed_in s)).kept) s) s

-- kept angles are true of an open slot when they are those that the rule gives for the samples held
abbrev pub TrueIn : List ℕ → Type 0
TrueIn s = state_in s ≡ 1 → kept_part s ≡ kept_bytes (phases_of (history_of (feed_in s)))
