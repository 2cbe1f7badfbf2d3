-- Messages that differ in one byte have different checksums. Assumes nothing.
use mathlib.Core.Path.{◌≡◌}
use mathlib.Core.List.{List, [], ◌∷◌, foldl}
use Prim.Native.Nat.{ℕ, zero, suc, ◌^◌, ◌<◌}
use native.Mathlib.Nat.{not-suc-le-zero, le_of_suc-le-suc}
use lib.Dec.{lit<}
use lib.ListN.{length, get_or, set}
use Rattle.frames.specs.Checksum.{after_byte, checksum}
use Rattle.frames.proofs.Division.{after_lt, tells_byte, tells_remainder}

-- every number is a byte
abbrev Bytes : List ℕ → Type 0
Bytes l = (i : ℕ) → get_or l i 0 < 256

-- after different remainders the same bytes leave different ones
same_rest : (ms : List ℕ) → Bytes ms → (r s : ℕ) → r < 2 ^ 16 → s < 2 ^ 16 → foldl after_byte r ms ≡ foldl after_byte s ms → r ≡ s
same_rest [] p r s h k e = e
same_rest (m ∷ ms) p r s h k e =
    tells_remainder r s m h k (p 0) (same_rest ms (λ i. p (suc i)) (after_byte r m) (after_byte s m) (after_lt r m) (after_lt s m) e)

same_byte : (ms : List ℕ) → Bytes ms → (k b : ℕ) → k < length ms → b < 256 → (r : ℕ) → r < 2 ^ 16
    → foldl after_byte r (set ms k b) ≡ foldl after_byte r ms → b ≡ get_or ms k 0
same_byte [] p k b l q r h e = absurd (not-suc-le-zero l)
same_byte (m ∷ ms) p zero b l q r h e =
    tells_byte r b m h q (p 0) (same_rest ms (λ i. p (suc i)) (after_byte r b) (after_byte r m) (after_lt r b) (after_lt r m) e)
same_byte (m ∷ ms) p (suc k) b l q r h e = same_byte ms (λ i. p (suc i)) k b (le_of_suc-le-suc l) q (after_byte r m) (after_lt r m) e

pub checksum_tells : (ms : List ℕ) → Bytes ms → (k b : ℕ) → k < length ms → b < 256 → checksum (set ms k b) ≡ checksum ms → b ≡ get_or ms k 0
unfolding checksum
checksum_tells ms p k b l q e = same_byte ms p k b l q 65535 (lit< tt) e
