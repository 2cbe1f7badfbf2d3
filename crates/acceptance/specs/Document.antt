-- Document 01, "Figures on both sides of each edge": the listing that is printed whole.
use Rattle.std.specs.Prelude.{◌≡◌, List, [], ◌∷◌, ◌++◌, ℕ, zero, suc, ◌+◌, pos}
use Rattle.bits.specs.Bits.{bytes32}
use Rattle.model.specs.declared.filter.Sample.{Sample}
use Rattle.model.specs.Filter.{cosines, entry_at}
use Rattle.feed.specs.Places.{place_of}
use Rattle.phs.specs.Lines.{head_line, report_line, last_line}
use Rattle.phs.specs.Listing.{listing}

-- a = cos n, b = cos(n-5), c = cos(n-10)
abbrev pub wave : ℕ → Sample
wave n = record { a = entry_at cosines n; b = entry_at cosines (n + 10); c = entry_at cosines (n + 5) }

-- the bytes of so many samples, from index n on
abbrev pub samples_from : (n count : ℕ) → List ℕ
samples_from n zero = []
samples_from n (suc count) = place_of (wave n) ++ samples_from (suc n) count

-- header 60 Hz, rate 60, SOC 1000, then 31 samples
abbrev pub file : List ℕ
file = 80 ∷ 72 ∷ 83 ∷ 0 ∷ 1 ∷ 60 ∷ 60 ∷ (bytes32 1000 ++ samples_from 0 31)

-- its listing: `PHS 1 60 60`, `1000 1 90598592160 0 0 0 0`, `reports 1 samples 31`
abbrev pub ListingHolds : Type 0
ListingHolds = listing file ≡ head_line 1 60 60 ++ (report_line 1000 1 (pos 90598592160) (pos 0) (pos 0) (pos 0) 0 ++ last_line 1 31)
