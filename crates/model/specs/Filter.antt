-- Document 01, "The filter" (Annex C, order N = 28).
use Rattle.std.specs.Prelude.{ℕ, zero, suc, ◌+◌, ◌-◌, ◌%◌, List, [], ◌∷◌, ◌++◌, map, reverse, drop, ℤ, pos, ◌+ℤ◌, ◌-ℤ◌, ◌*ℤ◌, neg_ℤ, slice_index_or, unsigned_abs}
use Rattle.ints.specs.Whole.{sum}
use Rattle.model.specs.declared.filter.Sample.{Sample}
use Rattle.model.specs.declared.filter.Phasor.{Phasor}

-- Weight of offset k, from -14 to 14, is 15 - |k|
unfoldable pub weight : ℤ → ℕ
weight k = 15 - unsigned_abs k

-- the offset of term j, where the terms are numbered from 0 to 28
unfoldable pub offset : ℕ → ℤ
offset j = pos j -ℤ pos 14

-- Tables, entry n = round(16384 × cos or sin of 2πn/15), for n from 0 to 7
abbrev pub first_cosines : List ℤ
first_cosines = pos 16384 ∷ pos 14968 ∷ pos 10963 ∷ pos 5063 ∷ neg_ℤ (pos 1713) ∷ neg_ℤ (pos 8192) ∷ neg_ℤ (pos 13255) ∷ neg_ℤ (pos 16026) ∷ []

abbrev pub first_sines : List ℤ
first_sines = pos 0 ∷ pos 6664 ∷ pos 12176 ∷ pos 15582 ∷ pos 16294 ∷ pos 14189 ∷ pos 9630 ∷ pos 3406 ∷ []

-- For n from 8 to 14, cos n = cos(15 - n)
abbrev pub cosines : List ℤ
cosines = first_cosines ++ reverse (drop 1 first_cosines)

-- and sin n = -sin(15 - n)
abbrev pub sines : List ℤ
sines = first_sines ++ map neg_ℤ (reverse (drop 1 first_sines))

-- all table indices are taken mod 15
abbrev pub entry_at : List ℤ → ℕ → ℤ
entry_at table n = slice_index_or table (n % 15) (pos 0)

-- a·cos n + b·cos(n-5) + c·cos(n-10), or the same with sin; mod 15, n - 5 is n + (15 - 5)
unfoldable pub phase_sum : List ℤ → Sample → ℕ → ℤ
phase_sum table s n = s.a *ℤ entry_at table n +ℤ s.b *ℤ entry_at table (n + (15 - 5)) +ℤ s.c *ℤ entry_at table (n + (15 - 10))

-- term j, at offset k = j - 14: weight × (..), where n = i + k; a centre is 14 or more
unfoldable pub term : List ℤ → (ℕ → Sample) → ℕ → ℕ → ℤ
term table x i j = pos (weight (offset j)) *ℤ phase_sum table (x (i + j - 14)) (i + j - 14)

-- sum of weight × (..), for k from -14 to 14
unfoldable pub weighted : List ℤ → (ℕ → Sample) → ℕ → ℤ
weighted table x i = sum 29 (term table x i)

-- Positive sequence at centre i of the samples x, each under its index: im is minus the same sum with sin
unfoldable pub positive : (ℕ → Sample) → ℕ → Phasor
positive x i = record { re = weighted cosines x i; im = neg_ℤ (weighted sines x i) }

-- three zeros: what a list of samples gives beyond its end
abbrev pub no_sample : Sample
no_sample = record { a = pos 0; b = pos 0; c = pos 0 }

-- a window's samples under their indices, where the first one's index is `first`; no rule asks for an index outside the window
abbrev pub windowed : List Sample → ℕ → ℕ → Sample
windowed window first n = slice_index_or window (n - first) no_sample

-- the first n samples of a lent window, in which a, b and c of each stand in turn
unfoldable pub lent_samples : ℕ → List ℤ → List Sample
lent_samples zero w = []
lent_samples (suc n) w = record { a = slice_index_or w 0 (pos 0); b = slice_index_or w 1 (pos 0); c = slice_index_or w 2 (pos 0) } ∷ lent_samples n (drop 3 w)
