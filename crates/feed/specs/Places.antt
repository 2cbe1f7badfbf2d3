-- Document 01, "The bank": the bytes of the thirty-one places. A place holds a, b and c of one sample, big-endian.
use Rattle.std.specs.Prelude.{List, [], ◌∷◌, ◌++◌, ℕ, zero, suc, ◌+◌, ◌*◌, get_or, take, drop, replicate}
use Rattle.bits.specs.Bits.{be16, bytes16, signed16, bits16}
use Rattle.model.specs.declared.filter.Sample.{Sample}

-- n zeros
unfoldable pub zeros : ℕ → List ℕ
zeros n = replicate n 0

-- the sample in a place's six bytes: a, b, c
unfoldable pub sample_of : List ℕ → Sample
sample_of p = record {
  a = signed16 (be16 (get_or p 0 0) (get_or p 1 0));
  b = signed16 (be16 (get_or p 2 0) (get_or p 3 0));
  c = signed16 (be16 (get_or p 4 0) (get_or p 5 0));
}

-- a sample's six bytes
unfoldable pub place_of : Sample → List ℕ
place_of s = bytes16 (bits16 s.a) ++ (bytes16 (bits16 s.b) ++ bytes16 (bits16 s.c))

-- the samples in n places
unfoldable pub samples_of : ℕ → List ℕ → List Sample
samples_of zero p = []
samples_of (suc n) p = sample_of (take 6 p) ∷ samples_of n (drop 6 p)

-- the places with a sample put in one of them
unfoldable pub with_place : List ℕ → ℕ → Sample → List ℕ
with_place places place s = take (6 * place) places ++ (place_of s ++ drop (6 * place + 6) places)
