-- What the functions inside ask of one another. A reader of the promises needs nothing of this.
use Rattle.std.specs.Prelude.{List, [], ◌∷◌, ℕ}
use Rattle.refusals.specs.Refusals.{Refusal}
use Rattle.frames.specs.Reading.{wrong_sync, wrong_size, wrong_checksum, wrong_id, bad_stat, wrong_tag}
use Rattle.frames.specs.declared.bench.Configured.{Configured}
use Rattle.frames.specs.declared.bench.Tag.{Tag}

-- the last six: those of a frame's 26 bytes
abbrev pub bytes_refusals : List ℕ → Configured → Tag → List Refusal
bytes_refusals f configured tag =
    wrong_sync f ∷ wrong_size f ∷ wrong_checksum f ∷ wrong_id f configured.id ∷ bad_stat f ∷ wrong_tag f configured tag ∷ []
