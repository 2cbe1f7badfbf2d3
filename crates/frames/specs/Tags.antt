-- Document 02, CR 4: when a frame's tag agrees with the one that the bench expects.
use Rattle.std.specs.Prelude.{Bool, ◌&&◌, ℕ, ◌*◌, eqb, ltb, pos, nat_abs, ◌-ℤ◌}
use Rattle.frames.specs.declared.bench.Configured.{Configured}
use Rattle.frames.specs.declared.bench.Tag.{Tag}

-- by how much two numbers differ
unfoldable pub apart : ℕ → ℕ → ℕ
apart a b = nat_abs (pos a -ℤ pos b)

-- The tag agrees when SOC is equal and FRACSEC × rate differs from frame × TIME_BASE by less than rate; there is no other test
unfoldable pub agrees : (soc fracsec : ℕ) → Configured → Tag → Bool
agrees soc fracsec configured tag =
    eqb soc tag.soc && ltb (apart (fracsec * configured.rate) (tag.frame * configured.time_base)) configured.rate
