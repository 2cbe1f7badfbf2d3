-- The centre's SOC and index: 15 before the next sample, in the same second or in the one before. Numbers from index 0 of SOC 0 are a second's
-- samples and an index, so that quotient and remainder give them back. When an index is a multiple of D. Assumes nothing.
use mathlib.Core.Path.{◌≡◌, refl, sym, ◌∙◌}
use mathlib.Core.Bool.{Bool, true, false}
use Prim.Native.Nat.{ℕ, zero, suc, ◌+◌, ◌-◌, ◌*◌, ◌/◌, ◌%◌, ◌<◌, ◌≤◌}
use native.Mathlib.Omega.{arith}
use native.Mathlib.Nat.{div-lt_iff_lt-mul, mod-eq-zero_of_dvd, dvd_of_mod-eq-zero, mul-dvd-mul_right, dvd_of_mul-dvd-mul_right}
use lib.Dec.{eqb}
use borrow.Author.Tests.{eqb-true, eqb-false, eq-eqb, ne_eqb}
use lib.Arith.{digits_div, digits_mod}
use Rattle.feed.specs.declared.Head.{Head}
use Rattle.feed.specs.declared.Centre.{Centre}
use Rattle.sampling.specs.Tags.{spacing, soc_of, index_of}
use Rattle.sampling.specs.Sampling.{sampling_of}
use Rattle.feed.specs.Ring.{next_number_of}
use Rattle.feed.specs.Inside.{centre_number, centre_at}
use Rattle.feed.proofs.Sound.{Sound, Served}

-- where a number stands
pub stands : (nominal soc index n : ℕ) → index < sampling_of nominal → n ≡ soc * sampling_of nominal + index
    → ◌≡◌ {A = Centre} (record { soc = soc_of nominal n; index = index_of nominal n }) (record { soc = soc; index = index })
stands nominal soc index n h e = rw (e, digits_div soc h, digits_mod soc h)

-- in the first second, as many samples came before the next one as are held
begun : (h : Head) → Sound h → h.soc ≡ 0 → h.held ≤ h.index
begun h s e = grind (arith, s.held, s.even_index, s.late)

-- as many samples came before the next one as are held
pub started : (h : Head) → Sound h → h.held ≤ next_number_of h
started h s = go h.soc refl
  where
    go : (soc : ℕ) → h.soc ≡ soc → h.held ≤ soc * sampling_of h.nominal + h.index
    go zero e = omega (arith, begun h s e)
    go (suc soc) e = omega (arith, s.held, s.rated.low)

module _ (h : Head) (s : Sound h) (full : 30 ≤ h.held) where
  -- the second is not the first, where the centre falls in the one before
  pub later : h.index < 15 → 1 ≤ h.soc
  later l = let b = begun h s in grind (arith, b)

  pub same_second : 15 ≤ h.index → ◌≡◌ {A = Centre} (record { soc = h.soc; index = h.index - 15 }) (centre_at h)
  same_second l = sym (stands h.nominal h.soc (h.index - 15) (centre_number h) (omega (arith, s.index)) (omega arith))

  pub second_before : h.index < 15
      → ◌≡◌ {A = Centre} (record { soc = h.soc - 1; index = h.index + sampling_of h.nominal - 15 }) (centre_at h)
  second_before l = sym (stands h.nominal (h.soc - 1) (h.index + sampling_of h.nominal - 15) (centre_number h) (omega (arith, s.index)) (go (h.soc - 1) (omega (arith, later l))))
    where
      go : (before : ℕ) → h.soc ≡ before + 1 → centre_number h ≡ before * sampling_of h.nominal + (h.index + sampling_of h.nominal - 15)
      go before e = rw e (omega (arith, s.rated.low))

-- D is not 0, and an index of the second has a frame below the rate
pub spacing_positive : (nominal rate : ℕ) → Served nominal rate → 0 < spacing nominal rate
spacing_positive nominal rate v = go (spacing nominal rate) v.whole
  where
    go : (d : ℕ) → d * rate ≡ sampling_of nominal → 0 < d
    go zero e = omega (arith, v.low)
    go (suc d) e = omega arith

pub frame_below : (nominal rate index : ℕ) → Served nominal rate → index < sampling_of nominal → index / spacing nominal rate < rate
frame_below nominal rate index v h =
    (div-lt_iff_lt-mul (spacing_positive nominal rate v)).1 (omega (arith, v.whole))

-- D goes into the sampling `rate` times, so an index is a multiple of D exactly where index × rate is one of the sampling
pub multiple : (nominal rate index sampling : ℕ) → Served nominal rate → sampling_of nominal ≡ sampling
    → eqb (index * rate % sampling) 0 ≡ eqb (index % spacing nominal rate) 0
multiple nominal rate index sampling v s = go (spacing nominal rate) (v.whole ∙ s) (eqb (index % spacing nominal rate) 0) refl
  where
    go : (d : ℕ) → d * rate ≡ sampling → (b : Bool) → eqb (index % d) 0 ≡ b → eqb (index * rate % sampling) 0 ≡ b
    go d e true t = rw (← e) (eq-eqb _ 0 (mod-eq-zero_of_dvd (d * rate) (mul-dvd-mul_right d (dvd_of_mod-eq-zero d (eqb-true (index % d) 0 t)) rate)))
    go d e false t =
        let r : 0 < rate = omega (arith, v.slow) in
        rw (← e) (ne_eqb _ 0 (λ z. eqb-false (index % d) 0 t (mod-eq-zero_of_dvd d (dvd_of_mul-dvd-mul_right d r (dvd_of_mod-eq-zero (d * rate) z)))))
