-- A sample put in a place is read there, and every other place is as it was: `samples_of` of the places is then `set`.
use mathlib.Core.Path.{◌≡◌, refl, sym, ap, ◌∙◌}
use mathlib.Core.List.{List, ◌∷◌, ◌++◌, append_assoc}
use Prim.Native.Nat.{ℕ, suc, ◌+◌, ◌-◌, ◌*◌, ◌≤◌, ◌<◌}
use native.Mathlib.Omega.{arith}
use lib.ListN.{length, take, drop, set, length-append, length-take, length-drop}
use lib.Seq.{take_at, drop_at, drop-drop, length-take-le}
use mir.Syntax.{w16}
use mir.Val.{SFits}
use Rattle.model.specs.declared.filter.Sample.{Sample}
use Rattle.std.proofs.lemmas.List.{set_at}
use Rattle.bits.proofs.Bytes.{number_back}
use Rattle.feed.specs.Places.{sample_of, place_of, samples_of, with_place}
use Rattle.feed.proofs.Samples.{samples_length, samples_append, samples_split}

-- the three numbers of a sample are signed 16-bit numbers
pub record Fits16 (s : Sample) : Type 0 where
  pub a_fits : SFits w16 s.a
  pub b_fits : SFits w16 s.b
  pub c_fits : SFits w16 s.c

pub place_length : (s : Sample) → length (place_of s) ≡ 6
unfolding place_of
place_length s = refl

sample_back : (s : Sample) → Fits16 s → sample_of (place_of s) ≡ s
unfolding sample_of place_of
sample_back s f i = record { a = number_back s.a f.a_fits i; b = number_back s.b f.b_fits i; c = number_back s.c f.c_fits i }

pub with_length : (p : List ℕ) (k : ℕ) (s : Sample) → 6 * k + 6 ≤ length p → length (with_place p k s) ≡ length p
unfolding with_place
with_length p k s h = simp (length-append, length-take, length-drop, place_length) (omega arith)

-- what stands past the place is as it was
pub with_past : (p : List ℕ) (k : ℕ) (s : Sample) → 6 * k ≤ length p → drop (6 * k + 6) (with_place p k s) ≡ drop (6 * k + 6) p
unfolding with_place
with_past p k s h =
    let front : length (take (6 * k) p ++ place_of s) ≡ 6 * k + 6 = simp (length-append, length-take-le (6 * k) p h, place_length) in
    rw (← append_assoc (take (6 * k) p) (place_of s) (drop (6 * k + 6) p)) (drop_at (take (6 * k) p ++ place_of s) (drop (6 * k + 6) p) (6 * k + 6) front)

pub samples_set : (n k : ℕ) (p : List ℕ) (s : Sample) → k < n → 6 * n ≤ length p → Fits16 s → samples_of n (with_place p k s) ≡ set (samples_of n p) k s
unfolding samples_of with_place
samples_set n k p s h l f =
    let m : ℕ = n - suc k in
    let before : List ℕ = take (6 * k) p in
    let past : List ℕ = drop (6 * k + 6) p in
    let e : n ≡ k + suc m = omega arith in
    let d : n - k ≡ suc m = omega arith in
    let stored : samples_of (suc m) (place_of s ++ past) ≡ s ∷ samples_of m past =
    rw (take_at (place_of s) past 6 (place_length s), drop_at (place_of s) past 6 (place_length s), sample_back s f) in
    ap (λ (i : ℕ). samples_of i (before ++ (place_of s ++ past))) e
    ∙ samples_append k (suc m) before (place_of s ++ past) (length-take-le (6 * k) p (omega arith))
    ∙ ap (λ (r : List Sample). samples_of k before ++ r) stored
    ∙ sym (rw (samples_split n k p (omega arith) l, d, set_at (samples_of k before) (sample_of (take 6 (drop (6 * k) p))) (samples_of m (drop 6 (drop (6 * k) p))) s k (samples_length k before), drop-drop 6 (6 * k) p))
