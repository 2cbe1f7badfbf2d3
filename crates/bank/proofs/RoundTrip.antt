-- An open slot with a tail of zeros and no flag over 1 is the slot of the feed that it keeps: part by part. Assumes nothing.
use mathlib.Core.Path.{◌≡◌, refl, sym, ◌∙◌}
use mathlib.Core.Bool.{false, cond, ◌||◌}
use mathlib.Core.List.{List, [], ◌∷◌, ◌++◌}
use Prim.Native.Nat.{ℕ, zero, suc, ◌+◌, ◌≤◌, ◌<◌}
use native.Mathlib.Omega.{arith}
use lib.ListN.{length, get_or, take, drop, take-append-drop}
use lib.Seq.{drop-cons}
use lib.Dec.{ltb, eqb}
use Rattle.std.proofs.lemmas.Bool.Decides.{nat_tests}
use Rattle.bits.proofs.Bytes.{bytes_of_word, bytes_of_long}
use Rattle.feed.specs.Places.{zeros}
use Rattle.feed.proofs.Sound.{neither}
use Rattle.bank.specs.Damage.{flag_over}
use Rattle.bank.specs.Slot.{state_in, head_in, head_bytes, kept_part, kept_in, kept_bytes, tail_in, tail_of, feed_in, slot_of}
use Rattle.bank.proofs.Parts.{past_head}

-- every element is a byte
abbrev pub Bytes : List ℕ → Type 0
Bytes s = (i : ℕ) → get_or s i 0 < 256

-- n elements from the k-th on, spelt out
abbrev pub spell : ℕ → ℕ → List ℕ → List ℕ
spell zero k s = []
spell (suc n) k s = get_or s k 0 ∷ spell n (suc k) s

pub spelt : (n k : ℕ) (s : List ℕ) → k + n ≤ length s → take n (drop k s) ≡ spell n k s
spelt zero k s h = refl
spelt (suc n) k s h =
    let lt : k < length s = omega arith in
    rw (drop-cons s k 0 lt, spelt n (suc k) s (omega arith))

module _ (s : List ℕ) (size : length s ≡ 256) (bytes : Bytes s) (one : state_in s ≡ 1) where
  head_put : head_bytes (head_in s) ≡ take 11 s
  unfolding head_bytes head_in
  head_put =
      let soc = bytes_of_long _ _ (bytes 4) (bytes 5) _ _ (bytes 6) (bytes 7) in
      let index = bytes_of_word _ _ (bytes 8) (bytes 9) in
      (λ i. sym one i ∷ get_or s 1 0 ∷ get_or s 2 0 ∷ get_or s 3 0 ∷ (soc i ++ (index i ++ (get_or s 10 0 ∷ []))))
      ∙ sym (spelt 11 0 s (omega arith))

  flag_put : (b : ℕ) → ltb 1 b ≡ false → cond (eqb b 1) 1 0 ≡ b
  flag_put b e = grind (arith, nat_tests)

  kept_put : flag_over s ≡ false → kept_bytes (kept_in s) ≡ kept_part s
  unfolding kept_bytes kept_in kept_part flag_over
  kept_put e =
      let two = neither (ltb 1 (get_or s 209 0) || ltb 1 (get_or s 210 0)) (ltb 1 (get_or s 211 0)) e in
      let one = neither (ltb 1 (get_or s 209 0)) (ltb 1 (get_or s 210 0)) two.0 in
      let p = bytes_of_long _ _ (bytes 197) (bytes 198) _ _ (bytes 199) (bytes 200) in
      let q = bytes_of_long _ _ (bytes 201) (bytes 202) _ _ (bytes 203) (bytes 204) in
      let r = bytes_of_long _ _ (bytes 205) (bytes 206) _ _ (bytes 207) (bytes 208) in
      (λ i. p i ++ (q i ++ (r i ++ (flag_put (get_or s 209 0) one.0 i ∷ flag_put (get_or s 210 0) one.1 i ∷ flag_put (get_or s 211 0) two.1 i ∷ []))))
      ∙ sym (spelt 15 197 s (omega arith))

  pub slot_back : tail_in s ≡ zeros 44 → flag_over s ≡ false → slot_of (feed_in s) ≡ s
  unfolding slot_of feed_in tail_of
  slot_back tail flags =
      rw (head_put, kept_put flags, ← tail, ← past_head s)
      (take-append-drop 11 s)
