-- A message with its own checksum behind it leaves nothing: the polynomial divides it. Assumes nothing.
use mathlib.Core.Path.{◌≡◌, sym, ap, ◌∙◌}
use mathlib.Core.List.{List, [], ◌∷◌, ◌++◌, foldl, foldl-append}
use Prim.Native.Nat.{ℕ, ◌*◌, ◌/◌, ◌%◌, ◌^◌, ◌<◌}
use native.Mathlib.Omega.{arith}
use lib.Bits.{xor_shifted}
use lib.Dec.{lit<}
use lib.Pow.{shr_lt}
use Rattle.bits.specs.Bits.{bytes16}
use Rattle.frames.specs.Checksum.{after_byte, checksum}
use Rattle.frames.proofs.Linear.{whole, up, down, low, ◌⊕◌, ◌after◌, at, agree}
use Rattle.frames.proofs.Division.{after_lt, by_shifts, at_once}

-- the remainder's own high byte takes nothing off, and the low one moves up
meets_itself : (r : ℕ) → r < 2 ^ 16 → after_byte r (r / 256) ≡ r * 256 % 65536
meets_itself r h =
    let b : r / 2 ^ 8 < 2 ^ 8 = shr_lt 8 8 h in
    sym (at_once r (r / 256) h b) ∙ ap (at by_shifts) (sym (xor_shifted r 8 (r / 2 ^ 8) b))
    ∙ agree (by_shifts after (up 8 whole ⊕ down 8 whole)) (low 16 (up 8 whole)) 16 tt r h

fold_lt : (ms : List ℕ) (r : ℕ) → r < 2 ^ 16 → foldl after_byte r ms < 2 ^ 16
fold_lt [] r h = h
fold_lt (m ∷ ms) r h = fold_lt ms (after_byte r m) (after_lt r m)

both_bytes : (r : ℕ) → r < 2 ^ 16 → foldl after_byte r (bytes16 r) ≡ 0
both_bytes r h =
    let next : ℕ = r * 256 % 65536 in
    let small : next < 2 ^ 16 = omega arith in
    let high : next / 256 ≡ r % 256 = omega arith in
    let gone : next * 256 % 65536 ≡ 0 = omega arith in
    ap (λ (n : ℕ). after_byte n (r % 256)) (meets_itself r h) ∙ ap (after_byte next) (sym high) ∙ meets_itself next small ∙ gone

pub leaves_nothing : (m : List ℕ) → checksum (m ++ bytes16 (checksum m)) ≡ 0
unfolding checksum
leaves_nothing m = foldl-append after_byte 65535 m (bytes16 (checksum m)) ∙ both_bytes (checksum m) (fold_lt m 65535 (lit< tt))
