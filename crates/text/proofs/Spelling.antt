-- Bytes that are spelt one after another. Assumes nothing.
use Rattle.std.proofs.Common.{ℕ, ◌+◌, ◌*◌, ◌-◌, ◌<◌, ◌≡◌, sym, ap, ◌∙◌, List, [], ◌∷◌, ◌++◌, length, take, drop, get_or, append_assoc, append-nil, arith}
use Rattle.std.proofs.lemmas.List.{take_at, drop_at, drop-drop, take_more, length-take-le}
use borrow.Rule.Slice.PartMut.{put_mid}
use Rattle.text.specs.Text.{digits, hex_bytes}
use Rattle.text.proofs.Digits.{length_hex}

hex_push : (l : List ℕ) (b : ℕ) → hex_bytes (l ++ (b ∷ [])) ≡ hex_bytes l ++ digits 16 2 b
unfolding hex_bytes
hex_push [] b = append-nil (digits 16 2 b)
hex_push (a ∷ l) b = rw (hex_push l b) (sym (append_assoc (digits 16 2 a) (hex_bytes l) (digits 16 2 b)))

-- one byte more
pub spell_more : (bytes before now new : List ℕ) (i : ℕ) → i < length bytes → now ≡ hex_bytes (take i bytes) ++ drop (2 * i) before → new ≡ digits 16 2 (get_or bytes i 0)
    → put_mid (2 * i) (2 * i + 2 - 2 * i) now new ≡ hex_bytes (take (i + 1) bytes) ++ drop (2 * (i + 1)) before
spell_more bytes before now new i h e d =
    let text = hex_bytes (take i bytes) in
    let n : length text ≡ 2 * i = length_hex (take i bytes) ∙ ap (λ (k : ℕ). 2 * k) (length-take-le i bytes (omega arith)) in
    let two : 2 * i + 2 - 2 * i ≡ 2 = omega arith in
    let next : 2 * i + 2 ≡ 2 * (i + 1) = omega arith in
    rw (e, d, two, take_at text (drop (2 * i) before) (2 * i) n, drop_at text (drop (2 * i) before) (2 * i) n, drop-drop, next, take_more bytes i 0 h, hex_push)
    (sym (append_assoc text (digits 16 2 (get_or bytes i 0)) (drop (2 * (i + 1)) before)))
