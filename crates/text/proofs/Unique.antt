-- The public contracts each admit one outcome: it is the outcome of one equation. Assumes nothing.
use Prim.Native.Nat.{ℕ, ◌*◌}
use mathlib.Core.Path.{◌≡◌, sym, ◌∙◌}
use mathlib.Core.List.{List}
use lib.ListN.{length}
use Rattle.text.specs.declared.Word.{Word}
use Rattle.text.specs.Text.{hex_bytes}
use Rattle.text.specs.Put.{Put, filled, room_for}

one_outcome : {room at : ℕ} {text before : List ℕ} {r q : ℕ} {after left : List ℕ} → Put room text before at r after → Put room text before at q left
    → ◌≡◌ {A = ℕ × List ℕ} (r, after) (q, left)
one_outcome p s = p.outcome ∙ sym s.outcome

-- two answers of `put` to the same call, with the bytes that each leaves
pub put_unique : (form : List ℕ) (words : List Word) (before : List ℕ) (at r q : ℕ) (after left : List ℕ) → Put (room_for form) (filled form words) before at r after
    → Put (room_for form) (filled form words) before at q left → ◌≡◌ {A = ℕ × List ℕ} (r, after) (q, left)
put_unique form words before at r q after left p s = one_outcome p s

pub put_hex_unique : (bytes before : List ℕ) (at r q : ℕ) (after left : List ℕ) → Put (2 * length bytes) (hex_bytes bytes) before at r after
    → Put (2 * length bytes) (hex_bytes bytes) before at q left → ◌≡◌ {A = ℕ × List ℕ} (r, after) (q, left)
put_hex_unique bytes before at r q after left p s = one_outcome p s
