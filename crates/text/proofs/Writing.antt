-- Text put where there is room, at the start of bytes (`Leads`) or from a place on (`Wrote`), and what a public call, `Put`, gives its callers.
-- By the laws of `take`, `drop` and `sets`. Assumes nothing.
use Rattle.std.proofs.Common.{ℕ, ◌+◌, ◌-◌, ◌≤◌, ◌<◌, ◌≡◌, refl, ap, ◌∙◌, Bool, true, false, cond, List, [], ◌∷◌, ◌++◌, length, take, drop, append_assoc, length-drop, le_trans, arith}
use Rattle.std.proofs.Math.ListN.{set}
use Rattle.std.proofs.lemmas.List.{append-nil, length-set, drop-drop, drop-set-lt, drop_all, take_more_set, take_rest}
use Rattle.std.proofs.lemmas.List.Edits.{sets, sets-eq}
use Rattle.std.proofs.Math.Seq.{length-sets}
use lib.Dec.{leb}
use borrow.Author.Tests.{leb-true, le-leb}
use borrow.Rule.Slice.PartMut.{put_mid}
use Rattle.text.specs.Put.{Leads, Wrote, Put}

-- ---- at the start of bytes

-- a text that is put into what follows place i
pub put_from : (i m r : ℕ) (text l new : List ℕ) → i ≤ length l → Leads m text (take (length l - i) (drop i l)) r new
    → put_mid i (length l - i) l new ≡ take i l ++ (text ++ drop (i + r) l)
put_from i m r text l new h w =
    rw (w.bytes, take_rest l i, drop-drop r i l, drop_all (length l - i) (drop i l) (omega (arith, length-drop i l)), append-nil)

-- a byte, and a text after it
pub leads_after : (b m r : ℕ) (text l new : List ℕ) → 0 < length l → Leads m text (take (length (set l 0 b) - 1) (drop 1 (set l 0 b))) r new
    → Leads (m + 1) (b ∷ text) l (1 + r) (put_mid 1 (length (set l 0 b) - 1) (set l 0 b) new)
leads_after b m r text l new h w =
    let first : take 1 (set l 0 b) ≡ b ∷ [] = take_more_set l 0 b h in
    let after : drop (1 + r) (set l 0 b) ≡ drop (1 + r) l = drop-set-lt (1 + r) l 0 b (omega arith) in
    record {
      ends = omega (arith, w.ends);
      bytes = put_from 1 m r text (set l 0 b) new (omega (arith, length-set l 0 b)) w ∙ rw (first, after);
      short = omega (arith, w.short);
    }

-- ---- from a place on

-- a text that is put into what follows `at`, where there is room, meets what a public call promises
pub put_leads : (room at r : ℕ) (text before mid : List ℕ) → leb (at + room) (length before) ≡ true → Leads room text (take (length before - at) (drop at before)) r mid
    → Put room text before at (at + r) (put_mid at (length before - at) before mid)
put_leads room at r text before mid h w =
    let fits : at + room ≤ length before = leb-true (at + room) (length before) h in
    let bytes : put_mid at (length before - at) before mid ≡ sets before at text =
    put_from at room r text before mid (omega arith) w
    ∙ rw (sets-eq text before at (omega (arith, w.ends, w.short)), append_assoc, w.ends) refl in
    record { outcome = rw (h, bytes, w.ends) refl; short = omega (arith, w.short) }

-- a text may have more room than it takes
pub wider : {m n at r : ℕ} {text before after : List ℕ} → m ≤ n → Wrote m text before at r after → Wrote n text before at r after
wider h w = record { ends = w.ends; bytes = w.bytes; short = le_trans w.short h }

-- a text of no bytes
pub nothing : {m at : ℕ} {before : List ℕ} → Wrote m [] before at at before
nothing = record { ends = omega arith; bytes = refl; short = omega arith }

-- ---- for callers

-- a call that has room wrote its text
pub put_wrote : {room at r : ℕ} {text before after : List ℕ} → at + room ≤ length before → Put room text before at r after → Wrote room text before at r after
put_wrote {room} {at} {r} {text} {before} {after} h p =
    let e : ◌≡◌ {A = ℕ × List ℕ} (r, after) (at + length text, sets before at text) =
    p.outcome ∙ ap (λ (t : Bool). cond t (at + length text, sets before at text) (at, before)) (le-leb (at + room) (length before) h) in
    let n : r ≡ at + length text = ap (λ (o : ℕ × List ℕ). o.0) e in
    record { ends = n; bytes = ap (λ (o : ℕ × List ℕ). o.1) e; short = omega (arith, p.short) }

-- a call that begins within the bytes ends within them
pub put_within : {room at r : ℕ} {text before after : List ℕ} → at ≤ length before → Put room text before at r after → r ≤ length after
put_within {room} {at} {r} {text} {before} {after} h p = go (leb (at + room) (length before)) refl p.outcome
  where
    go : (t : Bool) → leb (at + room) (length before) ≡ t
        → ◌≡◌ {A = ℕ × List ℕ} (r, after) (cond t (at + length text, sets before at text) (at, before)) → r ≤ length after
    go true fits e =
        let same : length after ≡ length before = ap (λ (o : ℕ × List ℕ). length o.1) e ∙ length-sets before at text in
        omega (arith, leb-true (at + room) (length before) fits, p.short)
    go false fits e =
        let same : length after ≡ length before = ap (λ (o : ℕ × List ℕ). length o.1) e in
        let stays : r ≡ at = ap (λ (o : ℕ × List ℕ). o.0) e in
        omega arith
