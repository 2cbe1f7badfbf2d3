-- How many bytes differ. Assumes nothing.
use Rattle.std.proofs.Common.{◌≡◌, ℕ, ◌+◌, ◌%◌, ◌^◌, ◌<◌, ◌≤◌, Bool, true, false, cond, not, List, [], ◌∷◌, eqb, length, refl, ◌∙◌, sym, ap, ap₂, arith, eq-eqb, eqb-true}
use Rattle.std.specs.Prelude.{fold}
use Rattle.std.specs.List.{zip}
use Rattle.std.proofs.lemmas.List.Sums.{count_by-le-length, sum_by-cons}
use Rattle.std.proofs.lemmas.Slice.Zip.{length-zip}
use Rattle.salvage.specs.Slots.{differing}

-- the first of each, and what differs after them
differing-cons : (b a : ℕ) (before after : List ℕ) → differing (b ∷ before) (a ∷ after) ≡ cond (not (eqb b a)) 1 0 + differing before after
unfolding differing
differing-cons b a before after = sum_by-cons (λ (p : ℕ × ℕ). cond (not (eqb p.0 p.1)) 1 0) (b, a) (zip before after)

-- nothing differs from itself
pub differing_none : (s : List ℕ) → differing s s ≡ 0
differing_none [] = unfold differing in refl
differing_none (b ∷ s) = differing-cons b b s s ∙ rw (eq-eqb b b refl, differing_none s)

-- where none differ, they are the same
pub none_differing : (before after : List ℕ) → length before ≡ length after → differing before after ≡ 0 → before ≡ after
none_differing [] [] size e = refl
none_differing [] (a ∷ after) size e = absurd (omega arith)
none_differing (b ∷ before) [] size e = absurd (omega arith)
none_differing (b ∷ before) (a ∷ after) size e = go (eqb b a) refl (sym (differing-cons b a before after) ∙ e) (none_differing before after (omega arith))
  where
    go : (t : Bool) → eqb b a ≡ t → cond (not t) 1 0 + differing before after ≡ 0 → (differing before after ≡ 0 → before ≡ after) → b ∷ before ≡ a ∷ after
    go true t f rest = ap₂ (λ (x : ℕ) (l : List ℕ). x ∷ l) (eqb-true b a t) (rest (omega arith))
    go false t f rest = absurd (omega arith)

-- no more differ than there are
pub differing_most : (before after : List ℕ) → differing before after ≤ length before
unfolding differing
differing_most before after = omega (arith, count_by-le-length (λ (b, a). not (eqb b a)) (zip before after), length-zip before after)

-- one pair counted on, in 16 bits
abbrev pub count_on : ℕ → ℕ × ℕ → ℕ
count_on n (b, a) = (n + cond (not (eqb b a)) 1 0) % 2 ^ 16

-- counted on from a number that leaves room for it
pub counted_on : (before after : List ℕ) (n : ℕ) → n + length before < 2 ^ 16 → fold count_on n (zip before after) ≡ n + differing before after
counted_on [] after n room = unfold differing in omega arith
counted_on (b ∷ before) [] n room = unfold differing in omega arith
counted_on (b ∷ before) (a ∷ after) n room =
    let d : ℕ = cond (not (eqb b a)) 1 0 in
    let most : d ≤ 1 = at_most_one (not (eqb b a)) in
    let fits : (n + d) % 2 ^ 16 ≡ n + d = omega arith in
    ap (λ (m : ℕ). fold count_on m (zip before after)) fits ∙ counted_on before after (n + d) (omega arith) ∙ omega (arith, differing-cons b a before after)
  where
    at_most_one : (t : Bool) → cond {A = ℕ} t 1 0 ≤ 1
    at_most_one true = omega arith
    at_most_one false = omega arith
