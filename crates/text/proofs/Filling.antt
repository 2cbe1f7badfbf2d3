-- A form that is filled byte by byte: `Filling` says that what stands, with what is left of the form, gives the whole. Assumes nothing.
use Rattle.std.proofs.Common.{ℕ, ◌+◌, ◌*◌, ◌-◌, ◌≤◌, ◌<◌, ◌≡◌, refl, sym, ap, ◌∙◌, Bool, cond, List, [], ◌∷◌, ◌++◌, length, take, drop, get_or, append_assoc, add-one, arith}
use Rattle.std.proofs.Math.ListN.{set}
use Rattle.std.proofs.lemmas.List.{drop_at, drop-drop, drop_more, take_at, set_split, nil_from_length, length-take-le, length-append}
use borrow.Author.Tests.{ne_eqb}
use borrow.Rule.Slice.PartMut.{put_mid}
use Rattle.text.specs.declared.Word.{Word}
use Rattle.text.specs.Put.{Leads, spelt, filled, room_for}
use Rattle.text.proofs.Writing.{put_from}

-- the form is put up to byte j, the text ends at `end`, and these words are left
pub record Filling (form : List ℕ) (words : List Word) (before now : List ℕ) (end j : ℕ) (left : List Word) : Type 0 where
  pub room : end + (length form - j) + 21 * length left ≤ room_for form
  pub text : take end now ++ filled (drop j form) left ≡ filled form words
  pub rest : drop end now ≡ drop end before

-- a byte that is no `%`
plain : (b : ℕ) (form : List ℕ) (words : List Word) → (b ≡ 37 → ⊥) → filled (b ∷ form) words ≡ b ∷ filled form words
plain b form [] h = ap (λ (t : Bool). cond t (filled form []) (b ∷ filled form [])) (ne_eqb b 37 h)
plain b form (w ∷ words) h = ap (λ (t : Bool). cond t (spelt w ++ filled form words) (b ∷ filled form (w ∷ words))) (ne_eqb b 37 h)

module _ {form : List ℕ} {words : List Word} {before now : List ℕ} {end j : ℕ} {left : List Word} (f : Filling form words before now end j left) (h : j < length form) (p : end ≤ length now) where
  -- one text more
  step : (t new : List ℕ) (later : List Word) → filled (drop j form) left ≡ t ++ filled (drop (j + 1) form) later
      → length t + 21 * length later ≤ 1 + 21 * length left → new ≡ take end now ++ (t ++ drop (end + length t) now)
      → Filling form words before new (end + length t) (j + 1) later
  step t new later e r s =
      let n : length (take end now ++ t) ≡ end + length t = length-append (take end now) t ∙ ap (λ (k : ℕ). k + length t) (length-take-le end now p) in
      let parts : new ≡ (take end now ++ t) ++ drop (end + length t) now = s ∙ sym (append_assoc (take end now) t (drop (end + length t) now)) in
      record {
        room = omega (arith, f.room);
        text = rw (parts, take_at (take end now ++ t) (drop (end + length t) now) (end + length t) n, append_assoc, ← e) f.text;
        rest = rw (parts, drop_at (take end now ++ t) (drop (end + length t) now) (end + length t) n, ← drop-drop (length t) end now, f.rest, drop-drop);
      }

  -- the form's next byte
  next : drop j form ≡ get_or form j 0 ∷ drop (j + 1) form
  next = drop_more form j 0 h

  pub byte : end < length now → (get_or form j 0 ≡ 37 → ⊥) → Filling form words before (set now end (get_or form j 0)) (end + 1) (j + 1) left
  byte q d =
      let b = get_or form j 0 in
      step (b ∷ []) (set now end b) left
      (ap (λ (l : List ℕ). filled l left) next ∙ plain b (drop (j + 1) form) left d)
      (omega arith) (set_split now end b q ∙ ap (λ (k : ℕ). take end now ++ b ∷ drop k now) (sym (add-one end)))

  -- a `%`, and the word for it
  pub word : (w : Word) (later : List Word) (mid : List ℕ) {r : ℕ} → get_or form j 0 ≡ 37 → left ≡ w ∷ later
      → Leads 21 (spelt w) (take (length now - end) (drop end now)) r mid → Filling form words before (put_mid end (length now - end) now mid) (end + r) (j + 1) later
  word w later mid {r} d e s =
      let k : r ≡ length (spelt w) = s.ends in
      rw k (step (spelt w) (put_mid end (length now - end) now mid) later
      (rw (next, d, e) refl)
      (omega (arith, s.short, ap (length {A = Word}) e)) (put_from end 21 r (spelt w) now mid p s ∙ ap (λ (n : ℕ). take end now ++ (spelt w ++ drop (end + n) now)) k))

  -- a `%`, and no word left
  pub none : get_or form j 0 ≡ 37 → length left ≡ 0 → Filling form words before now end (j + 1) left
  none d e =
      record { room = omega (arith, f.room); text = ap (λ (t : List ℕ). take end now ++ t) (sym (rw (next, d, nil_from_length left e) refl)) ∙ f.text; rest = f.rest }
