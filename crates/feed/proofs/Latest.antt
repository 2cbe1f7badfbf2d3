-- The last few of a list, and a list read round from a place: a store in the next place drops the oldest and puts the new one last.
use mathlib.Core.Path.{◌≡◌, refl, sym, ap, ◌∙◌}
use mathlib.Core.Bool.{Bool, true, false, cond}
use mathlib.Core.List.{List, [], ◌∷◌, ◌++◌, append_assoc, append-nil}
use Prim.Native.Nat.{ℕ, suc, ◌+◌, ◌-◌, ◌≤◌, ◌<◌, min}
use native.Mathlib.Omega.{arith}
use native.Mathlib.Numerals.{add-one}
use lib.ListN.{length, take, drop, set, length-append, length-drop, length-set, drop_of_length-le}
use lib.Seq.{drop-append-le, drop-drop, drop-set-lt, take-suc-set, take_all}
use lib.Dec.{eqb}
use borrow.Author.Tests.{eqb-true}
use Rattle.feed.specs.Ring.{oldest_first, last_of}

module _ {S : Type 0} where
  pub length_last : (m : ℕ) (xs : List S) → length (last_of m xs) ≡ min m (length xs)
  length_last m xs = length-drop (length xs - m) xs ∙ omega arith

  pub last_snoc : (m : ℕ) (xs : List S) (x : S) → last_of (suc m) (xs ++ (x ∷ [])) ≡ last_of m xs ++ (x ∷ [])
  last_snoc m xs x =
      let e : length (xs ++ (x ∷ [])) - suc m ≡ length xs - m = omega (arith, length-append xs (x ∷ [])) in
      rw e (drop-append-le (length xs - m) xs (x ∷ []) (omega arith))

  pub last_last : (m n : ℕ) (xs : List S) → last_of m (last_of n xs) ≡ last_of (min m n) xs
  last_last m n xs =
      let k : ℕ = length xs - n in
      let j : ℕ = length (drop k xs) - m in
      let e : k + j ≡ length xs - min m n = omega (arith, length-drop k xs) in
      drop-drop j k xs ∙ ap (λ (i : ℕ). drop i xs) e

  pub last_drop : (m k : ℕ) (xs : List S) → m + k ≤ length xs → last_of m (drop k xs) ≡ last_of m xs
  last_drop m k xs h =
      let j : ℕ = length (drop k xs) - m in
      let e : k + j ≡ length xs - m = omega (arith, length-drop k xs) in
      drop-drop j k xs ∙ ap (λ (i : ℕ). drop i xs) e

  pub last_all : (m : ℕ) (xs : List S) → length xs ≤ m → last_of m xs ≡ xs
  last_all m xs h = let e : length xs - m ≡ 0 = omega arith in rw e

  pub last_none : (xs : List S) → last_of 0 xs ≡ []
  last_none xs = drop_of_length-le xs {i = length xs - 0} (omega arith)

  round_suc : (p : ℕ) (l : List S) (x : S) → p < length l → oldest_first (suc p) (set l p x) ≡ drop 1 (oldest_first p l) ++ (x ∷ [])
  round_suc p l x h =
      let d : drop (suc p) (set l p x) ≡ drop 1 (drop p l) =
      drop-set-lt (suc p) l p x (omega arith) ∙ ap (λ (k : ℕ). drop k l) (sym (add-one p)) ∙ sym (drop-drop 1 p l) in
      let s : drop 1 (oldest_first p l) ≡ drop 1 (drop p l) ++ take p l =
      drop-append-le 1 (drop p l) (take p l) (omega (arith, length-drop p l)) in
      rw (d, take-suc-set l p x h) (sym (append_assoc (drop 1 (drop p l)) (take p l) (x ∷ [])) ∙ ap (λ (r : List S). r ++ (x ∷ [])) (sym s))

  pub round_store : (p : ℕ) (l : List S) (x : S) → p ≤ 30 → length l ≡ 31
      → oldest_first (cond (eqb p 30) 0 (p + 1)) (set l p x) ≡ drop 1 (oldest_first p l) ++ (x ∷ [])
  round_store p l x h e = go (eqb p 30) refl ∙ round_suc p l x (omega arith)
    where
      go : (b : Bool) → eqb p 30 ≡ b → oldest_first (cond b 0 (p + 1)) (set l p x) ≡ oldest_first (suc p) (set l p x)
      go true t =
          let n : length (set l p x) ≤ suc p = omega (arith, length-set l p x, eqb-true p 30 t) in
          rw (drop_of_length-le (set l p x) n, take_all (suc p) (set l p x) n) (append-nil _)
      go false t = rw add-one
