-- What a head that is not faulty keeps to: each test of the definition, turned into its fact. Assumes nothing.
use mathlib.Core.Path.{◌≡◌, refl, sym}
use mathlib.Core.Bool.{Bool, true, false, ◌&&◌, ◌||◌}
use mathlib.Core.List.{List, [], ◌∷◌}
use Prim.Native.Nat.{ℕ, ◌*◌, ◌<◌, ◌≤◌}
use native.Mathlib.Omega.{arith}
use lib.Dec.{T, leb, eqb, lit≤, leb→le, eqb→eq}
use mir.Facts.{and_yes}
use borrow.Author.Tests.{eqb-true}
use Rattle.std.proofs.lemmas.Bool.Decides.{nat_tests}
use Rattle.feed.specs.declared.Head.{Head}
use Rattle.sampling.specs.Tags.{served_rate, rates, among, spacing}
use Rattle.sampling.specs.Sampling.{sampling_of}
use Rattle.feed.specs.Ring.{unserved, uneven, early, faulty}

clash : true ≡ false → ⊥
clash e = let z : ◌≡◌ {A = ℕ} 0 1 = cc in omega arith

-- neither of two tests holds
pub neither : (s t : Bool) → (s || t) ≡ false → (s ≡ false) × (t ≡ false)
neither true t e = absurd (clash e)
neither false t e = (refl, e)

-- ---- a served nominal and rate

-- the nominal is 50 or 60, and D = sampling / rate leaves no remainder
pub record Served (nominal rate : ℕ) : Type 0 where
  pub low : 50 ≤ nominal
  pub high : nominal ≤ 60
  pub sixty : (nominal ≡ 50 → ⊥) → nominal ≡ 60
  pub slow : 10 ≤ rate
  pub fast : rate ≤ 60
  pub whole : spacing nominal rate * rate ≡ sampling_of nominal

-- a test that antt computes over a list holds of what is among it
abbrev each : (ℕ → Bool) → List ℕ → Bool
each test [] = true
each test (m ∷ ms) = test m && each test ms

each_among : (test : ℕ → Bool) (n : ℕ) (l : List ℕ) → T (each test l) → among n l ≡ true → T (test n)
each_among test n [] t e = absurd (clash (sym e))
each_among test n (m ∷ ms) t e = go (eqb n m) refl (each_among test n ms (and_yes (test m) (each test ms) t).1) e
  where
    go : (b : Bool) → eqb n m ≡ b → (among n ms ≡ true → T (test n)) → (b || among n ms) ≡ true → T (test n)
    go true q later e = rw (eqb-true n m q) (and_yes (test m) (each test ms) t).0
    go false q later e = later e

right : ℕ → ℕ → Bool
right nominal rate = (leb 10 rate && leb rate 60) && eqb (spacing nominal rate * rate) (sampling_of nominal)

-- at 50 or 60 Hz, a rate of a list whose rates are all right
listed : (nominal rate : ℕ) (l : List ℕ) → 50 ≤ nominal → nominal ≤ 60 → ((nominal ≡ 50 → ⊥) → nominal ≡ 60)
    → T (each (right nominal) l) → among rate l ≡ true → Served nominal rate
unfolding right
listed nominal rate l low high sixty t e =
    let b = and_yes (leb 10 rate && leb rate 60) (eqb (spacing nominal rate * rate) (sampling_of nominal)) (each_among (right nominal) rate l t e) in
    let d = and_yes (leb 10 rate) (leb rate 60) b.0 in
    record { low = low; high = high; sixty = sixty; slow = leb→le 10 rate d.0; fast = leb→le rate 60 d.1; whole = eqb→eq _ _ b.1 }

pub served : (nominal rate : ℕ) → served_rate nominal rate ≡ true → Served nominal rate
unfolding served_rate right
served nominal rate e = go (eqb nominal 50) refl (eqb nominal 60) refl
  where
    go : (b : Bool) → eqb nominal 50 ≡ b → (d : Bool) → eqb nominal 60 ≡ d → Served nominal rate
    go true s d t = let n = eqb-true nominal 50 s in rw n (listed 50 rate (rates 50) (lit≤ tt) (lit≤ tt) (λ m. absurd (m refl)) tt (rw n at e))
    go false s true t = let n = eqb-true nominal 60 t in rw n (listed 60 rate (rates 60) (lit≤ tt) (lit≤ tt) (λ m. refl) tt (rw n at e))
    go false s false t = absurd (clash (sym (rw (s, t) at e)))

-- ---- a head that is not faulty

pub record Sound (h : Head) : Type 0 where
  pub rated : Served h.nominal h.rate
  pub index : h.index < sampling_of h.nominal
  pub held : h.held ≤ 31
  pub place : h.place ≤ 30
  pub even_place : h.held < 31 → h.place ≡ h.held
  pub even_index : h.held < 31 → h.index ≡ h.held
  pub late : h.held ≡ 31 → h.soc ≡ 0 → 31 ≤ h.index

pub sound : (h : Head) → faulty h ≡ false → Sound h
unfolding faulty unserved uneven early
sound h e = record {
  rated = served h.nominal h.rate (grind (arith, nat_tests));
  index = grind (arith, nat_tests);
  held = grind (arith, nat_tests);
  place = grind (arith, nat_tests);
  even_place = λ l. grind (arith, nat_tests);
  even_index = λ l. grind (arith, nat_tests);
  late = λ l s. grind (arith, nat_tests);
}
