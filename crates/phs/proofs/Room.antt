-- Where there is room for a line, a part is read by one byte, and by six where a sample begins. By the rule of one byte, six times. Assumes nothing.
use Rattle.std.proofs.Common.{◌≡◌, ℕ, ◌+◌, ◌-◌, ◌<◌, ◌≤◌, List, [], ◌∷◌, ◌++◌, length, get_or, take, drop, set, lit<, sym, refl, ap, ◌∙◌, subst, append_assoc, add_assoc, arith, le-ltb, lt-ltb}
use lib.Seq.{get_or-take}
use Rattle.model.specs.declared.filter.Sample.{Sample}
use Rattle.feed.specs.Places.{sample_of}
use Rattle.bank.specs.Calls.{pushed_at}
use Rattle.phs.specs.declared.Stage.TheVariants.{InSamples}
use Rattle.phs.specs.declared.Reader.{Reader}
use Rattle.phs.specs.Lines.{line_room}
use Rattle.phs.specs.Stream.{Left, keeping, wordless, sampled, sample_byte, after_byte, Fed, unread, onto, fed}

pub onto_onto : (i j : ℕ) (t u : List ℕ) (f : Fed) → onto i t (onto j u f) ≡ onto (i + j) (t ++ u) f
onto_onto i j t u f = λ x. record { reader = f.reader; bank = f.bank; read = sym (add_assoc i j f.read) x; text = sym (append_assoc t u f.text) x }

-- what comes after `n`, with the room that is left
abbrev pub following : Left → ℕ → ℕ → List ℕ → Fed
following n more room rest = onto more n.text (fed (room - length n.text) n.reader n.bank rest)

-- the bytes l are read by `more` at once, which leave n
abbrev pub Takes : Reader → List ℕ → List ℕ → ℕ → Left → Type 0
Takes r bank l more n = (room : ℕ) → line_room ≤ room → fed room r bank l ≡ following n more room (drop more l)

-- ---- one byte

one_taken : (r : Reader) (bank : List ℕ) (b : ℕ) (bs : List ℕ) → Takes r bank (b ∷ bs) 1 (after_byte r bank b)
unfolding fed
one_taken r bank b bs room h = rw (le-ltb room line_room h)

pub takes_byte : (r : Reader) (bank l : List ℕ) → 1 ≤ length l → Takes r bank l 1 (after_byte r bank (get_or l 0 0))
takes_byte r bank [] l = absurd (omega arith)
takes_byte r bank (b ∷ bs) l = one_taken r bank b bs

-- nothing is read without room, and nothing of nothing
pub no_room : (room : ℕ) (r : Reader) (bank l : List ℕ) → room < line_room → fed room r bank l ≡ unread r bank
unfolding fed
no_room room r bank [] h = refl
no_room room r bank (b ∷ bs) h = rw (lt-ltb room line_room h)

pub none_left : (room : ℕ) (r : Reader) (bank : List ℕ) → fed room r bank [] ≡ unread r bank
unfolding fed
none_left room r bank = refl

-- ---- six bytes

-- a byte that is kept
kept_byte : (room : ℕ) (r q : Reader) (bank : List ℕ) (b : ℕ) (bs : List ℕ) → line_room ≤ room → after_byte r bank b ≡ wordless q bank
    → fed room r bank (b ∷ bs) ≡ onto 1 [] (fed room q bank bs)
kept_byte room r q bank b bs h e =
    one_taken r bank b bs room h
    ∙ ap (λ (n : Left). following n 1 room bs) e
    ∙ ap (λ (k : ℕ). onto 1 [] (fed k q bank bs)) (same room)
  where
    same : (room : ℕ) → room - 0 ≡ room
    same room = omega arith

-- six bytes kept in a row are the sample that they make, whatever was kept before
gathers : (k : List ℕ) (a b c d e f : ℕ) → 6 ≤ length k
    → sample_of (set (set (set (set (set (set k 0 a) 1 b) 2 c) 3 d) 4 e) 5 f) ≡ sample_of (a ∷ b ∷ c ∷ d ∷ e ∷ f ∷ [])
unfolding sample_of
gathers [] a b c d e f l = absurd (omega arith)
gathers (x₀ ∷ []) a b c d e f l = absurd (omega arith)
gathers (x₀ ∷ x₁ ∷ []) a b c d e f l = absurd (omega arith)
gathers (x₀ ∷ x₁ ∷ x₂ ∷ []) a b c d e f l = absurd (omega arith)
gathers (x₀ ∷ x₁ ∷ x₂ ∷ x₃ ∷ []) a b c d e f l = absurd (omega arith)
gathers (x₀ ∷ x₁ ∷ x₂ ∷ x₃ ∷ x₄ ∷ []) a b c d e f l = absurd (omega arith)
gathers (x₀ ∷ x₁ ∷ x₂ ∷ x₃ ∷ x₄ ∷ x₅ ∷ k) a b c d e f l = refl

-- six bytes are the sample that they begin with
pub six_first : (l : List ℕ) → sample_of (take 6 l) ≡ sample_of l
unfolding sample_of
six_first l =
    rw (get_or-take 6 l 0 0 (lit< tt), get_or-take 6 l 1 0 (lit< tt), get_or-take 6 l 2 0 (lit< tt), get_or-take 6 l 3 0 (lit< tt), get_or-take 6 l 4 0 (lit< tt), get_or-take 6 l 5 0 (lit< tt)) refl

module _ (reports samples : ℕ) (bank : List ℕ) where
  -- in the samples, with n bytes kept
  abbrev inside : ℕ → List ℕ → Reader
  inside n k = record { stage = InSamples; held = n; kept = k; reports = reports; samples = samples }

  abbrev whole : Sample → Left
  whole s = sampled reports samples (pushed_at bank 0 s)

  six_inside : (k : List ℕ) (a b c d e f : ℕ) (rest : List ℕ) → 6 ≤ length k
      → Takes (inside 0 k) bank (a ∷ b ∷ c ∷ d ∷ e ∷ f ∷ rest) 6 (whole (sample_of (a ∷ b ∷ c ∷ d ∷ e ∷ f ∷ [])))
  unfolding after_byte sample_byte keeping
  six_inside k a b c d e f rest l room h =
      let k1 = set k 0 a in
      let k2 = set k1 1 b in
      let k3 = set k2 2 c in
      let k4 = set k3 3 d in
      let k5 = set k4 4 e in
      let n = whole (sample_of (a ∷ b ∷ c ∷ d ∷ e ∷ f ∷ [])) in
      let g = fed (room - length n.text) n.reader n.bank rest in
      kept_byte room (inside 0 k) (inside 1 k1) bank a (b ∷ c ∷ d ∷ e ∷ f ∷ rest) h refl
      ∙ ap (onto 1 []) (kept_byte room (inside 1 k1) (inside 2 k2) bank b (c ∷ d ∷ e ∷ f ∷ rest) h refl
      ∙ ap (onto 1 []) (kept_byte room (inside 2 k2) (inside 3 k3) bank c (d ∷ e ∷ f ∷ rest) h refl
      ∙ ap (onto 1 []) (kept_byte room (inside 3 k3) (inside 4 k4) bank d (e ∷ f ∷ rest) h refl
      ∙ ap (onto 1 []) (kept_byte room (inside 4 k4) (inside 5 k5) bank e (f ∷ rest) h refl
      ∙ ap (onto 1 []) (one_taken (inside 5 k5) bank f rest room h
      ∙ ap (λ (s : Sample). following (whole s) 1 room rest) (gathers k a b c d e f l))))))
      ∙ (λ x. record { reader = g.reader; bank = g.bank; read = count g.read x; text = n.text ++ g.text })
    where
      count : (n : ℕ) → 1 + (1 + (1 + (1 + (1 + (1 + n))))) ≡ 6 + n
      count n = omega arith

  six_from_start : (k l : List ℕ) → 6 ≤ length k → 6 ≤ length l → Takes (inside 0 k) bank l 6 (whole (sample_of l))
  unfolding sample_of
  six_from_start k [] m l = absurd (omega arith)
  six_from_start k (a ∷ []) m l = absurd (omega arith)
  six_from_start k (a ∷ b ∷ []) m l = absurd (omega arith)
  six_from_start k (a ∷ b ∷ c ∷ []) m l = absurd (omega arith)
  six_from_start k (a ∷ b ∷ c ∷ d ∷ []) m l = absurd (omega arith)
  six_from_start k (a ∷ b ∷ c ∷ d ∷ e ∷ []) m l = absurd (omega arith)
  six_from_start k (a ∷ b ∷ c ∷ d ∷ e ∷ f ∷ rest) m l = six_inside k a b c d e f rest m

pub takes_sample : (r : Reader) (bank l : List ℕ) → r.stage ≡ InSamples → r.held ≡ 0 → 6 ≤ length r.kept → 6 ≤ length l
    → Takes r bank l 6 (sampled r.reports r.samples (pushed_at bank 0 (sample_of l)))
takes_sample r bank l p q m n =
    subst (λ (x : Reader). Takes x bank l 6 (sampled x.reports x.samples (pushed_at bank 0 (sample_of l))))
    (λ i. record { stage = sym p i; held = sym q i; kept = r.kept; reports = r.reports; samples = r.samples })
    (six_from_start r.reports r.samples bank r.kept l m n)
