-- For every sequence of pushes the ring gives what the history rule gives of all samples: by the law of one push, sample after sample.
use mathlib.Core.Path.{◌≡◌, refl, ap₂}
use mathlib.Core.Bool.{true, false}
use mathlib.Core.List.{List, [], ◌∷◌}
use Prim.Native.Nat.{ℕ}
use lib.ListN.{length}
use Rattle.model.specs.declared.filter.Sample.{Sample}
use Rattle.feed.specs.declared.Feed.{Feed}
use Rattle.sampling.specs.Tags.{served_nominal, served_rate, kept_rate}
use Rattle.feed.specs.Answers.{Said}
use Rattle.feed.specs.History.{History, opening, told}
use Rattle.feed.specs.Ring.{faulty, opened, history_of, pushed, True}
use Rattle.feed.proofs.Stored.{Fits16}
use Rattle.feed.proofs.Meeting.{Keeps, held_kept, opening_kept, push_meets}

-- what each sample is answered, by the ring and by the history rule
unfoldable pub pushes : Feed → List Sample → List Said
pushes f [] = []
pushes f (s ∷ ss) = (pushed f s).answer ∷ pushes (pushed f s).feed ss

unfoldable pub tells : History → List Sample → List Said
tells h [] = []
tells h (s ∷ ss) = (told h s).answer ∷ tells (told h s).history ss

abbrev pub AllFit16 : List Sample → Type 0
AllFit16 [] = Unit {0}
AllFit16 (s ∷ ss) = Fits16 s × AllFit16 ss

pub ring_meets_rule : (f : Feed) (h : History) → Keeps f h → (ss : List Sample) → AllFit16 ss → pushes f ss ≡ tells h ss
unfolding pushes tells
ring_meets_rule f h k [] fits = refl
ring_meets_rule f h k (s ∷ ss) fits =
    let m = push_meets f h k s fits.0 in
    ap₂ (λ (a : Said) (rest : List Said). a ∷ rest) m.answer_same (ring_meets_rule (pushed f s).feed (told h s).history m.still_keeps ss fits.1)

-- from a fresh opening
pub from_opening : (nominal rate soc : ℕ) → served_nominal nominal ≡ true → served_rate nominal (kept_rate nominal rate) ≡ true
    → (ss : List Sample) → AllFit16 ss → pushes (opened nominal rate soc) ss ≡ tells (opening nominal rate soc) ss
from_opening nominal rate soc a b = ring_meets_rule (opened nominal rate soc) (opening nominal rate soc) (opening_kept nominal rate soc a b)

-- from any feed with samples held and true phases
pub from_held : (f : Feed) → faulty f.head ≡ false → length f.places ≡ 186 → True f → (ss : List Sample) → AllFit16 ss → pushes f ss ≡ tells (history_of f) ss
from_held f e l t = ring_meets_rule f (history_of f) (held_kept f e l t)
