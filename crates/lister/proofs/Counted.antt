-- What comes of a read, by what the reader answered: an error is passed on, a count is as many bytes, and 0 is the end. Assumes nothing.
use Rattle.std.proofs.Common.{◌≡◌, sym, subst, List, ℕ, zero, suc, Option, Result, Ok, Err, MatchResult, refl}
use Rattle.std.specs.Io.{ReadsAtMost}
use Rattle.std.specs.Io.KnownBytes.{ReadConsumes}
use Rattle.std.specs.declared.io.Error.{Error}
use Rattle.reads.specs.Counts.{meaning}
use Rattle.lister.specs.declared.Unlisted.{Unlisted}
use Rattle.lister.specs.declared.Unlisted.TheVariants.{Unread}
use Rattle.lister.specs.Inside.{Comes}

pub comes : (left left' : Option (List ℕ)) (input : List ℕ) (got : Result ℕ Error) (r : Result (Option ℕ) Unlisted) → ReadsAtMost got input → ReadConsumes left left' got input
    → MatchResult (meaning got) (λ o. r ≡ Ok o) (λ e. r ≡ Err (Unread e)) → Comes left left' input r
comes left left' input (Err e) r most taken is = subst (Comes left left' input) (sym is) taken
comes left left' input (Ok zero) r most taken is = subst (Comes left left' input) (sym is) (taken.0, λ h. taken.1 refl h)
comes left left' input (Ok (suc n)) r most taken is = subst (Comes left left' input) (sym is) (most.0, taken.0)
